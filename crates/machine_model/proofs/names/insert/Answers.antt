use Rattle.std.proofs.Common.{◌≡◌, length, refl, rules}
use Rattle.machine_model.proofs.NameLemmas.{new_rest, rest_name, took_slot}
use Rattle.machine_model.proofs.names.insert.Goals as goal

pub returns-then-take_slot : goal.returns-then-take_slot
returns-then-take_slot c = λ list are.
    let old = c.args.names.now in
    let size : c.len-number.result ≡ length old.names.items = search rules in
    record {
      have = took_slot old (record { names = c.push.new.self; slots = c.take_slot.new.slots; rest = old.rest }) c.args.name c.args.slot c.len-number.result _ _ c.take_slot.result refl c.take_slot.ensures.taken c.take_slot.ensures.slots refl c.requires.slot size c.in_ok-push.ensures.items c.requires.few c.requires.slots c.if-take_slot.true refl list are.have;
      order = are.order;
    }

pub add-requires-clause-new : goal.add-requires-clause-new
add-requires-clause-new c =
    let old = c.args.names.now in
    let size : c.len-number.result ≡ length old.names.items = search rules in
    new_rest old (record { names = c.push.new.self; slots = c.take_slot.new.slots; rest = old.rest }) c.args.name c.args.slot c.len-number.result _ _ c.take_slot.result refl c.take_slot.ensures.taken c.take_slot.ensures.slots refl c.requires.slot size c.in_ok-push.ensures.items c.requires.few c.requires.slots c.if-take_slot.false c.requires.new

pub returns : goal.returns
returns c = λ list are.
    let old = c.args.names.now in
    let size : c.len-number.result ≡ length old.names.items = search rules in
    record {
      have = rest_name old (record { names = c.push.new.self; slots = c.take_slot.new.slots; rest = c.add.new.numbers }) c.args.name c.args.slot c.len-number.result _ _ c.take_slot.result refl c.take_slot.ensures.taken c.take_slot.ensures.slots refl c.requires.slot size c.in_ok-push.ensures.items c.requires.few c.requires.slots c.if-take_slot.false c.in_ok-add.ensures.also list are.have;
      order = c.in_ok-add.ensures.order;
    }
