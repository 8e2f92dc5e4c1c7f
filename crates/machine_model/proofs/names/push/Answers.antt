use Rattle.std.proofs.Common.{◌≡◌, length, refl, rules}
use Rattle.machine_model.specs.Names.{slot_of}
use Rattle.machine_model.proofs.NameLemmas.{rest_name, rest_slots, took_slot, took_slots}
use Rattle.machine_model.proofs.names.push.Goals as goal

pub returns-then-take_slot-clause-slots : goal.returns-then-take_slot-clause-slots
returns-then-take_slot-clause-slots c =
    let old = c.args.names.now in
    let slot : c.slot_of-slot.result ≡ slot_of (length old.slots.items) c.args.name.now = search rules in
    let size : c.len-number.result ≡ length old.names.items = search rules in
    took_slots old (record { names = c.push.new.self; slots = c.take_slot.new.slots; rest = old.rest }) c.args.name c.slot_of-slot.result c.len-number.result _ _ c.take_slot.result refl c.take_slot.ensures.taken c.take_slot.ensures.slots refl slot size c.in_ok-push.ensures.items c.requires.few c.requires.slots c.if-take_slot.true refl

pub returns-then-take_slot-clause-names : goal.returns-then-take_slot-clause-names
returns-then-take_slot-clause-names c = λ list have.
    let old = c.args.names.now in
    let slot : c.slot_of-slot.result ≡ slot_of (length old.slots.items) c.args.name.now = search rules in
    let size : c.len-number.result ≡ length old.names.items = search rules in
    took_slot old (record { names = c.push.new.self; slots = c.take_slot.new.slots; rest = old.rest }) c.args.name c.slot_of-slot.result c.len-number.result _ _ c.take_slot.result refl c.take_slot.ensures.taken c.take_slot.ensures.slots refl slot size c.in_ok-push.ensures.items c.requires.few c.requires.slots c.if-take_slot.true refl list have

pub returns-clause-slots : goal.returns-clause-slots
returns-clause-slots c =
    let old = c.args.names.now in
    let slot : c.slot_of-slot.result ≡ slot_of (length old.slots.items) c.args.name.now = search rules in
    let size : c.len-number.result ≡ length old.names.items = search rules in
    rest_slots old (record { names = c.push.new.self; slots = c.take_slot.new.slots; rest = c.push-2.new.numbers }) c.args.name c.slot_of-slot.result c.len-number.result _ _ c.take_slot.result refl c.take_slot.ensures.taken c.take_slot.ensures.slots refl slot size c.in_ok-push.ensures.items c.requires.few c.requires.slots c.if-take_slot.false c.in_ok-push-2.ensures

pub returns-clause-names : goal.returns-clause-names
returns-clause-names c = λ list have.
    let old = c.args.names.now in
    let slot : c.slot_of-slot.result ≡ slot_of (length old.slots.items) c.args.name.now = search rules in
    let size : c.len-number.result ≡ length old.names.items = search rules in
    rest_name old (record { names = c.push.new.self; slots = c.take_slot.new.slots; rest = c.push-2.new.numbers }) c.args.name c.slot_of-slot.result c.len-number.result _ _ c.take_slot.result refl c.take_slot.ensures.taken c.take_slot.ensures.slots refl slot size c.in_ok-push.ensures.items c.requires.few c.requires.slots c.if-take_slot.false c.in_ok-push-2.ensures list have
