use Rattle.run_rules.specs.declared.world.Arrival.{Arrival}
use Rattle.std.specs.Prelude.{IfSome, Option}
use Rattle.std.proofs.Common.{◌≡◌, ◌<◌, ◌∙◌, refl, ap, arith, length, slice_set, subst}
use Rattle.std.specs.List.{slice_index_or}
use Rattle.std.proofs.lemmas.List.{length-map}
use Rattle.run_rules.specs.World.{World, caller_at, nobody}
use Rattle.run_world.specs.View.{world_of, callers_of, caller_of}
use Rattle.run_world.specs.Arrivals.{MayArrive, searched_too, finalised_too, called_too}
use Rattle.run_world.proofs.CallerLaws.{map_set, at_is}
use Rattle.deed_effect.proofs.AttachLaws.{attached_is}
use Rattle.deed_effect.proofs.attach.arrive.Goals as goal

pub returns-clause-ok : goal.returns-clause-ok
returns-clause-ok c =
    let s = c.args.site.now.setup in
    let k = c.args.caller in
    let core = c.args.core.now in
    let w : World = world_of s core in
    let f = c.finaliser_placing-finaliser.result in
    let p = c.scan_placing-scan.result in
    let serial : c.in_ok-serial.serial ≡ core.tree.next = c.in_ok-serial.ensures.serial in
    let listed_callers : c.list.new.core.callers.items ≡ core.callers.items = ap (λ v. v.items) c.in_ok-serial.ensures.ok.callers in
    let there : k < length c.list.new.core.callers.items = omega (arith, c.requires.caller, ap length listed_callers) in
    let was : caller_of c.index_mut.result.now ≡ caller_at w k =
    at_is caller_of c.list.new.core.callers.items k c.index_mut.result.now nobody there c.index_mut.ensures.value ∙ ap (λ cs. slice_index_or (callers_of cs) k nobody) listed_callers in
    let called : c.call_later.new.finalisers.items ≡ called_too f core.finalisers.items core.tree.next =
    c.call_later.ensures ∙ ap (λ v. called_too f v.items c.in_ok-serial.serial) c.in_ok-serial.ensures.ok.finalisers ∙ ap (called_too f core.finalisers.items) serial in
    let placed : callers_of (slice_set c.list.new.core.callers.items k c.place.new.self) ≡ slice_set w.callers k (searched_too p (finalised_too f (caller_at w k) w.next) w.next) =
    map_set caller_of c.list.new.core.callers.items k c.place.new.self
    ∙ ap (λ x. slice_set (callers_of c.list.new.core.callers.items) k x) (c.place.ensures ∙ rw (was, serial) refl)
    ∙ ap (λ cs. slice_set (callers_of cs) k (searched_too p (finalised_too f (caller_at w k) w.next) w.next)) listed_callers in
    rw c.in-Some.is (attached_is w _ k c.in-Some.arrival c.args.may_defer f p (omega (arith, c.requires.caller, length-map core.callers.items caller_of))
    (c.finaliser_placing-finaliser.ensures ∙ rw (c.policy_of-policy.ensures, c.is_ended.ensures s) refl)
    (c.scan_placing-scan.ensures ∙ rw (c.policy_of-policy.ensures, c.offered-offers.ensures, c.driver_of.ensures) refl)
    (rw (called, placed) (ap (λ (v : World). record v { finalisers = called_too f w.finalisers w.next; callers = slice_set w.callers k (searched_too p (finalised_too f (caller_at w k) w.next) w.next) }) c.in_ok-serial.ensures.ok.world)))

pub list-requires-clause-books : goal.list-requires-clause-books
list-requires-clause-books c = c.requires.books

pub list-requires-clause-next : goal.list-requires-clause-next
list-requires-clause-next c = c.requires.next

pub list-requires-clause-may : goal.list-requires-clause-may
list-requires-clause-may c = subst (λ (o : Option Arrival). IfSome o (MayArrive c.args.site.now.setup c.args.core.now.tree.live)) c.in-Some.is c.requires.may

pub call_later-requires : goal.call_later-requires
call_later-requires c = rw c.in_ok-serial.ensures.ok.finalisers c.requires.call_room

pub returns-clause-books : goal.returns-clause-books
returns-clause-books c = record {
  marks = c.list.ensures.books.marks;
  units = c.list.ensures.books.units;
  drivers = c.list.ensures.books.drivers;
  recent = c.list.ensures.books.recent;
}

pub returns-in_err-serial-clause-books : goal.returns-in_err-serial-clause-books
returns-in_err-serial-clause-books c = c.list.ensures.books
