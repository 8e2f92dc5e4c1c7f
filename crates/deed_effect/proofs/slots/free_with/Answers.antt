use Rattle.std.proofs.Common.{◌≡◌, refl, ◌<◌, ◌==◌, ◌∙◌, sym, ap, length, Some, List, subst, slice_get, slice_set}
use Rattle.run_rules.specs.declared.deed.Deed.TheVariants.{Free as FreeDeed}
use Rattle.run_rules.specs.World.{World, Caller, device_at}
use Rattle.run_rules.proofs.Devices.{found_in}
use Rattle.run_sound.proofs.Reasons.{has_command_reason}
use Rattle.ref_ledger.specs.declared.state.SlotState.{SlotState}
use Rattle.ref_ledger.specs.declared.state.SlotState.TheVariants.{Free}
use Rattle.deed_effect.specs.Agreement.{slots_of}
use Rattle.run_world.specs.View.{world_of}
use Rattle.run_world.proofs.CallerLaws.{state_is}
use Rattle.deed_effect.proofs.EffectLaws.{free_may, over_fits}
use Rattle.deed_effect.proofs.GoneLaws.{found_there}
use Rattle.deed_effect.proofs.GoneSpots.{next_condemned, slot_condemned, slot_freed, slots_free}
use Rattle.deed_effect.proofs.slots.free_with.Goals as goal

pub bury_slot-requires : goal.bury_slot-requires
bury_slot-requires g c =
    let w : World = world_of c.args.site.now.setup c.args.core.now in
    let apart = c.requires.kept.sound.devices.apart in
    let x = c.in-Some.device in
    let at : device_at w.live c.args.of ≡ Some x = sym c.get.ensures ∙ c.in-Some.is in
    let inside : x.spot < length w.setup.machine.spots = found_in (λ d. d.spot < length w.setup.machine.spots) (λ d. d.serial == c.args.of) w.live x c.requires.kept.ranges.devices.spots at in
    let last = (has_command_reason w c.args.caller (FreeDeed c.args.of) c.requires.chosen).last in
    ap (λ (xs : List SlotState). slice_get xs x.spot) c.requires.agree ∙ slot_condemned w c.args.of x apart at (next_condemned w.setup w.live c.args.caller c.args.of x apart last at) inside

pub free-requires-clause-live : goal.free-requires-clause-live
free-requires-clause-live g c = (free_may (world_of c.args.site.now.setup c.args.core.now) c.args.caller c.args.of c.requires.kept c.requires.chosen).0

pub free-requires-clause-children : goal.free-requires-clause-children
free-requires-clause-children g c = (free_may (world_of c.args.site.now.setup c.args.core.now) c.args.caller c.args.of c.requires.kept c.requires.chosen).1

pub free-requires-clause-low : goal.free-requires-clause-low
free-requires-clause-low g c =
    subst (λ (x : Caller). x.over < 4294967295) (sym (state_is c.args.core.now.callers.items c.args.caller))
    (over_fits (world_of c.args.site.now.setup c.args.core.now) c.args.caller c.requires.may c.requires.kept)

pub unreachable-requires : goal.unreachable-requires
unreachable-requires g c =
    found_there c.args.core.now.tree.live c.args.of (free_may (world_of c.args.site.now.setup c.args.core.now) c.args.caller c.args.of c.requires.kept c.requires.chosen).0 (sym c.get.ensures ∙ c.in-None.is)

pub returns-in-Ok-clause-agree : goal.returns-in-Ok-clause-agree
returns-in-Ok-clause-agree g c =
    let w : World = world_of c.args.site.now.setup c.args.core.now in
    let apart = c.requires.kept.sound.devices.apart in
    let x = c.in-Some.device in
    let at : device_at w.live c.args.of ≡ Some x = sym c.get.ensures ∙ c.in-Some.is in
    let inside : x.spot < length w.setup.machine.spots = found_in (λ d. d.spot < length w.setup.machine.spots) (λ d. d.serial == c.args.of) w.live x c.requires.kept.ranges.devices.spots at in
    c.in-Ok.ensures.freed ∙ ap (λ (xs : List SlotState). slice_set xs x.spot Free) c.requires.agree ∙ slot_freed w c.args.of x apart at inside ∙ slots_free w c.args.caller c.args.of ∙ ap slots_of (sym c.free.ensures.world)

pub returns-in-Err-clause-halt : goal.returns-in-Err-clause-halt
returns-in-Err-clause-halt g c = (
  c.args.of,
  refl,
  record {
    mask = c.in-Err.mask;
    device = c.in-Some.device;
    found = sym c.get.ensures ∙ c.in-Some.is;
    why_is = refl;
    denied_so = c.in-Err.ensures.held;
  },
)

pub free-requires-clause-books : goal.free-requires-clause-books
free-requires-clause-books g c = c.requires.books

pub free-requires-clause-sound : goal.free-requires-clause-sound
free-requires-clause-sound g c = c.requires.kept.sound.devices

pub free-requires-clause-rows : goal.free-requires-clause-rows
free-requires-clause-rows g c = c.requires.kept.ranges.devices.rows

pub free-requires-clause-caller : goal.free-requires-clause-caller
free-requires-clause-caller g c = c.requires.caller

pub returns-in-Ok-clause-freed : goal.returns-in-Ok-clause-freed
returns-in-Ok-clause-freed g c = c.free.ensures.world

pub returns-in-Ok-clause-quiet : goal.returns-in-Ok-clause-quiet
returns-in-Ok-clause-quiet g c = c.in-Ok.ensures.quiet

pub returns-in-Ok-clause-books : goal.returns-in-Ok-clause-books
returns-in-Ok-clause-books g c = c.free.ensures.books

pub returns-in-Err-clause-same : goal.returns-in-Err-clause-same
returns-in-Err-clause-same g c = refl

pub returns-in-Err-clause-agree : goal.returns-in-Err-clause-agree
returns-in-Err-clause-agree g c = c.in-Err.ensures.same ∙ c.requires.agree

pub returns-in-Err-clause-books : goal.returns-in-Err-clause-books
returns-in-Err-clause-books g c = c.requires.books
