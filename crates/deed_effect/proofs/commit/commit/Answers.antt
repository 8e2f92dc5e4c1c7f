use Rattle.std.proofs.Common.{◌≡◌, ◌<◌, ◌++◌, ◌∙◌, ap, arith, length, refl, slice_set, subst, sym}
use Rattle.std.specs.Prelude.{IfSome, IsTrue}
use Rattle.run_rules.specs.declared.deed.Deed.{Deed}
use Rattle.run_rules.specs.declared.world.Key.TheVariants as key
use Rattle.run_rules.specs.After.{under_top}
use Rattle.run_rules.specs.World.{World, Caller, caller_at, nobody}
use Rattle.run_world.specs.Callers.{framed, released_frames}
use Rattle.run_world.specs.View.{world_of, callers_of, caller_of}
use Rattle.run_world.proofs.CallerLaws.{map_set, at_is, state_is}
use Rattle.deed_effect.proofs.CommitLaws.{frame_there, phase_comes, place_low, scan_over}
use Rattle.run_sound.proofs.Reasons.{has_reason}
use Rattle.deed_effect.proofs.EffectLaws.{command_is_left}
use Rattle.run_world.proofs.StepLaws.{deed_arrives}
use Rattle.run_world.proofs.TellLaws.{few_over, low_at}
use Rattle.run_sound.proofs.Coming.{HasReason, IsCall, IsScanEnd, IsTurn}
use Rattle.scan_engine.specs.Frames.{is_scanning}
use Rattle.run_world.specs.Arrivals.{MayArrive}
use Rattle.run_world.specs.Arrivals.{got_of}
use Rattle.deed_effect.proofs.commit.commit.Goals as goal

pub do_command-requires-clause-command : goal.do_command-requires-clause-command
do_command-requires-clause-command c =
    command_is_left c.args.deed.now c.in_default.not-Search c.in_default.not-EndScan c.in_default.not-BeginInterrupts c.in_default.not-Finalise

pub search-requires-clause-may : goal.search-requires-clause-may
search-requires-clause-may c =
    let w : World = world_of c.args.site.now.setup c.args.core.now in
    subst (λ (d : Deed). IfSome (got_of d) (MayArrive w.setup w.live)) c.in-Search.is (deed_arrives w c.args.caller c.args.deed.now c.requires.may c.requires.kept c.requires.chosen)

pub search-requires-clause-top : goal.search-requires-clause-top
search-requires-clause-top c =
    let w : World = world_of c.args.site.now.setup c.args.core.now in
    let k = c.args.caller in
    let why : IsTurn w k c.in-Search.parent c.in-Search.spot c.in-Search.moved c.in-Search.got = subst (HasReason w k) c.in-Search.is (has_reason w k c.args.deed.now c.requires.chosen) in
    subst (λ (x : Caller). IsTrue (is_scanning x.stack)) (sym (state_is c.args.core.now.callers.items k)) (rw why.stack refl)

pub end_scan-requires-clause-low : goal.end_scan-requires-clause-low
end_scan-requires-clause-low c = λ scans.
    low_at c.args.site.now.setup c.args.core.now c.args.caller c.index_mut.result.now c.requires.may c.requires.kept c.requires.caller c.index_mut.ensures.value

pub end_scan-requires-clause-top : goal.end_scan-requires-clause-top
end_scan-requires-clause-top c =
    let w : World = world_of c.args.site.now.setup c.args.core.now in
    let k = c.args.caller in
    let why : IsScanEnd w k c.in-EndScan.of = subst (HasReason w k) c.in-EndScan.is (has_reason w k c.args.deed.now c.requires.chosen) in
    subst (λ (x : Caller). 0 < length x.stack) (sym (at_is caller_of c.args.core.now.callers.items k c.index_mut.result.now nobody c.requires.caller c.index_mut.ensures.value)) (rw why.stack (omega arith))

pub release-requires-clause-low : goal.release-requires-clause-low
release-requires-clause-low c = λ scans.
    low_at c.args.site.now.setup c.args.core.now c.args.caller c.index_mut-in-BeginInterrupts.result.now c.requires.may c.requires.kept c.requires.caller c.index_mut-in-BeginInterrupts.ensures.value

pub finalise-requires-clause-may : goal.finalise-requires-clause-may
finalise-requires-clause-may c =
    let w : World = world_of c.args.site.now.setup c.args.core.now in
    subst (λ (d : Deed). IfSome (got_of d) (MayArrive w.setup w.live)) c.in-Finalise.is (deed_arrives w c.args.caller c.args.deed.now c.requires.may c.requires.kept c.requires.chosen)

pub finalise-requires-clause-low : goal.finalise-requires-clause-low
finalise-requires-clause-low c = λ scans. few_over c.args.site.now.setup c.args.core.now c.args.caller c.requires.may c.requires.kept

pub finalise-requires-clause-place : goal.finalise-requires-clause-place
finalise-requires-clause-place c =
    let w : World = world_of c.args.site.now.setup c.args.core.now in
    let k = c.args.caller in
    let x = c.in-Finalise in
    let why : IsCall w k x.of x.shown x.got x.listed x.anew = subst (HasReason w k) x.is (has_reason w k c.args.deed.now c.requires.chosen) in
    place_low w k x.of x.listed x.anew (omega (arith, c.args.core.now.finalisers.ok)) why.called

pub finalise-requires-clause-frame : goal.finalise-requires-clause-frame
finalise-requires-clause-frame c = λ none bare.
    (let w : World = world_of c.args.site.now.setup c.args.core.now in
    let k = c.args.caller in
    let x = c.in-Finalise in
    let why : IsCall w k x.of x.shown x.got x.listed x.anew = subst (HasReason w k) x.is (has_reason w k c.args.deed.now c.requires.chosen) in
    let frame = frame_there w k x.of x.shown x.got x.listed x.anew why none bare in
    (subst (λ (y : Caller). 0 < length y.stack) (sym (state_is c.args.core.now.callers.items k)) frame.0, frame.1))

pub returns-in-EndScan-clause-ok : goal.returns-in-EndScan-clause-ok
returns-in-EndScan-clause-ok c =
    let core = c.args.core.now in
    let w : World = world_of c.args.site.now.setup core in
    let k = c.args.caller in
    let cs = core.callers.items in
    let was : caller_of c.index_mut.result.now ≡ caller_at w k = at_is caller_of cs k c.index_mut.result.now nobody c.requires.caller c.index_mut.ensures.value in
    let set : callers_of (slice_set cs k c.end_scan.new.self) ≡ slice_set w.callers k (framed (caller_at w k) (released_frames w.deferred (key.Parent c.in-EndScan.of) ++ under_top (caller_at w k).stack)) =
    map_set caller_of cs k c.end_scan.new.self
    ∙ ap (slice_set w.callers k) (c.end_scan.ensures.caller ∙ ap (λ (x : Caller). framed x (released_frames w.deferred (key.Parent c.in-EndScan.of) ++ under_top x.stack)) was) in
    rw c.in-EndScan.is (scan_over w _ k c.in-EndScan.of (rw (c.end_scan.ensures.deferred, set) refl))

pub returns-in-BeginInterrupts-clause-ok : goal.returns-in-BeginInterrupts-clause-ok
returns-in-BeginInterrupts-clause-ok c =
    let core = c.args.core.now in
    let w : World = world_of c.args.site.now.setup core in
    let k = c.args.caller in
    let cs = core.callers.items in
    let was : caller_of c.index_mut-in-BeginInterrupts.result.now ≡ caller_at w k =
    at_is caller_of cs k c.index_mut-in-BeginInterrupts.result.now nobody c.requires.caller c.index_mut-in-BeginInterrupts.ensures.value in
    let set : callers_of (slice_set cs k c.release.new.self) ≡ slice_set w.callers k (framed (caller_at w k) (released_frames w.deferred key.Interrupts ++ (caller_at w k).stack)) =
    map_set caller_of cs k c.release.new.self
    ∙ ap (slice_set w.callers k) (c.release.ensures.caller ∙ ap (λ (x : Caller). framed x (released_frames w.deferred key.Interrupts ++ x.stack)) was) in
    rw c.in-BeginInterrupts.is (phase_comes w _ k (rw (c.release.ensures.deferred, set) refl))

pub returns-in-Search-clause-ok : goal.returns-in-Search-clause-ok
returns-in-Search-clause-ok c = rw c.in-Search.is (c.search.ensures.ok c.in-Search.parent c.in-Search.spot)

pub returns-in-Search-clause-err : goal.returns-in-Search-clause-err
returns-in-Search-clause-err c = c.search.ensures.err

pub returns-in-Search-clause-books : goal.returns-in-Search-clause-books
returns-in-Search-clause-books c = c.search.ensures.books

pub returns-in-Finalise-clause-ok : goal.returns-in-Finalise-clause-ok
returns-in-Finalise-clause-ok c = rw c.in-Finalise.is (c.finalise.ensures.ok c.in-Finalise.of)

pub returns-in-Finalise-clause-err : goal.returns-in-Finalise-clause-err
returns-in-Finalise-clause-err c = c.finalise.ensures.err

pub returns-in-Finalise-clause-books : goal.returns-in-Finalise-clause-books
returns-in-Finalise-clause-books c = c.finalise.ensures.books

pub returns-in_default-clause-ok : goal.returns-in_default-clause-ok
returns-in_default-clause-ok c = c.do_command.ensures.ok

pub returns-in_default-clause-err : goal.returns-in_default-clause-err
returns-in_default-clause-err c = c.do_command.ensures.err

pub returns-in_default-clause-books : goal.returns-in_default-clause-books
returns-in_default-clause-books c = c.do_command.ensures.books

pub search-requires-clause-books : goal.search-requires-clause-books
search-requires-clause-books c = c.requires.books

pub search-requires-clause-caller : goal.search-requires-clause-caller
search-requires-clause-caller c = c.requires.caller

pub search-requires-clause-next : goal.search-requires-clause-next
search-requires-clause-next c = c.requires.next

pub finalise-requires-clause-books : goal.finalise-requires-clause-books
finalise-requires-clause-books c = c.requires.books

pub finalise-requires-clause-caller : goal.finalise-requires-clause-caller
finalise-requires-clause-caller c = c.requires.caller

pub finalise-requires-clause-next : goal.finalise-requires-clause-next
finalise-requires-clause-next c = c.requires.next

pub do_command-requires-clause-may : goal.do_command-requires-clause-may
do_command-requires-clause-may c = c.requires.may

pub do_command-requires-clause-books : goal.do_command-requires-clause-books
do_command-requires-clause-books c = c.requires.books

pub do_command-requires-clause-kept : goal.do_command-requires-clause-kept
do_command-requires-clause-kept c = c.requires.kept

pub do_command-requires-clause-caller : goal.do_command-requires-clause-caller
do_command-requires-clause-caller c = c.requires.caller

pub do_command-requires-clause-chosen : goal.do_command-requires-clause-chosen
do_command-requires-clause-chosen c = c.requires.chosen

pub returns-in-EndScan-clause-books : goal.returns-in-EndScan-clause-books
returns-in-EndScan-clause-books c = record {
  marks = c.requires.books.marks;
  units = c.requires.books.units;
  drivers = c.requires.books.drivers;
  recent = c.requires.books.recent;
}

pub returns-in-BeginInterrupts-clause-books : goal.returns-in-BeginInterrupts-clause-books
returns-in-BeginInterrupts-clause-books c = record {
  marks = c.requires.books.marks;
  units = c.requires.books.units;
  drivers = c.requires.books.drivers;
  recent = c.requires.books.recent;
}
