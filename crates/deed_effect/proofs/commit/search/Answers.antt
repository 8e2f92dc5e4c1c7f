use Rattle.std.proofs.Common.{◌≡◌, ◌<◌, ◌∙◌, ap, subst, arith, length, slice_set, length-set, List}
use Rattle.std.specs.Prelude.{IsTrue}
use Rattle.std.specs.List.{slice_index_or}
use Rattle.std.proofs.lemmas.List.{length-map}
use Rattle.run_rules.specs.After.{moved_top}
use Rattle.run_rules.specs.World.{World, Caller, caller_at, nobody}
use Rattle.scan_engine.specs.Frames.{is_scanning}
use Rattle.run_sound.proofs.Callers.{caller_here}
use Rattle.run_world.specs.View.{world_of, callers_of, caller_of}
use Rattle.run_world.specs.Callers.{stacked}
use Rattle.deed_effect.proofs.ArriveLaws.{ok_of, err_of}
use Rattle.run_world.proofs.CallerLaws.{map_set, at_is, state_is}
use Rattle.deed_effect.proofs.CommitLaws.{searched, moved_back, moved_scans}
use Rattle.run_world.proofs.CallerLaws.{with_callers}
use Rattle.deed_effect.proofs.commit.search.Goals as goal

pub returns-clause-ok : goal.returns-clause-ok
returns-clause-ok c = λ parent spot.
    (let core = c.args.core.now in
    let w : World = world_of c.args.site.now.setup core in
    let k = c.args.caller in
    let cs = core.callers.items in
    let was : caller_of c.index_mut.result.now ≡ caller_at w k = at_is caller_of cs k c.index_mut.result.now nobody c.requires.caller c.index_mut.ensures.value in
    let scans : IsTrue (is_scanning (caller_at w k).stack) = rw (← state_is cs k) c.requires.top in
    let moved : callers_of (slice_set cs k c.advance.new.self) ≡ slice_set w.callers k (stacked (caller_at w k) (moved_top c.args.moved (caller_at w k).stack)) =
    map_set caller_of cs k c.advance.new.self ∙ ap (slice_set w.callers k) (c.advance.ensures.caller ∙ ap (λ (x : Caller). stacked x (moved_top c.args.moved x.stack)) was) in
    searched w (with_callers w (callers_of (slice_set cs k c.advance.new.self))) (world_of c.args.site.now.setup c.arrive.new.core) k parent spot c.args.moved c.args.got scans
    (ap (with_callers w) moved) (ok_of _ c.arrive.result c.is_err.result c.is_err.ensures.value c.if-is_err.false c.arrive.ensures.ok))

-- the callers where nothing came: the scan has moved
pub advance-requires-then-is_err : goal.advance-requires-then-is_err
advance-requires-then-is_err c =
    let core = c.args.core.now in
    let w : World = world_of c.args.site.now.setup core in
    let k = c.args.caller in
    let cs = core.callers.items in
    let was : caller_of c.index_mut.result.now ≡ caller_at w k = at_is caller_of cs k c.index_mut.result.now nobody c.requires.caller c.index_mut.ensures.value in
    let moved : caller_of c.advance.new.self ≡ stacked (caller_at w k) (moved_top c.args.moved (caller_at w k).stack) =
    c.advance.ensures.caller ∙ ap (λ (x : Caller). stacked x (moved_top c.args.moved x.stack)) was in
    let same : callers_of c.arrive.new.core.callers.items ≡ callers_of (slice_set cs k c.advance.new.self) =
    ap (λ (v : World). v.callers) (err_of _ c.arrive.result c.is_err.result c.is_err.ensures.value c.if-is_err.true c.arrive.ensures.err) in
    let many : k < length c.arrive.new.core.callers.items =
    omega (arith, c.requires.caller, ap length same, length-map c.arrive.new.core.callers.items caller_of, length-map (slice_set cs k c.advance.new.self) caller_of, length-set cs k c.advance.new.self) in
    let now : caller_of c.index_mut-then-is_err.result.now ≡ stacked (caller_at w k) (moved_top c.args.moved (caller_at w k).stack) =
    at_is caller_of c.arrive.new.core.callers.items k c.index_mut-then-is_err.result.now nobody many c.index_mut-then-is_err.ensures.value
    ∙ ap (λ (xs : List Caller). slice_index_or xs k nobody) (same ∙ map_set caller_of cs k c.advance.new.self ∙ ap (slice_set w.callers k) moved)
    ∙ caller_here w k (stacked (caller_at w k) (moved_top c.args.moved (caller_at w k).stack)) (omega (arith, c.requires.caller, length-map cs caller_of)) in
    let scans : is_scanning c.index_mut-then-is_err.result.now.stack.frames ≡ is_scanning (caller_at w k).stack =
    ap (λ (x : Caller). is_scanning x.stack) now ∙ moved_scans c.args.moved (caller_at w k).stack in
    record { top = scans ∙ rw (← state_is cs k) c.requires.top }

pub returns-then-is_err-clause-err : goal.returns-then-is_err-clause-err
returns-then-is_err-clause-err c =
    let s = c.args.site.now.setup in
    let core = c.args.core.now in
    let w : World = world_of s core in
    let k = c.args.caller in
    let cs = core.callers.items in
    let was : caller_of c.index_mut.result.now ≡ caller_at w k = at_is caller_of cs k c.index_mut.result.now nobody c.requires.caller c.index_mut.ensures.value in
    let moved : caller_of c.advance.new.self ≡ stacked (caller_at w k) (moved_top c.args.moved (caller_at w k).stack) =
    c.advance.ensures.caller ∙ ap (λ (x : Caller). stacked x (moved_top c.args.moved x.stack)) was in
    let mid : world_of s c.arrive.new.core ≡ with_callers w (callers_of (slice_set cs k c.advance.new.self)) =
    err_of _ c.arrive.result c.is_err.result c.is_err.ensures.value c.if-is_err.true c.arrive.ensures.err in
    let set : callers_of (slice_set cs k c.advance.new.self) ≡ slice_set w.callers k (stacked (caller_at w k) (moved_top c.args.moved (caller_at w k).stack)) =
    map_set caller_of cs k c.advance.new.self ∙ ap (slice_set w.callers k) moved in
    let same : callers_of c.arrive.new.core.callers.items ≡ slice_set w.callers k (stacked (caller_at w k) (moved_top c.args.moved (caller_at w k).stack)) =
    ap (λ (v : World). v.callers) mid ∙ set in
    let many : k < length c.arrive.new.core.callers.items =
    omega (
      arith,
      c.requires.caller,
      ap length same,
      length-map c.arrive.new.core.callers.items caller_of,
      length-map cs caller_of,
      length-set w.callers k (stacked (caller_at w k) (moved_top c.args.moved (caller_at w k).stack)),
    ) in
    let now : caller_of c.index_mut-then-is_err.result.now ≡ stacked (caller_at w k) (moved_top c.args.moved (caller_at w k).stack) =
    at_is caller_of c.arrive.new.core.callers.items k c.index_mut-then-is_err.result.now nobody many c.index_mut-then-is_err.ensures.value
    ∙ ap (λ (xs : List Caller). slice_index_or xs k nobody) same
    ∙ caller_here w k (stacked (caller_at w k) (moved_top c.args.moved (caller_at w k).stack)) (omega (arith, c.requires.caller, length-map cs caller_of)) in
    let here : moved_top c.position-was.result (caller_at w k).stack ≡ (caller_at w k).stack =
    subst (λ (x : Caller). moved_top c.position-was.result x.stack ≡ x.stack) (at_is caller_of cs k c.index.result.now nobody c.requires.caller c.index.ensures) c.position-was.ensures in
    let back : callers_of (slice_set c.arrive.new.core.callers.items k c.advance-then-is_err.new.self) ≡ w.callers =
    map_set caller_of c.arrive.new.core.callers.items k c.advance-then-is_err.new.self
    ∙ ap (slice_set (callers_of c.arrive.new.core.callers.items) k) (c.advance-then-is_err.ensures.caller ∙ ap (λ (x : Caller). stacked x (moved_top c.position-was.result x.stack)) now)
    ∙ ap (λ (xs : List Caller). slice_set xs k (stacked (stacked (caller_at w k) (moved_top c.args.moved (caller_at w k).stack)) (moved_top c.position-was.result (moved_top c.args.moved (caller_at w k).stack)))) same
    ∙ moved_back w k c.args.moved c.position-was.result here in
    ap (λ (v : World). with_callers v (callers_of (slice_set c.arrive.new.core.callers.items k c.advance-then-is_err.new.self))) mid ∙ ap (with_callers w) back

pub arrive-requires-clause-may : goal.arrive-requires-clause-may
arrive-requires-clause-may c = c.requires.may

pub arrive-requires-clause-next : goal.arrive-requires-clause-next
arrive-requires-clause-next c = c.requires.next

pub arrive-requires-clause-call_room : goal.arrive-requires-clause-call_room
arrive-requires-clause-call_room c = c.requires.call_room

pub arrive-requires-clause-books : goal.arrive-requires-clause-books
arrive-requires-clause-books c = record {
  marks = c.requires.books.marks;
  units = c.requires.books.units;
  drivers = c.requires.books.drivers;
  recent = c.requires.books.recent;
}

pub returns-clause-books : goal.returns-clause-books
returns-clause-books c = c.arrive.ensures.books

pub returns-then-is_err-clause-books : goal.returns-then-is_err-clause-books
returns-then-is_err-clause-books c = record {
  marks = c.arrive.ensures.books.marks;
  units = c.arrive.ensures.books.units;
  drivers = c.arrive.ensures.books.drivers;
  recent = c.arrive.ensures.books.recent;
}
