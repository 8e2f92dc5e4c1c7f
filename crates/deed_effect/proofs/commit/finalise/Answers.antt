use Rattle.std.proofs.Common.{◌≡◌, ◌<◌, ◌∙◌, ◌+◌, ◌||◌, ◌&&◌, not, is_some, true, false, sym, ap, subst, length, slice_set, List, Option, Some, None, Bool}
use Rattle.run_rules.specs.declared.world.Arrival.{Arrival}
use Rattle.run_rules.specs.declared.world.Activity.TheVariants.{Scans}
use Rattle.run_rules.specs.After.{arrived, under_top, finaliser_done}
use Rattle.run_rules.specs.World.{World, Caller, caller_at}
use Rattle.run_world.specs.Arrivals.{state_at}
use Rattle.deed_effect.specs.Commits.{shown_now}
use Rattle.run_world.specs.View.{world_of, callers_of, caller_of}
use Rattle.run_world.specs.Callers.{framed}
use Rattle.run_world.proofs.CallerLaws.{map_set, state_is}
use Rattle.deed_effect.proofs.CommitLaws.{caller_same, finalised, hidden_now, none_is, some_is, frame_over}
use Rattle.deed_effect.proofs.commit.finalise.Goals as goal

-- the world once what was found has come and the spot is shown
pub returns-in-Some-clause-ok : goal.returns-in-Some-clause-ok
returns-in-Some-clause-ok c = λ of.
    (let w : World = world_of c.args.site.now.setup c.args.core.now in
    let shown = c.args.call.shown in
    let anew = c.args.call.anew in
    let place = c.in-Some.place in
    rw (c.in-Some.is, hidden_now w (world_of c.args.site.now.setup c.arrive.new.core) c.args.caller c.args.call.got shown _ c.in_ok-arrive.ensures.ok c.show.ensures, ← c.goes_again-core.ensures)
    (ap (λ (v : World). record v { hidden = shown_now w.hidden shown; next_finaliser = place + 1; pass_repeats = is_some shown || (not anew && v.pass_repeats) }) c.in_ok-arrive.ensures.ok
    ∙ finalised w c.args.caller of shown c.args.call.got (Some place) anew))

pub returns-else-is_none-clause-ok : goal.returns-else-is_none-clause-ok
returns-else-is_none-clause-ok c = λ of.
    (let w : World = world_of c.args.site.now.setup c.args.core.now in
    let k = c.args.caller in
    let shown = c.args.call.shown in
    let got = c.args.call.got in
    let answers : is_some shown ≡ true = some_is shown c.is_none.result c.is_none.ensures c.if-is_none.false in
    let came : World = record (arrived w k got false) { hidden = shown_now w.hidden shown } in
    rw (c.in-None.is, hidden_now w (world_of c.args.site.now.setup c.arrive.new.core) k got shown _ c.in_ok-arrive.ensures.ok c.show.ensures)
    (ap (λ (v : World). record v { hidden = shown_now w.hidden shown }) c.in_ok-arrive.ensures.ok
    ∙ ap (λ (b : Bool). finaliser_done came k None b) (sym answers)
    ∙ finalised w k of shown got None c.args.call.anew))

pub leave-requires-clause-low : goal.leave-requires-clause-low
leave-requires-clause-low c =
    let core = c.args.core.now in
    let k = c.args.caller in
    let nothing : c.args.call.got ≡ None = (c.requires.frame c.in-None.is (none_is c.args.call.shown c.is_none.result c.is_none.ensures c.if-is_none.true)).1 in
    let same = c.in_ok-arrive.ensures.ok ∙ ap (λ (o : Option Arrival). arrived (world_of c.args.site.now.setup core) k o false) nothing in
    let was : caller_of c.index_mut.result.now ≡ caller_of (state_at core.callers.items k) =
    caller_same c.args.site.now.setup core c.arrive.new.core k c.index_mut.result.now c.requires.caller same c.index_mut.ensures.value ∙ sym (state_is core.callers.items k) in
    subst (λ (x : Caller). x.doing ≡ Scans → x.over < 4294967295) (sym was) c.requires.low

pub leave-requires-clause-top : goal.leave-requires-clause-top
leave-requires-clause-top c =
    let core = c.args.core.now in
    let k = c.args.caller in
    let frame = c.requires.frame c.in-None.is (none_is c.args.call.shown c.is_none.result c.is_none.ensures c.if-is_none.true) in
    let same = c.in_ok-arrive.ensures.ok ∙ ap (λ (o : Option Arrival). arrived (world_of c.args.site.now.setup core) k o false) frame.1 in
    let was : caller_of c.index_mut.result.now ≡ caller_of (state_at core.callers.items k) =
    caller_same c.args.site.now.setup core c.arrive.new.core k c.index_mut.result.now c.requires.caller same c.index_mut.ensures.value ∙ sym (state_is core.callers.items k) in
    subst (λ (x : Caller). 0 < length x.stack) (sym was) frame.0

pub returns-then-is_none-clause-ok : goal.returns-then-is_none-clause-ok
returns-then-is_none-clause-ok c = λ of.
    (let s = c.args.site.now.setup in
    let core = c.args.core.now in
    let w : World = world_of s core in
    let k = c.args.caller in
    let cs = c.arrive.new.core.callers.items in
    let quiet : c.args.call.shown ≡ None = none_is c.args.call.shown c.is_none.result c.is_none.ensures c.if-is_none.true in
    let nothing : c.args.call.got ≡ None = (c.requires.frame c.in-None.is quiet).1 in
    let same : world_of s c.arrive.new.core ≡ w = c.in_ok-arrive.ensures.ok ∙ ap (λ (o : Option Arrival). arrived w k o false) nothing in
    let here : callers_of cs ≡ w.callers = ap (λ (v : World). v.callers) same in
    let was : caller_of c.index_mut.result.now ≡ caller_at w k = caller_same s core c.arrive.new.core k c.index_mut.result.now c.requires.caller same c.index_mut.ensures.value in
    let set : callers_of (slice_set cs k c.leave.new.self) ≡ slice_set w.callers k (framed (caller_at w k) (under_top (caller_at w k).stack)) =
    map_set caller_of cs k c.leave.new.self ∙ ap (slice_set (callers_of cs) k) (c.leave.ensures.caller ∙ ap (λ (x : Caller). framed x (under_top x.stack)) was)
    ∙ ap (λ (xs : List Caller). slice_set xs k (framed (caller_at w k) (under_top (caller_at w k).stack))) here in
    let hidden : c.show.new.hidden ≡ w.hidden =
    hidden_now w (world_of s c.arrive.new.core) k c.args.call.got c.args.call.shown _ c.in_ok-arrive.ensures.ok c.show.ensures ∙ ap (shown_now w.hidden) quiet in
    frame_over w _ k of c.args.call.shown c.args.call.got c.args.call.listed c.args.call.anew quiet nothing c.in-None.is
    (rw (hidden, set) (ap (λ (v : World). record v { hidden = w.hidden; callers = slice_set w.callers k (framed (caller_at w k) (under_top (caller_at w k).stack)) }) same)))

pub arrive-requires-clause-books : goal.arrive-requires-clause-books
arrive-requires-clause-books c = c.requires.books

pub arrive-requires-clause-caller : goal.arrive-requires-clause-caller
arrive-requires-clause-caller c = c.requires.caller

pub arrive-requires-clause-may : goal.arrive-requires-clause-may
arrive-requires-clause-may c = c.requires.may

pub arrive-requires-clause-next : goal.arrive-requires-clause-next
arrive-requires-clause-next c = c.requires.next

pub arrive-requires-clause-frame_room : goal.arrive-requires-clause-frame_room
arrive-requires-clause-frame_room c = c.requires.frame_room

pub arrive-requires-clause-call_room : goal.arrive-requires-clause-call_room
arrive-requires-clause-call_room c = c.requires.call_room

pub returns-in-Some-clause-books : goal.returns-in-Some-clause-books
returns-in-Some-clause-books c = record {
  marks = c.arrive.ensures.books.marks;
  units = c.arrive.ensures.books.units;
  drivers = c.arrive.ensures.books.drivers;
  recent = c.arrive.ensures.books.recent;
}

pub returns-then-is_none-clause-books : goal.returns-then-is_none-clause-books
returns-then-is_none-clause-books c = record {
  marks = c.arrive.ensures.books.marks;
  units = c.arrive.ensures.books.units;
  drivers = c.arrive.ensures.books.drivers;
  recent = c.arrive.ensures.books.recent;
}

pub returns-else-is_none-clause-books : goal.returns-else-is_none-clause-books
returns-else-is_none-clause-books c = record {
  marks = c.arrive.ensures.books.marks;
  units = c.arrive.ensures.books.units;
  drivers = c.arrive.ensures.books.drivers;
  recent = c.arrive.ensures.books.recent;
}

pub returns-in_err-arrive-clause-books : goal.returns-in_err-arrive-clause-books
returns-in_err-arrive-clause-books c = c.arrive.ensures.books
