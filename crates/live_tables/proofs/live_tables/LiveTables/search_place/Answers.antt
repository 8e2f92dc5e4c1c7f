use Rattle.std.proofs.Common.{◌≡◌, ◌∙◌, ◌<◌, ℕ, Option, true, length, ap, sym, arith}
use Rattle.std.proofs.lemmas.Result.{err_from_is_err_and}
use Rattle.run_rules.specs.Search.{is_child, spot_of}
use Rattle.live_rules.specs.Live.{LiveSite}
use Rattle.live_tables.specs.Kept.{live_view}
use Rattle.live_tables.specs.Running.{Running}
use Rattle.live_tables.proofs.Comings.{parent_stays, spot_stays}
use Rattle.live_tables.proofs.Places.{holds_here, place_begun, place_cut, place_more, place_passed, place_whole}
use Rattle.live_tables.proofs.live_tables.LiveTables.search_place.Goals as goal
use Rattle.live_tables.proofs.live_tables.LiveTables.search_place.Goals.{then-is_child+in_ok-search_spot, else-is_child}

pub loop-spot-init : goal.loop-spot-init
loop-spot-init c =
    place_begun c.args.self.now c.args.lines.now.items c.args.parent c.args.place c.below-span.result.first c.stands.ensures.sound
    (λ x child. (holds_here c.args.self.now (live_view c.self.inside) c.self.inside.site.spans c.args.parent c.spot_of-above.result c.below-span.result c.args.place x c.self.view_is c.self.inside.site.spanned c.spot_of-above.ensures c.below-span.ensures child).0)

pub search_spot-requires-clause-parent : goal.search_spot-requires-clause-parent
search_spot-requires-clause-parent c =
    parent_stays c.args.self.now c.loop-spot.self c.args.lines.now.items c.loop-spot.lines.items c.args.parent c.args.place c.stands.ensures.sound c.loop-spot.invariant.sound c.loop-spot.invariant.brings c.requires.parent

pub search_spot-requires-clause-child : goal.search_spot-requires-clause-child
search_spot-requires-clause-child c =
    rw (spot_stays c.args.self.now c.loop-spot.self c.args.lines.now.items c.loop-spot.lines.items c.args.parent c.stands.ensures.sound c.loop-spot.invariant.sound c.loop-spot.invariant.brings c.requires.parent.known, ← c.spot_of-above.ensures)
    (ap (λ (q : Running). is_child q.site.setup.machine c.spot_of-above.result c.args.place c.loop-spot.spot) (sym c.self-in-loop-spot.view_is) ∙ sym c.is_child.ensures ∙ c.if-is_child.true)

pub returns-in_err-search_spot : goal.returns-in_err-search_spot
returns-in_err-search_spot c =
    let p = err_from_is_err_and c.from_residual.result c.from_residual.ensures.1 in
    let here = ap (λ (q : Running). length q.site.setup.machine.spots) c.self.view_is in
    let child : is_child c.args.self.now.site.setup.machine (spot_of c.args.self.now.world.live c.args.parent) c.args.place c.loop-spot.spot ≡ true =
    ap (λ (o : Option ℕ). is_child c.args.self.now.site.setup.machine o c.args.place c.loop-spot.spot) (sym c.spot_of-above.ensures)
    ∙ ap (λ (t : LiveSite). is_child t.setup.machine c.spot_of-above.result c.args.place c.loop-spot.spot) (sym c.loop-spot.invariant.brings.site)
    ∙ ap (λ (q : Running). is_child q.site.setup.machine c.spot_of-above.result c.args.place c.loop-spot.spot) (sym c.self-in-loop-spot.view_is) ∙ sym c.is_child.ensures ∙ c.if-is_child.true in
    rw p.1
    (place_cut c.args.self.now c.loop-spot.self c.search_spot.new.self c.args.lines.now.items c.loop-spot.lines.items c.search_spot.new.lines.items c.args.parent c.args.place c.loop-spot.spot p.0
    (omega (arith, c.loop-spot-test.true, c.min-end.ensures, c.len.ensures, here)) child c.loop-spot.invariant c.in_err-search_spot.ensures)

pub loop-spot-preserved : goal.loop-spot-preserved
loop-spot-preserved c =
    let here = ap (λ (q : Running). length q.site.setup.machine.spots) c.self.view_is in
    let inside : c.loop-spot.spot < length c.args.self.now.site.setup.machine.spots = omega (arith, c.loop-spot-test.true, c.min-end.ensures, c.len.ensures, here) in
    let same : is_child c.args.self.now.site.setup.machine (spot_of c.args.self.now.world.live c.args.parent) c.args.place c.loop-spot.spot ≡ c.is_child.result =
    ap (λ (o : Option ℕ). is_child c.args.self.now.site.setup.machine o c.args.place c.loop-spot.spot) (sym c.spot_of-above.ensures)
    ∙ ap (λ (t : LiveSite). is_child t.setup.machine c.spot_of-above.result c.args.place c.loop-spot.spot) (sym c.loop-spot.invariant.brings.site)
    ∙ ap (λ (q : Running). is_child q.site.setup.machine c.spot_of-above.result c.args.place c.loop-spot.spot) (sym c.self-in-loop-spot.view_is) ∙ sym c.is_child.ensures in
    elim c.if-is_child.branch [
      | then-is_child+in_ok-search_spot w ↦
          rw (w.self-is, w.lines-is)
          (place_more c.args.self.now c.loop-spot.self w.search_spot.new.self c.args.lines.now.items c.loop-spot.lines.items w.search_spot.new.lines.items c.args.parent c.args.place c.loop-spot.spot inside
          (same ∙ w.if-is_child.true) w.stands-then-is_child.ensures.sound c.loop-spot.invariant w.in_ok-search_spot.ensures.brings w.in_ok-search_spot.ensures.ok)
      | else-is_child w ↦
          rw (w.self-is, w.lines-is)
          (place_passed c.args.self.now c.loop-spot.self c.args.lines.now.items c.loop-spot.lines.items c.args.parent c.args.place c.loop-spot.spot inside (same ∙ w.if-is_child.false) c.loop-spot.invariant)
    ]

pub returns : goal.returns
returns c =
    let here = ap (λ (q : Running). length q.site.setup.machine.spots) c.self.view_is in
    place_whole c.args.self.now c.loop-spot.self c.args.lines.now.items c.loop-spot.lines.items c.args.parent c.args.place c.loop-spot.spot
    (λ x child below.
    let covers = holds_here c.args.self.now (live_view c.self.inside) c.self.inside.site.spans c.args.parent c.spot_of-above.result c.below-span.result c.args.place x c.self.view_is c.self.inside.site.spanned c.spot_of-above.ensures c.below-span.ensures child in
    omega (arith, covers.1, below, c.loop-spot-test.false, c.min-end.ensures, c.len.ensures, here))
    c.loop-spot.invariant
