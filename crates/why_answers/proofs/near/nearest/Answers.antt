use Rattle.std.proofs.Common.{◌≡◌, ◌∙◌, ◌+◌, ℕ, Bool, length, Option, Some, refl, sym, ap, subst, arith}
use Rattle.std.specs.Prelude.{option_map}
use Rattle.plain_world.proofs.RulesLaws.{spots_are}
use Rattle.why_answers.specs.declared.near.Near.{Near}
use Rattle.why_answers.specs.Near.{is_near, rank}
use Rattle.why_answers.proofs.Nears.{HasNear, near_is, near_more, near_same}
use Rattle.why_answers.proofs.near.nearest.Goals as goal
use Rattle.why_answers.proofs.near.nearest.Goals.{then-is_near, else-is_near}

pub loop-spot-preserved : goal.loop-spot-preserved
loop-spot-preserved c =
    let s = c.args.seen.now.rules.now in
    let near : ℕ → Bool = is_near s c.args.seen.now.looks.now c.args.row in
    let value : ℕ → ℕ = rank s c.args.seen.now.looks.now c.args.row in
    let k = c.loop-spot.spot in
    elim c.if-is_near.branch [
      | then-is_near w ↦
          subst (λ (best : Option Near). HasNear near value (k + 1) best) (sym (w.best-is ∙ ap Some w.nearer.ensures))
          (near_more near value k c.loop-spot.best (record { spot = k; met = w.rank-met.result }) (sym c.is_near.ensures ∙ w.if-is_near.true) refl w.rank-met.ensures c.loop-spot.invariant)
      | else-is_near w ↦
          subst (λ (best : Option Near). HasNear near value (k + 1) best) (sym w.best-is)
          (near_same near value k c.loop-spot.best (sym c.is_near.ensures ∙ w.if-is_near.false) c.loop-spot.invariant)
    ]

pub returns-in-Some : goal.returns-in-Some
returns-in-Some c =
    let s = c.args.seen.now.rules.now in
    let end : c.loop-spot.spot ≡ length s.machine.spots = omega (arith, spots_are c.rules.inside s c.rules.view_is) in
    near_is (is_near s c.args.seen.now.looks.now c.args.row) (rank s c.args.seen.now.looks.now c.args.row) (length s.machine.spots) c.loop-spot.spot c.loop-spot.best end c.loop-spot.invariant
    ∙ ap (option_map (λ (near : Near). near.spot)) c.in-Some.is

pub returns-in-None : goal.returns-in-None
returns-in-None c =
    let s = c.args.seen.now.rules.now in
    let end : c.loop-spot.spot ≡ length s.machine.spots = omega (arith, spots_are c.rules.inside s c.rules.view_is) in
    near_is (is_near s c.args.seen.now.looks.now c.args.row) (rank s c.args.seen.now.looks.now c.args.row) (length s.machine.spots) c.loop-spot.spot c.loop-spot.best end c.loop-spot.invariant
    ∙ ap (option_map (λ (near : Near). near.spot)) c.in-None.is
