use Rattle.std.proofs.Common.{◌≡◌, ◌<◌, ◌≤◌, ◌∙◌, refl, sym, ap, length, List, true, false}
use Rattle.run_rules.specs.declared.world.Dev.{Dev}
use Rattle.deed_effect.specs.Agreement.{slots_of, state_at}
use Rattle.deed_effect.proofs.SlotLaws.{amid_first, amid_last, amid_live, amid_same, amid_set, below_on, same_below, spot_condemned, spot_live, spot_spared}
use Rattle.deed_effect.proofs.slots.condemn_slots.Goals as goal
use Rattle.deed_effect.proofs.slots.condemn_slots.Goals.{then-stands_below, else-stands_below}

pub loop-spot-init : goal.loop-spot-init
loop-spot-init g c = record {
  states = λ h. h.agree ∙ amid_first h.were c.args.core.now.tree.live (length c.args.site.now.setup.machine.spots);
  denials = refl;
  last = refl;
}

pub condemn-requires : goal.condemn-requires
condemn-requires g c =
    let h = c.requires in
    let x = c.loop-spot.spot in
    let n = length c.args.site.now.setup.machine.spots in
    let inside : x < n = rw c.len-spot-end.ensures at c.loop-spot-test.true in
    let here : below_on h.were c.args.target x ≡ true =
    sym (same_below h.were h.caller c.args.target x) ∙ ap (λ (ds : List Dev). below_on ds c.args.target x) (sym h.marked) ∙ c.stands_below.ensures ∙ c.if-stands_below.true in
    amid_live h.were c.args.core.now.tree.live n x (g.S.Slots.states c.loop-spot.slots) inside (spot_live h.were c.args.target x h.spared here) (c.loop-spot.invariant.states h)

pub loop-spot-preserved : goal.loop-spot-preserved
loop-spot-preserved g c =
    let live = c.args.core.now.tree.live in
    let n = length c.args.site.now.setup.machine.spots in
    let s = c.args.target in
    let x = c.loop-spot.spot in
    let inside : x < n = rw c.len-spot-end.ensures at c.loop-spot-test.true in
    elim c.if-stands_below.branch [
      | then-stands_below w ↦ record {
        states = λ h.
            (let here : below_on h.were s x ≡ true =
            sym (same_below h.were h.caller s x) ∙ ap (λ (ds : List Dev). below_on ds s x) (sym h.marked) ∙ c.stands_below.ensures ∙ w.if-stands_below.true in
            ap g.S.Slots.states w.slots-is ∙ w.condemn.ensures.states
            ∙ amid_set h.were live n x (g.S.Slots.states c.loop-spot.slots) inside (ap (λ (ds : List Dev). state_at ds x) h.marked ∙ spot_condemned h.were h.caller s x here) (c.loop-spot.invariant.states h));
        denials = ap g.S.Slots.denials w.slots-is ∙ w.condemn.ensures.denials ∙ c.loop-spot.invariant.denials;
        last = ap g.S.Slots.last_denial w.slots-is ∙ w.condemn.ensures.last ∙ c.loop-spot.invariant.last;
      }
      | else-stands_below w ↦ record {
        states = λ h.
            (let here : below_on h.were s x ≡ false =
            sym (same_below h.were h.caller s x) ∙ ap (λ (ds : List Dev). below_on ds s x) (sym h.marked) ∙ c.stands_below.ensures ∙ w.if-stands_below.false in
            ap g.S.Slots.states w.slots-is
            ∙ amid_same h.were live n x (g.S.Slots.states c.loop-spot.slots) (spot_spared h.were h.caller s x here ∙ ap (λ (ds : List Dev). state_at ds x) (sym h.marked)) (c.loop-spot.invariant.states h));
        denials = ap g.S.Slots.denials w.slots-is ∙ c.loop-spot.invariant.denials;
        last = ap g.S.Slots.last_denial w.slots-is ∙ c.loop-spot.invariant.last;
      }
    ]

pub returns-clause-agree : goal.returns-clause-agree
unfolding slots_of
returns-clause-agree g c =
    let h = c.requires in
    let n = length c.args.site.now.setup.machine.spots in
    let passed : n ≤ c.loop-spot.spot = rw c.len-spot-end.ensures at c.loop-spot-test.false in
    c.loop-spot.invariant.states h ∙ amid_last h.were c.args.core.now.tree.live n c.loop-spot.spot passed
