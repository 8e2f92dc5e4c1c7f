use Rattle.std.proofs.Common.{◌≡◌, ◌∙◌, ◌||◌, Bool, Option, Some, None, ap, refl, subst, sym}
use Rattle.run_rules.specs.declared.world.Dev.{Dev}
use Rattle.run_rules.specs.World.{device_at}
use Rattle.live_rules.specs.Laws.{IsSound}
use Rattle.live_rules.specs.Live.{is_doomed}
use Rattle.live_tables.specs.Running.{Running}
use Rattle.live_tables.proofs.Dooms.{doomed_none, doomed_up, parent_below}
use Rattle.live_tables.proofs.live_tables.LiveTables.is_doomed.Goals as goal

pub loop-device-preserved : goal.loop-device-preserved
loop-device-preserved c =
    let r : Running = c.args.self.now in
    let sound : IsSound r.site r.world = subst (λ (q : Running). IsSound q.site q.world) c.self.view_is c.self.invariant.kept.sound in
    let at : device_at r.world.live c.loop-device.serial ≡ Some c.in-Some.device = ap (λ (q : Running). device_at q.world.live c.loop-device.serial) (sym c.self.view_is) ∙ sym c.get.ensures ∙ c.in-Some.is in
    c.loop-device.invariant ∙ doomed_up r.site r.world c.args.group c.loop-device.serial c.in-Some.device sound at
    ∙ ap (λ (b : Bool). b || is_doomed r.site r.world.live c.args.group c.in-Some.device.parent) (sym c.is_in.ensures ∙ c.if-is_in.false)

pub returns-then-is_in : goal.returns-then-is_in
returns-then-is_in c =
    let r : Running = c.args.self.now in
    let sound : IsSound r.site r.world = subst (λ (q : Running). IsSound q.site q.world) c.self.view_is c.self.invariant.kept.sound in
    let at : device_at r.world.live c.loop-device.serial ≡ Some c.in-Some.device = ap (λ (q : Running). device_at q.world.live c.loop-device.serial) (sym c.self.view_is) ∙ sym c.get.ensures ∙ c.in-Some.is in
    sym (c.loop-device.invariant ∙ doomed_up r.site r.world c.args.group c.loop-device.serial c.in-Some.device sound at
    ∙ ap (λ (b : Bool). b || is_doomed r.site r.world.live c.args.group c.in-Some.device.parent) (sym c.is_in.ensures ∙ c.if-is_in.true))

pub loop-device-smaller : goal.loop-device-smaller
loop-device-smaller c =
    let r : Running = c.args.self.now in
    parent_below r.site r.world c.loop-device.serial c.in-Some.device (subst (λ (q : Running). IsSound q.site q.world) c.self.view_is c.self.invariant.kept.sound)
    (ap (λ (q : Running). device_at q.world.live c.loop-device.serial) (sym c.self.view_is) ∙ sym c.get.ensures ∙ c.in-Some.is)

pub returns : goal.returns
returns c =
    let r : Running = c.args.self.now in
    sym (c.loop-device.invariant ∙ doomed_none r.site r.world c.args.group c.loop-device.serial (subst (λ (q : Running). IsSound q.site q.world) c.self.view_is c.self.invariant.kept.sound)
    (ap (λ (q : Running). device_at q.world.live c.loop-device.serial) (sym c.self.view_is) ∙ sym c.get.ensures ∙ none c.get.result c.in_default.not-Some))
  where
    none : (o : Option Dev) → ((d : Dev) → o ≡ Some d → ⊥) → o ≡ None
    none None h = refl
    none (Some d) h = absurd (h d refl)
