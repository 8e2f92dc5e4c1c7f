use Rattle.std.proofs.Common.{◌≡◌, ◌∙◌, false, ap, subst, sym}
use Rattle.run_rules.specs.World.{has}
use Rattle.live_rules.specs.Live.{scan, turned_on}
use Rattle.live_tables.specs.Answers.{Leaves}
use Rattle.live_tables.specs.Running.{Running}
use Rattle.live_tables.proofs.Adds.{is_added, is_on_already, is_undone}
use Rattle.live_tables.proofs.live_tables.LiveTables.add.Goals as goal

pub returns-then-has-clause-ok : goal.returns-then-has-clause-ok
returns-then-has-clause-ok c =
    is_on_already c.args.self.now c.args.group c.args.lines.now (ap (λ (r : Running). has r.world.on c.args.group) (sym c.self.view_is) ∙ sym c.has.ensures ∙ c.if-has.true)

pub scan-requires : goal.scan-requires
unfolding turned_on
scan-requires c = rw c.turn_on.ensures (record { serials = c.requires.serials })

pub returns-clause-ok : goal.returns-clause-ok
returns-clause-ok c =
    let off : has c.args.self.now.world.on c.args.group ≡ false = ap (λ (r : Running). has r.world.on c.args.group) (sym c.self.view_is) ∙ sym c.has.ensures ∙ c.if-has.false in
    is_added c.args.self.now c.scan.new.self c.args.group c.args.lines.now c.scan.new.lines off
    (subst (λ (r : Running). Leaves r c.scan.new.self c.args.lines.now c.scan.new.lines (scan r.site r.world)) c.turn_on.ensures c.in_ok-scan.ensures.ok)

pub returns-clause-undone : goal.returns-clause-undone
returns-clause-undone c = λ _ settled.
    (let off : has c.args.self.now.world.on c.args.group ≡ false = ap (λ (r : Running). has r.world.on c.args.group) (sym c.self.view_is) ∙ sym c.has.ensures ∙ c.if-has.false in
    is_undone c.args.self.now c.scan.new.self c.args.group c.args.lines.now c.scan.new.lines c.stands.ensures.sound
    (is_added c.args.self.now c.scan.new.self c.args.group c.args.lines.now c.scan.new.lines off
    (subst (λ (r : Running). Leaves r c.scan.new.self c.args.lines.now c.scan.new.lines (scan r.site r.world)) c.turn_on.ensures c.in_ok-scan.ensures.ok)) settled)
