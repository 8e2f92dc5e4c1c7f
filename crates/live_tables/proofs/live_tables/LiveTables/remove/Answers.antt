use Rattle.std.proofs.Common.{◌≡◌, ◌∙◌, ◌==◌, ℕ, false, not, ap, subst, sym}
use Rattle.std.specs.Prelude.{filter}
use Rattle.std.specs.List.{AllByRecursion}
use Rattle.run_rules.specs.declared.world.Dev.{Dev}
use Rattle.run_rules.specs.World.{has}
use Rattle.live_rules.specs.declared.plan.LiveReply.TheVariants as reply
use Rattle.live_rules.specs.Live.{is_in, remove}
use Rattle.live_rules.proofs.Removes.{remove_frees}
use Rattle.live_tables.specs.Answers.{Answers}
use Rattle.live_tables.specs.Going.{with_groups}
use Rattle.live_tables.specs.Running.{Running}
use Rattle.live_tables.proofs.Removals.{hindering_row, is_busy, is_off_already, is_removed, none_in}
use Rattle.live_tables.proofs.live_tables.LiveTables.remove.Goals as goal

pub returns-then-not-has-clause-ok : goal.returns-then-not-has-clause-ok
returns-then-not-has-clause-ok c =
    is_off_already c.args.self.now c.args.group c.args.lines.now (ap (λ (r : Running). has r.world.on c.args.group) (sym c.self.view_is) ∙ sym c.has.ensures ∙ c.if-not-has.true)

pub name_of-requires : goal.name_of-requires
name_of-requires c = record { row = hindering_row c.args.self.now.site c.args.self.now.world c.args.group c.in-Some.device c.stands.ensures.sound (sym c.hindering.ensures ∙ c.in-Some.is) }

pub returns-in-Some-clause-ok : goal.returns-in-Some-clause-ok
returns-in-Some-clause-ok c =
    is_busy c.args.self.now c.args.group c.in-Some.device c.in_ok-name_of-in-Some.field-0 c.args.lines.now
    (ap (λ (r : Running). has r.world.on c.args.group) (sym c.self.view_is) ∙ sym c.has.ensures ∙ c.if-not-has.false) (sym c.hindering.ensures ∙ c.in-Some.is) c.in_ok-name_of-in-Some.ensures

pub turn_off-requires-clause-none : goal.turn_off-requires-clause-none
turn_off-requires-clause-none c =
    subst (λ (r : Running). AllByRecursion (λ (d : Dev). is_in r.site c.args.group d.row ≡ false) r.world.live) (sym c.free_doomed.ensures) (none_in c.args.self.now.site c.args.self.now.world c.args.group c.stands.ensures.sound)

pub returns-clause-ok : goal.returns-clause-ok
returns-clause-ok c =
    is_removed c.args.self.now c.turn_off.new.self c.args.group c.args.lines.now c.tell_freed.new.lines (ap (λ (r : Running). has r.world.on c.args.group) (sym c.self.view_is) ∙ sym c.has.ensures ∙ c.if-not-has.false)
    (sym c.hindering.ensures ∙ c.in-None.is)
    (c.turn_off.ensures ∙ ap (λ (r : Running). with_groups r (filter (λ (h : ℕ). not (h == c.args.group)) r.world.on)) c.free_doomed.ensures) c.in_ok-tell_freed-in-None.ensures.ok

pub returns-clause-frees : goal.returns-clause-frees
returns-clause-frees c = λ _.
    (let told : Answers c.args.self.now c.turn_off.new.self c.args.lines.now c.tell_freed.new.lines (remove c.args.self.now.site c.args.self.now.world c.args.group) reply.Ok =
    is_removed c.args.self.now c.turn_off.new.self c.args.group c.args.lines.now c.tell_freed.new.lines (ap (λ (r : Running). has r.world.on c.args.group) (sym c.self.view_is) ∙ sym c.has.ensures ∙ c.if-not-has.false)
    (sym c.hindering.ensures ∙ c.in-None.is)
    (c.turn_off.ensures ∙ ap (λ (r : Running). with_groups r (filter (λ (h : ℕ). not (h == c.args.group)) r.world.on)) c.free_doomed.ensures) c.in_ok-tell_freed-in-None.ensures.ok in
    remove_frees c.args.self.now.site c.args.self.now.world c.args.group c.stands.ensures.sound (sym told.reply))
