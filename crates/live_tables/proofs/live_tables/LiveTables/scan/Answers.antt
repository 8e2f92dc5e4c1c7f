use Rattle.std.proofs.Common.{◌∙◌, List, subst}
use Rattle.live_rules.specs.declared.plan.LiveLine.{LiveLine}
use Rattle.live_rules.specs.Live.{pass}
use Rattle.live_tables.specs.Coming.{Searched}
use Rattle.live_tables.proofs.Scans.{scan_err, scan_ok, scan_settled}
use Rattle.live_tables.proofs.live_tables.LiveTables.scan.Goals as goal

pub returns-clause-ok : goal.returns-clause-ok
returns-clause-ok c =
    rw c.from_vec.ensures
    (scan_ok c.args.self.now c.pass-done.new.self c.args.lines.now c.pass-done.new.lines.items c.pass-done.result c.stands.ensures.sound c.stands-2.ensures.sound
    (subst (λ (old : List LiveLine). Searched c.args.self.now c.pass-done.new.self (pass c.args.self.now.site c.args.self.now.world) old c.pass-done.new.lines.items c.pass-done.result)
    (c.into_vec-told.ensures ∙ c.replace.ensures.value) c.pass-done.ensures))

pub returns-clause-settled : goal.returns-clause-settled
returns-clause-settled c =
    scan_settled c.args.self.now c.pass-done.new.self c.into_vec-told.result.items c.pass-done.new.lines.items c.pass-done.result c.stands.ensures.sound c.pass-done.ensures

pub returns-clause-err : goal.returns-clause-err
returns-clause-err c =
    rw c.from_vec.ensures
    (scan_err c.args.self.now c.pass-done.new.self c.args.lines.now c.pass-done.new.lines.items c.pass-done.result c.stands-2.ensures.sound
    (subst (λ (old : List LiveLine). Searched c.args.self.now c.pass-done.new.self (pass c.args.self.now.site c.args.self.now.world) old c.pass-done.new.lines.items c.pass-done.result)
    (c.into_vec-told.ensures ∙ c.replace.ensures.value) c.pass-done.ensures))
