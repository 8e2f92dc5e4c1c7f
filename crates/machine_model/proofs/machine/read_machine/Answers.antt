use Rattle.std.proofs.Common.{◌∙◌, sym}
use Rattle.machine_model.proofs.MachineLemmas.{whole, faulty, fitting}
use Rattle.machine_model.proofs.machine.read_machine.Goals as goal

pub returns-in-Some-clause-gives : goal.returns-in-Some-clause-gives
returns-in-Some-clause-gives c = faulty c.args.tables.now c.args.text.now _ (sym c.bad_line.ensures ∙ c.in-Some.is)

pub returns-in_ok-index-in-None-clause-gives : goal.returns-in_ok-index-in-None-clause-gives
returns-in_ok-index-in-None-clause-gives c =
    whole c.args.tables.now c.args.text.now c.read_with.result (sym c.bad_line.ensures ∙ c.in-None.is) (rw c.in_ok-index-in-None.ensures.tables at c.read_with.ensures.gives)

pub returns-in_ok-index-in-None-clause-fits : goal.returns-in_ok-index-in-None-clause-fits
returns-in_ok-index-in-None-clause-fits c =
    fitting c.args.tables.now c.args.text.now c.read_with.result
    (whole c.args.tables.now c.args.text.now c.read_with.result (sym c.bad_line.ensures ∙ c.in-None.is) (rw c.in_ok-index-in-None.ensures.tables at c.read_with.ensures.gives))
