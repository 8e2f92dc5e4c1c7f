use Rattle.cf_expand.proofs.ReadLemmas.{written_ok}
use Rattle.cf_expand.proofs.statement.Statement.read.Goals as goal

pub returns-clause-written : goal.returns-clause-written
returns-clause-written c = written_ok _ c.read.result c.read.ensures.form
