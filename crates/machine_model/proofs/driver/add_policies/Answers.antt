use Rattle.std.proofs.Common.{◌∙◌, ap, arith}
use Rattle.std.specs.Prelude.{slice_set}
use Rattle.cf_types.specs.declared.machine.Policy.{Policy}
use Rattle.config_rules.specs.MachineText.{with_policies}
use Rattle.machine_text.specs.Words.{seen}
use Rattle.machine_model.proofs.DriverLemmas.{one_at, past_all}
use Rattle.machine_model.proofs.driver.add_policies.Goals as goal

pub returns-then-attach-len : goal.returns-then-attach-len
returns-then-attach-len c =
    ap (λ (p : Policy). slice_set c.args.policies.now.items c.args.attach p) c.with_policies.ensures
    ∙ one_at (with_policies (seen c.args.words.now)) 0 c.args.attach c.args.attach c.args.policies.now.items c.index.result.now (omega arith) (omega (arith, c.if-attach-len.true, c.len.ensures)) c.index.ensures

pub returns-else-attach-len : goal.returns-else-attach-len
returns-else-attach-len c = past_all (with_policies (seen c.args.words.now)) 0 c.args.attach c.args.policies.now.items (omega (arith, c.if-attach-len.false, c.len.ensures))
