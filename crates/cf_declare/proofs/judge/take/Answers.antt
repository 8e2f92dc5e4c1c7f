use Rattle.std.proofs.Common.{ℕ, refl, sym, subst}
use Rattle.std.specs.Prelude.{IfOk}
use Rattle.cf_types.specs.declared.stmt.Stmt.{Stmt}
use Rattle.config_rules.specs.Fault.{code_of}
use Rattle.cf_declare.specs.Declare.{declare}
use Rattle.cf_declare.specs.Judging.{Takes}
use Rattle.cf_declare.proofs.JudgeLemmas.{attr_alone, taken_any}
use Rattle.cf_declare.proofs.judge.take.Goals as goal

pub returns-in-Define-clause-takes : goal.returns-in-Define-clause-takes
returns-in-Define-clause-takes c =
    let d = c.args.declared.now in
    subst (λ (s : Stmt). IfOk c.take_define.result (λ code. (n : ℕ) → Takes (code_of d n s) d (declare d s) c.take_define.new.declared code)) (sym c.in-Define.is)
    (taken_any _ d _ _ c.take_define.new.declared c.take_define.result (attr_alone d _) (rw (c.entry_of-entry.ensures.name, c.entry_of-entry.ensures.locators, c.entry_of-entry.ensures.needs) at c.take_define.ensures.takes))

pub returns-in-DefPseudo-clause-takes : goal.returns-in-DefPseudo-clause-takes
returns-in-DefPseudo-clause-takes c =
    let d = c.args.declared.now in
    subst (λ (s : Stmt). IfOk c.take_define-in-DefPseudo.result (λ code. (n : ℕ) → Takes (code_of d n s) d (declare d s) c.take_define-in-DefPseudo.new.declared code)) (sym c.in-DefPseudo.is)
    (taken_any _ d _ _ c.take_define-in-DefPseudo.new.declared c.take_define-in-DefPseudo.result (attr_alone d _) (rw (c.entry_of-entry-in-DefPseudo.ensures.name, c.entry_of-entry-in-DefPseudo.ensures.locators, c.entry_of-entry-in-DefPseudo.ensures.needs) at c.take_define-in-DefPseudo.ensures.takes))

pub returns-in-Device-clause-takes : goal.returns-in-Device-clause-takes
returns-in-Device-clause-takes c =
    let d = c.args.declared.now in
    subst (λ (s : Stmt). IfOk c.take_device.result (λ code. (n : ℕ) → Takes (code_of d n s) d (declare d s) c.take_device.new.declared code)) (sym c.in-Device.is)
    (taken_any _ d _ _ c.take_device.new.declared c.take_device.result refl (rw (c.entry_of-entry-in-Device.ensures.name, c.entry_of-entry-in-Device.ensures.locators, c.entry_of-entry-in-Device.ensures.needs) at c.take_device.ensures.takes))
