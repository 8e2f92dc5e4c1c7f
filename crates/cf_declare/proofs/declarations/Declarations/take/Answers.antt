use Rattle.std.proofs.Common.{◌≡◌, ap, subst, ◌∙◌}
use Rattle.std.specs.Prelude.{IfSome}
use Rattle.config_rules.specs.Declared.{Declared}
use Rattle.config_rules.specs.Fault.{code_of}
use Rattle.cf_declare.specs.Declare.{declare}
use Rattle.cf_declare.proofs.GrowLemmas.{locators_after}
use Rattle.cf_declare.proofs.JudgeLemmas.{taken_code, taken_more, taken_same}
use Rattle.cf_declare.proofs.declarations.Declarations.take.Goals as goal

pub invariant_of-self : goal.invariant_of-self
invariant_of-self c =
    (c.in-Ok.ensures.graph, locators_after c.self.inside.lists c.take.new.declared c.args.stmt.now c.in-Ok.code c.self.invariant.1 c.requires.few (c.in-Ok.ensures.takes 0))

pub returns-in-Ok-clause-code : goal.returns-in-Ok-clause-code
returns-in-Ok-clause-code c n =
    let d = c.self.inside.lists in
    let s = c.args.stmt.now in
    subst (λ (e : Declared). c.in-Ok.code ≡ code_of e n s) c.self.view_is (taken_code (code_of d n s) d (declare d s) c.take.new.declared c.in-Ok.code (c.in-Ok.ensures.takes n))

pub returns-in-Ok-clause-declared : goal.returns-in-Ok-clause-declared
returns-in-Ok-clause-declared c none =
    let d = c.self.inside.lists in
    let s = c.args.stmt.now in
    taken_more (code_of d 0 s) d (declare d s) c.take.new.declared c.in-Ok.code (c.in-Ok.ensures.takes 0) none ∙ ap (λ (e : Declared). declare e s) c.self.view_is

pub returns-in-Ok-clause-same : goal.returns-in-Ok-clause-same
returns-in-Ok-clause-same c =
    let d = c.self.inside.lists in
    let s = c.args.stmt.now in
    subst (λ (e : Declared). IfSome c.in-Ok.code (λ _. c.take.new.declared ≡ e)) c.self.view_is
    (taken_same (code_of d 0 s) d (declare d s) c.take.new.declared c.in-Ok.code (c.in-Ok.ensures.takes 0))
