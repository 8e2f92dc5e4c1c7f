use Rattle.std.proofs.Common.{length, subst, sym, List}
use Rattle.cf_expand.specs.Paths.{AreNested}
use Rattle.cf_expand.specs.declared.prefixes.PathSpan.{PathSpan}
use Rattle.cf_expand.proofs.PathLemmas.{nested_rest}
use Rattle.cf_expand.proofs.prefixes.Prefixes.pop.Goals as goal

pub invariant_of-self : goal.invariant_of-self
invariant_of-self c =
    let n = length c.self.inside.text.items in
    subst (λ (spans : List PathSpan). AreNested n spans) (sym c.pop_front.ensures.rest) (nested_rest n c.self.inside.spans.items c.self.invariant)
