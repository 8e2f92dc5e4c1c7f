use Rattle.std.proofs.Common.{◌≡◌, ◌<◌, ◌∙◌, List, ℕ, All, ap, length, subst, sym}
use Rattle.std.proofs.lemmas.List.{length-map}
use Rattle.cf_types.specs.Offers.{node_of}
use Rattle.cf_declare.proofs.grow.add_attr.Goals as goal

pub add_attr-requires-clause-known : goal.add_attr-requires-clause-known
add_attr-requires-clause-known c =
    let attrs = c.args.declared.now.attrs in
    let size : length c.args.graph.now.attrs ≡ length attrs = ap length c.requires.graph.attrs ∙ length-map attrs node_of in
    subst (λ (n : ℕ). All (λ a. a < n) c.items.result.now) (sym size)
    (subst (λ (needs : List ℕ). All (λ a. a < length attrs) needs) (sym c.items.ensures) c.requires.known)
