use Rattle.std.proofs.Common.{◌≡◌, ◌∷◌, [], List, ℕ, ◌+◌, sym, subst, rules}
use Rattle.std.specs.Prelude.{replicate}
use Rattle.lease_table.specs.Leases.{Ruled, standing, keeper_view}
use Rattle.lease_table.proofs.Keeps.{opens}
use Rattle.lease_table.proofs.table.LeaseTable.open.Goals as goal

pub of_words-requires : goal.of_words-requires
of_words-requires c =
    let same : c.as_slice.result.now ≡ replicate (c.args.slots + 1) 0 = search rules in
    subst (λ (z : List ℕ). Ruled c.args.slots z (standing (keeper_view c.args.slots) ∷ [])) (sym same) (opens c.args.slots)
