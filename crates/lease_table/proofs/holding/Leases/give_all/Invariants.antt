use Rattle.std.proofs.Common.{◌≡◌, ◌<◌, ℕ, length}
use Rattle.lease_table.specs.Leases.{claim_at}
use Rattle.lease_table.specs.declared.view.Claim.TheVariants.{Nothing}
use Rattle.lease_table.proofs.holding.Leases.give_all.Given as goal

abbrev pub invariant-loop-slot : goal.invariant-loop-slot
invariant-loop-slot l =
    (l.self.table ≡ l.initial.self.table) × (l.self.caller ≡ l.initial.self.caller)
    × (length l.self.view.standing.claims ≡ l.slot-end) × ((x : ℕ) → x < l.slot → claim_at l.self.view.standing x ≡ Nothing)
