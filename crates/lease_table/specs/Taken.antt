-- What a try for a lease answers.
use Rattle.std.specs.Prelude.{◌≡◌, ℕ, true, false}
use Rattle.lease_table.specs.declared.view.Claim.TheVariants.{Nothing, Held}
use Rattle.lease_table.specs.declared.view.View.{View}
use Rattle.lease_table.specs.declared.table.Taken.{Taken}
use Rattle.lease_table.specs.declared.table.Taken.TheVariants as taken
use Rattle.lease_table.specs.Leases.{showing, with_claim}

-- a lease on this slot comes with its hold; else the word that was shown last says why, and nothing is held there
abbrev pub TakenIs : ℕ → View → Taken → View → Type 0
TakenIs x v (taken.Lease l) w = (l.slot ≡ x) × (w ≡ showing v (with_claim v.standing x (Held l.generation)) x w.word)
TakenIs x v (taken.Condemned g) w = (w ≡ showing v (with_claim v.standing x Nothing) x w.word) × (w.word.condemned ≡ true) × (w.word.generation ≡ g)
TakenIs x v (taken.Free g) w = (w ≡ showing v (with_claim v.standing x Nothing) x w.word) × (w.word.live ≡ false) × (w.word.generation ≡ g)
