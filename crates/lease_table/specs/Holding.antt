-- What a caller holds.
use Rattle.std.specs.Prelude.{◌≡◌, ◌⊎◌, ⊤, ℕ, true, false, Option, Some, None}
use Rattle.lease_table.specs.declared.view.Claim.{Claim}
use Rattle.lease_table.specs.declared.view.Claim.TheVariants.{Nothing, Trying, Held}
use Rattle.lease_table.specs.declared.view.View.{View}
use Rattle.lease_table.specs.declared.view.SlotWord.{SlotWord}
use Rattle.lease_table.specs.Leases.{claim_at, showing, with_claim}
use Rattle.lease_table.specs.Words.{is_holder}

abbrev pub claim_of : Option ℕ → Claim
claim_of None = Nothing
claim_of (Some g) = Held g

-- no lease on any slot
abbrev pub HoldsNothing : View → Type 0
HoldsNothing v = (x : ℕ) → claim_at v.standing x ≡ Nothing

-- a lease, or none because of the word: it is condemned or not live
abbrev pub Gained : Claim → SlotWord → Type 0
Gained Nothing word = (word.condemned ≡ true) ⊎ (word.live ≡ false)
Gained Trying word = ⊥
Gained (Held g) word = ⊤

-- the own bit was set: the old word was shown, and the lease is there if that word allows it
pub record TriesFor (x : ℕ) (v w : View) : Type 0 where
  pub claim : Claim
  pub view : w ≡ showing v (with_claim v.standing x claim) x w.word
  pub gained : Gained claim w.word

-- there is a lease on the slot already, or one was tried for; all other slots are as before
abbrev pub Takes : ℕ → View → View → Type 0
Takes x v w = ((g : ℕ) × (claim_at v.standing x ≡ Held g) × (w ≡ v)) ⊎ TriesFor x v w

-- one load showed the word, which says what the lease says, and that the caller holds it
pub record LooksAt (v : View) (k x : ℕ) (word : SlotWord) (w : View) : Type 0 where
  pub held : claim_at v.standing x ≡ Held word.generation
  pub live : word.live ≡ true
  pub own : is_holder word k ≡ true
  pub shown : w ≡ showing v v.standing x word

-- none exactly where there is no lease on the slot
abbrev pub LookIs : View → ℕ → ℕ → Option SlotWord → View → Type 0
LookIs v k x None w = (claim_at v.standing x ≡ Nothing) × (w ≡ v)
LookIs v k x (Some word) w = LooksAt v k x word w
