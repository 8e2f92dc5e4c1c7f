-- What a ledger keeps, where a reference is granted and where one is given back.
use Rattle.std.proofs.Common.{◌≡◌, ℕ, ◌==◌, Bool, true, false, cond, List, [], ◌∷◌, refl, ap, arith, eq-eqb}
use Rattle.std.specs.Prelude.{find, Option, Some, None, option_map, MatchOption}
use Rattle.std.specs.List.{All}
use Rattle.std.proofs.lemmas.Bool.{or_left, or_right}
use Rattle.std.proofs.lemmas.List.Elements.{All-cons, All-head, All-push, All-tail}
use Rattle.std.proofs.lemmas.List.Sums.{sum_by-cons}
use Rattle.run_rules.specs.declared.world.Ref.{Ref}
use Rattle.run_rules.specs.World.{has, holds_in}
use Rattle.run_rules.specs.References.{AreCounted, is_of, refs_to, without_first}
use Rattle.run_rules.proofs.References.{counted_granted, counted_returned}
use Rattle.ref_ledger.specs.Refs.{IsHolder, IsKept, IsSoleHolder, Ledger, MayGrant, granted, ref_of, returned}

abbrev one_if : Bool → ℕ
one_if b = cond b 1 0

abbrev pub IsKeptLedger : Ledger → Type 0
IsKeptLedger l = IsKept l.refs l.sole

counted : (l : Ledger) → IsKeptLedger l → AreCounted l.refs l.sole
counted l kept = record { few = kept.few; alone = kept.alone }

pub kept_granted : (l : Ledger) (s k : ℕ) (b : Bool) → IsKeptLedger l → IsHolder k → MayGrant l s k b → IsKeptLedger (granted l s k b)
kept_granted l s k b kept holder may = record {
  callers = All-push (λ r. IsHolder r.caller) l.refs (ref_of s k) kept.callers holder;
  few = (counted_granted l.refs l.sole k s b (counted l kept) may).few;
  alone = (counted_granted l.refs l.sole k s b (counted l kept) may).alone;
}

all_left : {A : Type 0} (P : A → Type 0) (p : A → Bool) (xs : List A) → All P xs → All P (without_first p xs)
all_left P p [] all = all
all_left P p (x ∷ xs) all = by (p x) (all_left P p xs (All-tail P x xs all))
  where
    by : (b : Bool) → All P (without_first p xs) → All P (cond b xs (x ∷ without_first p xs))
    by true rest = All-tail P x xs all
    by false rest = All-cons P x (without_first p xs) (All-head P x xs all) rest

pub kept_returned : (l : Ledger) (s k : ℕ) → IsKeptLedger l → IsKeptLedger (returned l s k)
kept_returned l s k kept = record {
  callers = all_left (λ r. IsHolder r.caller) (is_of k s) l.refs kept.callers;
  few = (counted_returned l.refs l.sole k s (counted l kept)).few;
  alone = (counted_returned l.refs l.sole k s (counted l kept)).alone;
}

-- ---- the holder of what is held solely

first_holds : (refs : List Ref) (s : ℕ) → MatchOption (option_map (λ (r : Ref). r.caller) (find (λ (r : Ref). r.serial == s) refs)) (refs_to refs s ≡ 0) (λ k. holds_in refs k s ≡ true)
first_holds [] s = refl
first_holds (r ∷ refs) s = by (r.serial == s) refl (first_holds refs s)
  where
    later : (o : Option ℕ) → (r.serial == s) ≡ false → MatchOption o (refs_to refs s ≡ 0) (λ k. holds_in refs k s ≡ true) → MatchOption o (refs_to (r ∷ refs) s ≡ 0) (λ k. holds_in (r ∷ refs) k s ≡ true)
    later None other none = omega (arith, sum_by-cons (λ (q : Ref). one_if (q.serial == s)) r refs, ap one_if other, none)
    later (Some k) other held = or_right (is_of k s r) (holds_in refs k s) held

    by : (b : Bool) → (r.serial == s) ≡ b → MatchOption (option_map (λ (q : Ref). q.caller) (find (λ (q : Ref). q.serial == s) refs)) (refs_to refs s ≡ 0) (λ k. holds_in refs k s ≡ true)
        → MatchOption (option_map (λ (q : Ref). q.caller) (cond b (Some r) (find (λ (q : Ref). q.serial == s) refs))) (refs_to (r ∷ refs) s ≡ 0) (λ k. holds_in (r ∷ refs) k s ≡ true)
    by true here rest = or_left (is_of r.caller s r) (holds_in refs r.caller s) (rw (here, eq-eqb r.caller r.caller refl) refl)
    by false other rest = later (option_map (λ (q : Ref). q.caller) (find (λ (q : Ref). q.serial == s) refs)) other rest

pub sole_is : (l : Ledger) (s : ℕ) → IsKeptLedger l → has l.sole s ≡ true → MatchOption (option_map (λ (r : Ref). r.caller) (find (λ (r : Ref). r.serial == s) l.refs)) (has l.sole s ≡ false) (IsSoleHolder l s)
sole_is l s kept solely = by (option_map (λ (r : Ref). r.caller) (find (λ (r : Ref). r.serial == s) l.refs)) (first_holds l.refs s)
  where
    by : (o : Option ℕ) → MatchOption o (refs_to l.refs s ≡ 0) (λ k. holds_in l.refs k s ≡ true) → MatchOption o (has l.sole s ≡ false) (IsSoleHolder l s)
    by None none = let one : refs_to l.refs s ≡ 1 = kept.alone s solely in absurd (omega arith)
    by (Some k) held = record { sole = solely; held = held }
