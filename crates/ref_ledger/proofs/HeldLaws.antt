-- The least serial of a device that a caller holds.
use Rattle.std.proofs.Common.{◌≡◌, ℕ, ◌≤◌, ◌<◌, min, Bool, true, false, ◌&&◌, ◌||◌, ◌==◌, List, [], ◌∷◌, map, filter, find, cond, Option, Some, None, MatchOption, refl, sym, ap, ◌∙◌, inl, inr, arith}
use Rattle.std.specs.Prelude.{◌⊎◌, IsTrue}
use Rattle.std.specs.List.{AllByRecursion, fold, reduce}
use Rattle.std.proofs.lemmas.Bool.{and_parts, cases_lt, eqb-true, eq-eqb, or_cases, or_left, or_right}
use Rattle.run_rules.specs.declared.world.Dev.{Dev}
use Rattle.run_rules.specs.declared.world.Ref.{Ref}
use Rattle.run_rules.specs.World.{World, has, holds_in, is_live, serial_of}
use Rattle.run_rules.specs.Next.{first_held}
use Rattle.run_rules.specs.Sound.{EachLater}
use Rattle.ref_ledger.specs.Refs.{IsLeastHeld}

-- ---- it is the first held one of the live devices

-- a reference that is held names a live device
held_lives : (refs : List Ref) (live : List Dev) (k s : ℕ) → AllByRecursion (λ r. IsTrue (is_live live r.serial)) refs → holds_in refs k s ≡ true → is_live live s ≡ true
held_lives [] live k s lives h = absurd cc
held_lives (r ∷ refs) live k s lives h = elim (or_cases (r.serial == s && r.caller == k) (holds_in refs k s) h) [
  | inl here ↦ ap (is_live live) (sym (eqb-true r.serial s (and_parts (r.serial == s) (r.caller == k) here).0)) ∙ lives.0
  | inr there ↦ held_lives refs live k s lives.1 there
]

find_none : (p : ℕ → Bool) (live : List Dev) → ((s : ℕ) → p s ≡ false) → find (λ d. p d.serial) live ≡ None
find_none p [] none = refl
find_none p (d ∷ live) none = let here : p d.serial ≡ false = none d.serial in rw here (find_none p live none)

later_than : (live : List Dev) (n s : ℕ) → AllByRecursion (λ e. n < e.serial) live → is_live live s ≡ true → n < s
later_than [] n s later lives = absurd cc
later_than (e ∷ live) n s later lives = elim (or_cases (e.serial == s) (is_live live s) lives) [
  | inl here ↦ let same : e.serial ≡ s = eqb-true e.serial s here in let less : n < e.serial = later.0 in omega arith
  | inr there ↦ later_than live n s later.1 there
]

find_least : (p : ℕ → Bool) (live : List Dev) (s : ℕ) → EachLater (λ d e. d.serial < e.serial) live → p s ≡ true → ((t : ℕ) → p t ≡ true → s ≤ t) → is_live live s ≡ true
    → Some s ≡ serial_of (find (λ d. p d.serial) live)
find_least p [] s later held least lives = absurd cc
find_least p (d ∷ live) s later held least lives = cases (find_least p live s later.1 held least) (p d.serial) refl (or_cases (d.serial == s) (is_live live s) lives)
  where
    cases : (is_live live s ≡ true → Some s ≡ serial_of (find (λ e. p e.serial) live)) → (b : Bool) → p d.serial ≡ b → (d.serial == s) ≡ true ⊎ is_live live s ≡ true
        → Some s ≡ serial_of (cond b (Some d) (find (λ e. p e.serial) live))
    cases rest true e (inl here) = ap Some (sym (eqb-true d.serial s here))
    cases rest true e (inr there) =
        let low : s ≤ d.serial = least d.serial e in let high : d.serial < s = later_than live d.serial s later.0 there in absurd (omega arith)
    cases rest false e (inl here) = let never : false ≡ true = sym e ∙ ap p (eqb-true d.serial s here) ∙ held in absurd cc
    cases rest false e (inr there) = rest there

-- with live devices whose serials increase
pub first_held_is : (w : World) (k : ℕ) (answer : Option ℕ) → EachLater (λ d e. d.serial < e.serial) w.live → AllByRecursion (λ r. IsTrue (is_live w.live r.serial)) w.refs
    → MatchOption answer ((s : ℕ) → holds_in w.refs k s ≡ false) (IsLeastHeld w.refs k) → answer ≡ serial_of (first_held w k)
first_held_is w k None later lives none = sym (ap serial_of (find_none (holds_in w.refs k) w.live none))
first_held_is w k (Some s) later lives is = find_least (holds_in w.refs k) w.live s later is.held is.least (held_lives w.refs w.live k s lives is.held)
