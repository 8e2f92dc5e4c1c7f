-- The worlds with a print, from the last one on.
use Rattle.std.proofs.Common.{◌≡◌, ◌≢◌, ◌⊎◌, inl, inr, ◌≤◌, ◌<◌, ◌+◌, ◌∙◌, ℕ, Bool, true, false, cond, nat_eq, List, [], ◌∷◌, ◌++◌, length, Option, Some, None, refl, sym, ap, subst, arith, length-append, eqb-true}
use Rattle.std.specs.Prelude.{option_map, unwrap_or}
use Rattle.std.specs.HashMap.{get}
use Rattle.std.specs.Map.{lookup}
use Rattle.std.proofs.lemmas.Bool.{cases_lt, eqb-false}
use Rattle.run_rules.specs.declared.world.Setup.{Setup}
use Rattle.plain_world.specs.declared.world.Plain.{Plain}
use Rattle.plain_world.specs.Plain.{world_of}
use Rattle.every_same.specs.Print.{print_of}
use Rattle.every_order.specs.declared.known.Known.{Known}
use Rattle.every_order.specs.declared.known.Met.{Met}
use Rattle.every_order.specs.Meeting.{IsAdded}
use Rattle.every_order.specs.Search.{IsAt, IsIndexed, IsLatest, IsNew, IsPrinted}
use Rattle.every_order.proofs.Places.{at_cases, at_one, at_shorter}

-- ---- nothing was met

nowhere : (xs : List Met) (j : ℕ) (m : Met) → xs ≡ [] → IsAt xs j m → ⊥
nowhere xs j m none at = let lt = at.0 in omega (arith, ap (λ (l : List Met). length l) none, lt)

pub get_none : (known : Known) → known.heads.entries ≡ [] → (p : ℕ) → get nat_eq known.heads p ≡ None
get_none known none p = ap (λ (es : List (ℕ × ℕ)). lookup (nat_eq p) es) none

pub indexed_none : (known : Known) → known.met.items ≡ [] → known.heads.entries ≡ [] → IsIndexed known
indexed_none known no_met no_heads = record {
  printed = λ j m at. absurd (nowhere known.met.items j m no_met at);
  earlier = λ j m at. absurd (nowhere known.met.items j m no_met at);
  heads = λ p. subst (IsLatest known.met.items (length known.met.items) p) (sym (get_none known no_heads p)) (λ j m lt at. absurd (nowhere known.met.items j m no_met at));
}

-- ---- looked for

-- a world that is a plain one can still be at a place or before it, or nowhere; the one at the place has its print
abbrev pub IsAtOrBefore : List Met → ℕ → Plain → Option ℕ → Type 0
IsAtOrBefore met print p None = IsNew met p
IsAtOrBefore met print p (Some e) =
    (e < length met) × ((m : Met) → IsAt met e m → m.print ≡ print) × ((s : Setup) (j : ℕ) (m : Met) → e < j → IsAt met j m → world_of s m.plain ≢ world_of s p)

other_world : (s : Setup) (m : Met) (p : Plain) (print : ℕ) → IsPrinted m → print_of (world_of s p) ≡ print → m.print ≢ print → world_of s m.plain ≢ world_of s p
other_world s m p print printed is other same = other (sym (printed s) ∙ ap print_of same ∙ is)

-- none of the later ones is, and among the first n these are the ones with its print
pub before_place : (met : List Met) (n print : ℕ) (p : Plain) (o : Option ℕ) → ((j : ℕ) (m : Met) → IsAt met j m → IsPrinted m) → ((s : Setup) → print_of (world_of s p) ≡ print) → n ≤ length met
    → IsLatest met n print o → ((s : Setup) (j : ℕ) (m : Met) → n ≤ j → IsAt met j m → world_of s m.plain ≢ world_of s p) → IsAtOrBefore met print p o
before_place met n print p None printed is few latest rest = λ s j m at. by s j m at (cases_lt j n)
  where
    by : (s : Setup) (j : ℕ) (m : Met) → IsAt met j m → (j < n) ⊎ (n ≤ j) → world_of s m.plain ≢ world_of s p
    by s j m at (inl lt) = other_world s m p print (printed j m at) (is s) (latest j m lt at)
    by s j m at (inr ge) = rest s j m ge at
before_place met n print p (Some e) printed is few latest rest = (omega (arith, latest.0, few), latest.1, λ s j m behind at. by s j m behind at (cases_lt j n))
  where
    by : (s : Setup) (j : ℕ) (m : Met) → e < j → IsAt met j m → (j < n) ⊎ (n ≤ j) → world_of s m.plain ≢ world_of s p
    by s j m behind at (inl lt) = other_world s m p print (printed j m at) (is s) (latest.2 j m behind lt at)
    by s j m behind at (inr ge) = rest s j m ge at

-- at first
pub from_last : (known : Known) (print : ℕ) (p : Plain) (o : Option ℕ) → IsIndexed known → ((s : Setup) → print_of (world_of s p) ≡ print) → o ≡ get nat_eq known.heads print → IsAtOrBefore known.met.items print p o
from_last known print p o indexed is found =
    before_place known.met.items (length known.met.items) print p o indexed.printed is (omega arith) (subst (IsLatest known.met.items (length known.met.items) print) (sym found) (indexed.heads print))
    (λ s j m ge at. let lt = at.0 in absurd (omega (arith, ge, lt)))

-- and behind the one at a place, which is another world
pub from_earlier : (known : Known) (print : ℕ) (p : Plain) (place : ℕ) (one : Met) → IsIndexed known → ((s : Setup) → print_of (world_of s p) ≡ print) → IsAt known.met.items place one
    → IsAtOrBefore known.met.items print p (Some place) → ((s : Setup) → world_of s one.plain ≢ world_of s p) → IsAtOrBefore known.met.items print p one.earlier
from_earlier known print p place one indexed is here so other =
    let low = so.0 in
    before_place known.met.items place print p one.earlier indexed.printed is (omega (arith, low)) (subst (λ (n : ℕ). IsLatest known.met.items place n one.earlier) (so.1 one here) (indexed.earlier place one here))
    (λ s j m ge at. by s j m ge at (cases_lt place j))
  where
    by : (s : Setup) (j : ℕ) (m : Met) → place ≤ j → IsAt known.met.items j m → (place < j) ⊎ (j ≤ place) → world_of s m.plain ≢ world_of s p
    by s j m ge at (inl lt) = so.2 s j m lt at
    by s j m ge at (inr le) =
        let same_place : j ≡ place = omega (arith, ge, le) in
        let same : one ≡ m = at_one known.met.items place one m here (subst (λ (i : ℕ). IsAt known.met.items i m) same_place at) in
        subst (λ (x : Met). world_of s x.plain ≢ world_of s p) same (other s)

-- how many places are left to look at
abbrev pub left_at : Option ℕ → ℕ
left_at o = unwrap_or (option_map (λ (e : ℕ). e + 1) o) 0

latest_low : (met : List Met) (n p : ℕ) (o : Option ℕ) → IsLatest met n p o → left_at o ≤ n
latest_low met n p None latest = omega arith
latest_low met n p (Some e) latest = let low = latest.0 in omega (arith, low)

pub earlier_low : (known : Known) (place : ℕ) (one : Met) → IsIndexed known → IsAt known.met.items place one → left_at one.earlier ≤ place
earlier_low known place one indexed here = latest_low known.met.items place one.print one.earlier (indexed.earlier place one here)

-- ---- one more

latest_still : (xs : List Met) (m : Met) (n p : ℕ) (o : Option ℕ) → n ≤ length xs → IsLatest xs n p o → IsLatest (xs ++ m ∷ []) n p o
latest_still xs m n p None few latest = λ j x lt at. latest j x lt (at_shorter xs m x j (omega (arith, lt, few)) at)
latest_still xs m n p (Some e) few latest =
    let low = latest.0 in
    (low, λ x at. latest.1 x (at_shorter xs m x e (omega (arith, low, few)) at), λ j x behind lt at. latest.2 j x behind lt (at_shorter xs m x j (omega (arith, lt, few)) at))

-- the last one has another print
latest_other : (xs : List Met) (m : Met) (p : ℕ) (o : Option ℕ) → m.print ≢ p → IsLatest xs (length xs) p o → IsLatest (xs ++ m ∷ []) (length (xs ++ m ∷ [])) p o
latest_other xs m p None other latest = λ j x lt at. by j x at (at_cases xs m x j at)
  where
    by : (j : ℕ) (x : Met) → IsAt (xs ++ m ∷ []) j x → IsAt xs j x ⊎ ((j ≡ length xs) × (x ≡ m)) → x.print ≢ p
    by j x at (inl old) = latest j x old.0 old
    by j x at (inr e) = λ same. other (sym (ap (λ (y : Met). y.print) e.1) ∙ same)
latest_other xs m p (Some e) other latest =
    let low = latest.0 in
    (omega (arith, length-append xs (m ∷ []), low), λ x at. latest.1 x (at_shorter xs m x e low at), λ j x behind lt at. by j x behind (at_cases xs m x j at))
  where
    by : (j : ℕ) (x : Met) → e < j → IsAt xs j x ⊎ ((j ≡ length xs) × (x ≡ m)) → x.print ≢ p
    by j x behind (inl old) = latest.2 j x behind old.0 old
    by j x behind (inr e) = λ same. other (sym (ap (λ (y : Met). y.print) e.1) ∙ same)

-- the last one has it
latest_last : (xs : List Met) (m : Met) (p : ℕ) → m.print ≡ p → IsLatest (xs ++ m ∷ []) (length (xs ++ m ∷ [])) p (Some (length xs))
latest_last xs m p is = (omega (arith, length-append xs (m ∷ [])), λ x at. by x (at_cases xs m x (length xs) at), λ j x behind lt at. absurd (omega (arith, length-append xs (m ∷ []), behind, lt)))
  where
    by : (x : Met) → IsAt xs (length xs) x ⊎ ((length xs ≡ length xs) × (x ≡ m)) → x.print ≡ p
    by x (inl old) = let lt = old.0 in absurd (omega (arith, lt))
    by x (inr e) = ap (λ (y : Met). y.print) e.1 ∙ is

pub indexed_more : (old new : Known) (one : Met) → IsIndexed old → IsPrinted one → one.earlier ≡ get nat_eq old.heads one.print → IsAdded old one new → IsIndexed new
indexed_more old new one so printed earlier added = record {
  printed = λ j m at. printed_by j m (at_cases old.met.items one m j (subst (λ (l : List Met). IsAt l j m) added.met at));
  earlier = λ j m at. subst (λ (l : List Met). IsLatest l j m.print m.earlier) (sym added.met) (earlier_by j m (at_cases old.met.items one m j (subst (λ (l : List Met). IsAt l j m) added.met at)));
  heads = λ p. subst (λ (l : List Met). IsLatest l (length l) p (get nat_eq new.heads p)) (sym added.met) (subst (IsLatest (old.met.items ++ one ∷ []) (length (old.met.items ++ one ∷ [])) p) (sym (added.heads.0 p)) (heads_by p (nat_eq one.print p) refl));
}
  where
    printed_by : (j : ℕ) (m : Met) → IsAt old.met.items j m ⊎ ((j ≡ length old.met.items) × (m ≡ one)) → IsPrinted m
    printed_by j m (inl before) = so.printed j m before
    printed_by j m (inr e) = subst IsPrinted (sym e.1) printed

    last_earlier : IsLatest old.met.items (length old.met.items) one.print one.earlier
    last_earlier = subst (IsLatest old.met.items (length old.met.items) one.print) (sym earlier) (so.heads one.print)

    earlier_by : (j : ℕ) (m : Met) → IsAt old.met.items j m ⊎ ((j ≡ length old.met.items) × (m ≡ one)) → IsLatest (old.met.items ++ one ∷ []) j m.print m.earlier
    earlier_by j m (inl before) = let lt = before.0 in latest_still old.met.items one j m.print m.earlier (omega (arith, lt)) (so.earlier j m before)
    earlier_by j m (inr e) =
        subst (λ (i : ℕ). IsLatest (old.met.items ++ one ∷ []) i m.print m.earlier) (sym e.0)
        (subst (λ (x : Met). IsLatest (old.met.items ++ one ∷ []) (length old.met.items) x.print x.earlier) (sym e.1)
        (latest_still old.met.items one (length old.met.items) one.print one.earlier (omega arith) last_earlier))

    heads_by : (p : ℕ) (b : Bool) → nat_eq one.print p ≡ b → IsLatest (old.met.items ++ one ∷ []) (length (old.met.items ++ one ∷ [])) p (cond (nat_eq one.print p) (Some (length old.met.items)) (get nat_eq old.heads p))
    heads_by p true is = rw is (latest_last old.met.items one p (eqb-true one.print p is))
    heads_by p false is = rw is (latest_other old.met.items one p (get nat_eq old.heads p) (eqb-false one.print p is) (so.heads p))
