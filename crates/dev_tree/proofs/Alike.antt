-- Lists of devices that differ in marks alone: who sleeps, and who is condemned.
use Rattle.std.proofs.Common.{◌≡◌, ℕ, zero, suc, Bool, true, false, ◌||◌, ◌==◌, cond, Some, None, List, [], ◌∷◌, length, map, refl, ap, ◌∙◌, subst, ◌<◌}
use Rattle.std.specs.Prelude.{if◌then◌else◌, ⊤}
use Rattle.std.specs.Option.{option_map_or}
use Rattle.std.specs.List.{AllByRecursion}
use Rattle.run_rules.specs.declared.world.Dev.{Dev}
use Rattle.run_rules.specs.World.{has, device_at, is_live, parent_of, lineage, is_under}
use Rattle.run_rules.specs.After.{with_sleep, with_condemner}
use Rattle.run_rules.specs.Sound.{EachLater}
use Rattle.dev_tree.specs.Tree.{AreInOrder}
use Rattle.dev_tree.proofs.Halves.{half}

-- ---- element by element

abbrev pub Alike : {A : Type 0} → (A → A → Type 0) → List A → List A → Type 0
Alike S [] [] = ⊤
Alike S (x ∷ xs) (y ∷ ys) = S x y × Alike S xs ys
Alike S [] (y ∷ ys) = ⊥
Alike S (x ∷ xs) [] = ⊥

pub all_alike : {A : Type 0} (S : A → A → Type 0) (P Q : A → Type 0) (xs ys : List A) → Alike S xs ys → ((x y : A) → S x y → P x → Q y) → AllByRecursion P xs → AllByRecursion Q ys
all_alike S P Q [] [] s f h = tt
all_alike S P Q (x ∷ xs) (y ∷ ys) s f h = (f x y s.0 h.0, all_alike S P Q xs ys s.1 f h.1)
all_alike S P Q [] (y ∷ ys) s f h = absurd s
all_alike S P Q (x ∷ xs) [] s f h = absurd s

pub later_alike : {A : Type 0} (S : A → A → Type 0) (R : A → A → Type 0) (xs ys : List A) → Alike S xs ys → ((x y u v : A) → S x y → S u v → R x u → R y v) → EachLater R xs → EachLater R ys
later_alike S R [] [] s f h = tt
later_alike S R (x ∷ xs) (y ∷ ys) s f h = (all_alike S (R x) (R y) xs ys s.1 (λ u v k. f x y u v s.0 k) h.0, later_alike S R xs ys s.1 f h.1)
later_alike S R [] (y ∷ ys) s f h = absurd s
later_alike S R (x ∷ xs) [] s f h = absurd s

-- ---- devices

-- all but the marks
abbrev pub plain : Dev → Dev
plain d = record d { asleep = false; condemned = None }

abbrev pub SamePlain : Dev → Dev → Type 0
SamePlain d e = plain d ≡ plain e

pub map_alike : (f : Dev → Dev) → ((d : Dev) → SamePlain d (f d)) → (xs : List Dev) → Alike SamePlain xs (map f xs)
map_alike f same [] = tt
map_alike f same (x ∷ xs) = (same x, map_alike f same xs)

self_alike : (xs : List Dev) → Alike SamePlain xs xs
self_alike [] = tt
self_alike (x ∷ xs) = (refl, self_alike xs)

pub half_alike : (f : Dev → Dev) → ((d : Dev) → SamePlain d (f d)) → (i : ℕ) (xs : List Dev) → Alike SamePlain xs (half f i xs)
half_alike f same zero xs = self_alike xs
half_alike f same (suc i) [] = tt
half_alike f same (suc i) (x ∷ xs) = (same x, half_alike f same i xs)

pub sleep_plain : (s : ℕ) (asleep : Bool) (d : Dev) → SamePlain d (with_sleep s asleep d)
sleep_plain s asleep d = cases (d.serial == s)
  where
    cases : (b : Bool) → SamePlain d (if b then record d { asleep = asleep } else d)
    cases true = refl
    cases false = refl

pub condemner_plain : (live : List Dev) (k s : ℕ) (d : Dev) → SamePlain d (with_condemner live k s d)
condemner_plain live k s d = cases (is_under live s d.serial)
  where
    cases : (b : Bool) → SamePlain d (if b then record d { condemned = Some k } else d)
    cases true = refl
    cases false = refl

-- ---- the marks

-- ---- what is looked up in them

pub live_alike : (xs ys : List Dev) (s : ℕ) → Alike SamePlain xs ys → is_live xs s ≡ is_live ys s
live_alike [] [] s h = refl
live_alike (x ∷ xs) (y ∷ ys) s h =
    let e : x.serial ≡ y.serial = ap (λ d. d.serial) h.0 in
    ap (λ n. n == s || is_live xs s) e ∙ ap (λ b. y.serial == s || b) (live_alike xs ys s h.1)
live_alike [] (y ∷ ys) s h = absurd h
live_alike (x ∷ xs) [] s h = absurd h

parent_alike : (xs ys : List Dev) (s : ℕ) → Alike SamePlain xs ys → parent_of xs s ≡ parent_of ys s
parent_alike [] [] s h = refl
parent_alike (x ∷ xs) (y ∷ ys) s h =
    let e : x.serial ≡ y.serial = ap (λ d. d.serial) h.0 in
    let p : x.parent ≡ y.parent = ap (λ d. d.parent) h.0 in
    cases (x.serial == s) (y.serial == s) (ap (λ n. n == s) e) p (parent_alike xs ys s h.1)
  where
    cases : (b c : Bool) → b ≡ c → x.parent ≡ y.parent → parent_of xs s ≡ parent_of ys s
        → option_map_or (λ (d : Dev). d.parent) (cond b (Some x) (device_at xs s)) 0 ≡ option_map_or (λ (d : Dev). d.parent) (cond c (Some y) (device_at ys s)) 0
    cases true true e p more = p
    cases false false e p more = more
    cases true false e p more = absurd cc
    cases false true e p more = absurd cc
parent_alike [] (y ∷ ys) s h = absurd h
parent_alike (x ∷ xs) [] s h = absurd h

pub length_alike : (xs ys : List Dev) → Alike SamePlain xs ys → length xs ≡ length ys
length_alike [] [] h = refl
length_alike (x ∷ xs) (y ∷ ys) h = ap (λ n. suc n) (length_alike xs ys h.1)
length_alike [] (y ∷ ys) h = absurd h
length_alike (x ∷ xs) [] h = absurd h

lineage_alike : (n : ℕ) (xs ys : List Dev) (s : ℕ) → Alike SamePlain xs ys → lineage n xs s ≡ lineage n ys s
unfolding lineage
lineage_alike zero xs ys s h = refl
lineage_alike (suc n) xs ys s h = ap (λ ms. s ∷ ms) (ap (lineage n xs) (parent_alike xs ys s h) ∙ lineage_alike n xs ys (parent_of ys s) h)

pub under_alike : (xs ys : List Dev) (s x : ℕ) → Alike SamePlain xs ys → is_under xs s x ≡ is_under ys s x
unfolding is_under
under_alike xs ys s x h =
    ap (λ ms. has ms s) (ap (λ n. lineage n xs x) (length_alike xs ys h) ∙ lineage_alike (length ys) xs ys x h)

pub order_alike : (xs ys : List Dev) → Alike SamePlain xs ys → AreInOrder xs → AreInOrder ys
order_alike xs ys h o = record {
  above = all_alike SamePlain (λ d. 0 < d.serial) (λ d. 0 < d.serial) xs ys h (λ x y e lt. subst (λ n. 0 < n) (ap (λ d. d.serial) e) lt) o.above;
  later = later_alike SamePlain (λ d e. d.serial < e.serial) xs ys h (λ x y u v e f lt. subst (λ n. n < v.serial) (ap (λ d. d.serial) e) (subst (λ n. x.serial < n) (ap (λ d. d.serial) f) lt)) o.later;
}
