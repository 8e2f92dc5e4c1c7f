-- The groups that are on: marks, and a list in which each stands once.
use Rattle.std.proofs.Common.{◌≡◌, ◌≢◌, ◌<◌, ◌+◌, ℕ, Bool, true, false, not, ◌||◌, ◌&&◌, ◌==◌, cond, List, [], ◌∷◌, ◌++◌, length, reverse, get_or, set, refl, sym, ap, ◌∙◌, arith, eqb-true, eq-eqb, get_or-set_same, get_or-set_other}
use Rattle.std.specs.Prelude.{filter}
use Rattle.std.specs.List.{AllByRecursion}
use Rattle.std.proofs.lemmas.List.{reverse-append}
use Rattle.std.proofs.lemmas.List.Elements.{filter-append}
use Rattle.std.proofs.lemmas.List.Folds.{list_any-append}
use Rattle.run_rules.specs.Sound.{EachLater}
use Rattle.run_rules.specs.World.{has}
use Rattle.run_rules.proofs.Devices.{later_snoc, or_false}
use Rattle.live_rules.proofs.Lists.{few_keys}

-- ---- the last one first

last_first : (a b : Bool) → (a || (b || false)) ≡ (b || a)
last_first true true = refl
last_first true false = refl
last_first false true = refl
last_first false false = refl

pub has_reversed : (xs : List ℕ) (x : ℕ) → has (reverse xs) x ≡ has xs x
has_reversed [] x = refl
has_reversed (y ∷ ys) x =
    ap (λ (l : List ℕ). has l x) (reverse-append (y ∷ []) ys) ∙ list_any-append (λ z. z == x) (reverse ys) (y ∷ [])
    ∙ ap (λ (b : Bool). b || ((y == x) || false)) (has_reversed ys x) ∙ last_first (has ys x) (y == x)

append_none : (l : List ℕ) → l ≡ l ++ []
append_none [] = refl
append_none (x ∷ l) = ap (λ (m : List ℕ). x ∷ m) (append_none l)

one_reversed : (y : ℕ) (xs zs : List ℕ) → reverse xs ≡ zs → (b : Bool) → reverse (cond b (y ∷ xs) xs) ≡ zs ++ cond b (y ∷ []) []
one_reversed y xs zs e true = reverse-append (y ∷ []) xs ∙ ap (λ (l : List ℕ). l ++ y ∷ []) e
one_reversed y xs zs e false = e ∙ append_none zs

pub filter_reversed : (q : ℕ → Bool) (xs : List ℕ) → reverse (filter q xs) ≡ filter q (reverse xs)
filter_reversed q [] = refl
filter_reversed q (y ∷ ys) =
    one_reversed y (filter q ys) (filter q (reverse ys)) (filter_reversed q ys) (q y) ∙ sym (filter-append q (reverse ys) (y ∷ []))
    ∙ ap (filter q) (sym (reverse-append (y ∷ []) ys))

-- ---- one more

or_true : (b c : Bool) → (b || (true || c)) ≡ true
or_true true c = refl
or_true false c = refl

or_none : (b : Bool) → (b || (false || false)) ≡ b
or_none true = refl
or_none false = refl

pub marked_more : (marks : List Bool) (list : List ℕ) (g : ℕ) → g < length marks → ((h : ℕ) → get_or marks h false ≡ has list h) → (h : ℕ) → get_or (set marks g true) h false ≡ has (list ++ g ∷ []) h
marked_more marks list g there was h = cases (g == h) refl ∙ sym (list_any-append (λ k. k == h) list (g ∷ []))
  where
    cases : (b : Bool) → (g == h) ≡ b → get_or (set marks g true) h false ≡ (has list h || ((g == h) || false))
    cases true e =
        ap (λ k. get_or (set marks g true) k false) (sym (eqb-true g h e)) ∙ get_or-set_same marks g true false there
        ∙ sym (ap (λ (b : Bool). has list h || (b || false)) e ∙ or_true (has list h) false)
    cases false e =
        get_or-set_other marks g h true false (λ same. absurd (differ e (eq-eqb g h (sym same)))) ∙ was h
        ∙ sym (ap (λ (b : Bool). has list h || (b || false)) e ∙ or_none (has list h))
      where
        differ : (g == h) ≡ false → (g == h) ≡ true → ⊥
        differ a b = cc

none_same : (list : List ℕ) (g : ℕ) → has list g ≡ false → AllByRecursion (λ h. h ≢ g) list
none_same [] g h = tt
none_same (x ∷ xs) g h =
    let both = or_false (x == g) (has xs g) h in
    (λ same. absurd (clash (x == g) both.0 (eq-eqb x g same)), none_same xs g both.1)
  where
    clash : (b : Bool) → b ≡ false → b ≡ true → ⊥
    clash b a c = cc

pub once_more : (list : List ℕ) (g : ℕ) → has list g ≡ false → EachLater (λ h k. h ≢ k) list → EachLater (λ h k. h ≢ k) (list ++ g ∷ [])
once_more list g out once = later_snoc (λ h k. h ≢ k) list g once (none_same list g out)

-- there is room for one more
pub has_room : (list : List ℕ) (n g : ℕ) → has list g ≡ false → g < n → EachLater (λ h k. h ≢ k) list → AllByRecursion (λ h. h < n) list → length list < n
has_room list n g out there once all = let few = few_keys (λ (h : ℕ). h) n (list ++ g ∷ []) (once_more list g out once) (snoc list all) in omega (arith, few, longer list)
  where
    snoc : (l : List ℕ) → AllByRecursion (λ h. h < n) l → AllByRecursion (λ h. h < n) (l ++ g ∷ [])
    snoc [] a = (there, tt)
    snoc (x ∷ l) a = (a.0, snoc l a.1)

    longer : (l : List ℕ) → length (l ++ g ∷ []) ≡ length l + 1
    longer [] = refl
    longer (x ∷ l) = omega (arith, longer l)

-- ---- one less

out_less : (list : List ℕ) (g h : ℕ) → has (filter (λ k. not (k == g)) list) h ≡ (not (h == g) && has list h)
out_less [] g h = none (h == g)
  where
    none : (b : Bool) → false ≡ (not b && false)
    none true = refl
    none false = refl
out_less (x ∷ xs) g h = cases (out_less xs g h) (x == g) refl (x == h) refl (h == g) refl
  where
    cases : has (filter (λ k. not (k == g)) xs) h ≡ (not (h == g) && has xs h) → (a : Bool) → (x == g) ≡ a → (b : Bool) → (x == h) ≡ b → (c : Bool) → (h == g) ≡ c
        → has (cond (not a) (x ∷ filter (λ k. not (k == g)) xs) (filter (λ k. not (k == g)) xs)) h ≡ (not c && (b || has xs h))
    cases rest true ea true eb true ec = rest ∙ ap (λ (d : Bool). not d && has xs h) ec
    cases rest true ea true eb false ec = absurd (differ ec (eq-eqb h g (sym (eqb-true x h eb) ∙ eqb-true x g ea)))
      where
        differ : (h == g) ≡ false → (h == g) ≡ true → ⊥
        differ a b = cc
    cases rest true ea false eb c ec = rest ∙ ap (λ (d : Bool). not d && has xs h) ec
    cases rest false ea true eb true ec = absurd (differ ea (eq-eqb x g (eqb-true x h eb ∙ eqb-true h g ec)))
      where
        differ : (x == g) ≡ false → (x == g) ≡ true → ⊥
        differ a b = cc
    cases rest false ea true eb false ec = ap (λ (d : Bool). d || has (filter (λ k. not (k == g)) xs) h) eb
    cases rest false ea false eb c ec = ap (λ (d : Bool). d || has (filter (λ k. not (k == g)) xs) h) eb ∙ rest ∙ ap (λ (d : Bool). not d && has xs h) ec

pub marked_less : (marks : List Bool) (list : List ℕ) (g : ℕ) → g < length marks → ((h : ℕ) → get_or marks h false ≡ has list h) → (h : ℕ)
    → get_or (set marks g false) h false ≡ has (filter (λ k. not (k == g)) list) h
marked_less marks list g there was h = cases (h == g) refl ∙ sym (out_less list g h)
  where
    cases : (b : Bool) → (h == g) ≡ b → get_or (set marks g false) h false ≡ (not (h == g) && has list h)
    cases true e =
        ap (λ k. get_or (set marks g false) k false) (eqb-true h g e) ∙ get_or-set_same marks g false false there ∙ sym (ap (λ (b : Bool). not b && has list h) e)
    cases false e =
        get_or-set_other marks g h false false (λ same. absurd (differ e (eq-eqb h g same))) ∙ was h ∙ sym (ap (λ (b : Bool). not b && has list h) e)
      where
        differ : (h == g) ≡ false → (h == g) ≡ true → ⊥
        differ a b = cc
