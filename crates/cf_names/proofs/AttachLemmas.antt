-- The numbers of the attachments of a device: they are within, and one more attachment.
use Rattle.std.proofs.Common.{◌≡◌, ℕ, ◌+◌, ◌<◌, suc, Bool, true, false, Option, Some, None, List, [], ◌∷◌, ◌++◌, length, refl, ap, ◌∙◌, arith}
use Rattle.std.specs.Prelude.{◌==◌, if◌then◌else◌, All, filter_map}
use Rattle.std.specs.List.{cons_option, enumerate_from}
use Rattle.std.proofs.lemmas.List.Elements.{All-cons, All-nil}
use Rattle.cf_types.proofs.ListLemmas.{all_below_more}
use Rattle.cf_types.specs.declared.tables.Attach.{Attach}
use Rattle.cf_names.specs.Attaches.{attaches_of}

-- the numbers of those of a device, counted from n
abbrev numbers_from : ℕ → List Attach → ℕ → List ℕ
numbers_from n attaches device = filter_map (λ a. if a.1.device == device then Some a.0 else None) (enumerate_from n attaches)

-- ---- within

within_if : (b : Bool) (n m : ℕ) (xs : List ℕ) → n < m → All (λ k. k < m) xs → All (λ k. k < m) (cons_option (if b then Some n else None) xs)
within_if true n m xs h all = All-cons (λ k. k < m) n xs h all
within_if false n m xs h all = all

within_from : (n : ℕ) (attaches : List Attach) (device : ℕ) → All (λ k. k < n + length attaches) (numbers_from n attaches device)
within_from n [] device = All-nil (λ k. k < n + 0)
within_from n (a ∷ attaches) device =
    within_if (a.device == device) n (n + suc (length attaches)) (numbers_from (n + 1) attaches device) (omega arith)
    (all_below_more (numbers_from (n + 1) attaches device) (n + 1 + length attaches) (n + suc (length attaches)) (omega arith) (within_from (n + 1) attaches device))

-- each is the number of an attachment
pub numbers_within : (attaches : List Attach) (device : ℕ) → All (λ n. n < length attaches) (attaches_of attaches device)
numbers_within attaches device = all_below_more (attaches_of attaches device) (0 + length attaches) (length attaches) (omega arith) (within_from 0 attaches device)

-- ---- one more attachment

one_if : (b : Bool) (n m : ℕ) → n ≡ m → cons_option (if b then Some n else None) [] ≡ (if b then m ∷ [] else [])
one_if true n m e = ap (λ k. k ∷ []) e
one_if false n m e = refl

cons-append : (o : Option ℕ) (xs ys : List ℕ) → cons_option o (xs ++ ys) ≡ cons_option o xs ++ ys
cons-append None xs ys = refl
cons-append (Some n) xs ys = refl

push_from : (n m : ℕ) (attaches : List Attach) (a : Attach) (device : ℕ) → n + length attaches ≡ m
    → numbers_from n (attaches ++ a ∷ []) device ≡ numbers_from n attaches device ++ (if a.device == device then m ∷ [] else [])
push_from n m [] a device e = one_if (a.device == device) n m (omega arith)
push_from n m (x ∷ attaches) a device e =
    ap (cons_option (if x.device == device then Some n else None)) (push_from (n + 1) m attaches a device (omega arith))
    ∙ cons-append (if x.device == device then Some n else None) (numbers_from (n + 1) attaches device) (if a.device == device then m ∷ [] else [])

-- one more attachment is one more of its device
pub attaches_push : (attaches : List Attach) (a : Attach) (device : ℕ) → attaches_of (attaches ++ a ∷ []) device ≡ attaches_of attaches device ++ (if a.device == device then length attaches ∷ [] else [])
attaches_push attaches a device = push_from 0 (length attaches) attaches a device (omega arith)
