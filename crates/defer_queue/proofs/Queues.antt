-- What is left once the scan that was put off last to a key is taken off.
use Rattle.std.proofs.Common.{◌≡◌, ℕ, ◌+◌, Bool, true, false, not, cond, List, [], ◌∷◌, ◌++◌, length, filter, get_or, take, drop, refl, sym, ap, ◌∙◌, arith, length-append, length-drop, append-nil, add-one}
use Rattle.std.specs.List.{All, AllWithin}
use Rattle.std.proofs.lemmas.Bool.{eqb-true, eq-eqb}
use Rattle.std.proofs.lemmas.List.{get_or-drop, set-get_or, set_split, nil_from_length}
use Rattle.std.proofs.lemmas.List.Elements.{All-head, All-tail, filter-append}
use Rattle.run_rules.specs.declared.world.Deferred.{Deferred}
use Rattle.run_rules.specs.declared.world.Key.{Key}
use Rattle.run_rules.specs.declared.world.Key.TheVariants as key
use Rattle.run_rules.specs.After.{same_key}
use Rattle.defer_queue.specs.Queue.{IsLastPlace, TakesLast, entry_of, entries_of, others_of}

-- ---- keys

pub key_itself : (a : Key) → same_key a a ≡ true
key_itself key.Interrupts = refl
key_itself (key.Parent p) = eq-eqb p p refl

pub keys_alike : (a b : Key) → same_key a b ≡ true → a ≡ b
keys_alike key.Interrupts key.Interrupts e = refl
keys_alike (key.Parent p) (key.Parent q) e = ap key.Parent (eqb-true p q e)
keys_alike key.Interrupts (key.Parent q) e = absurd cc
keys_alike (key.Parent p) key.Interrupts e = absurd cc

-- ---- filters

passes_not : {A : Type 0} (p : A → Bool) (x : A) (xs : List A) → p x ≡ false → filter p (x ∷ xs) ≡ filter p xs
passes_not p x xs e = rw e refl

passes : {A : Type 0} (p : A → Bool) (x : A) (xs : List A) → p x ≡ true → filter p (x ∷ xs) ≡ x ∷ filter p xs
passes p x xs e = rw e refl

pub filter_none : {A : Type 0} (p : A → Bool) (xs : List A) → All (λ x. p x ≡ false) xs → filter p xs ≡ []
filter_none p [] none = refl
filter_none p (x ∷ xs) none =
    passes_not p x xs (All-head (λ y. p y ≡ false) x xs none) ∙ filter_none p xs (All-tail (λ y. p y ≡ false) x xs none)

none_behind : {A : Type 0} (p : A → Bool) (xs : List A) (n : ℕ) → AllWithin (λ x. p x ≡ false) xs n (length xs) → filter p (drop n xs) ≡ []
none_behind p xs n none =
    filter_none p (drop n xs) (λ k d lt. ap p (get_or-drop n xs k d) ∙ none (n + k) d (omega arith) (omega (arith, length-drop n xs)))

-- ---- taking off

pub takes_at : (queue : List Deferred) (key : Key) (place : ℕ) (entry : Deferred) → IsLastPlace queue key place → entry ≡ get_or queue place entry
    → TakesLast queue key entry.child (take place queue ++ drop (place + 1) queue)
takes_at queue key place entry last read = record {
  before = take place queue;
  behind = drop (place + 1) queue;
  was =
      let same : entry ≡ entry_of key entry.child = ap (λ k. entry_of k entry.child) (keys_alike entry.key key (ap (λ e. same_key e.key key) read ∙ last.here entry)) in
      let split : queue ≡ take place queue ++ entry ∷ drop (place + 1) queue = sym (set-get_or queue place entry) ∙ set_split queue place (get_or queue place entry) last.within ∙ (rw (← read) (rw add-one refl)) in
      split ∙ ap (λ e. take place queue ++ e ∷ drop (place + 1) queue) same;
  is = refl;
  last = none_behind (λ e. same_key e.key key) queue (place + 1) last.behind;
}

pub entries_taken : (old new : List Deferred) (key : Key) (child : ℕ) → TakesLast old key child new → entries_of old key ≡ entries_of new key ++ entry_of key child ∷ []
entries_taken old new key child t =
    ap (λ es. entries_of es key) t.was ∙ filter-append of_key t.before (entry_of key child ∷ t.behind)
    ∙ ap (λ es. entries_of t.before key ++ es) (passes of_key (entry_of key child) t.behind (key_itself key) ∙ ap (λ es. entry_of key child ∷ es) t.last)
    ∙ ap (λ es. es ++ entry_of key child ∷ []) (sym left)
  where
    of_key : Deferred → Bool
    of_key e = same_key e.key key

    left : entries_of new key ≡ entries_of t.before key
    left =
        ap (λ es. entries_of es key) t.is ∙ filter-append of_key t.before t.behind ∙ ap (λ es. entries_of t.before key ++ es) t.last
        ∙ append-nil (entries_of t.before key)

pub others_taken : (old new : List Deferred) (key : Key) (child : ℕ) → TakesLast old key child new → others_of old key ≡ others_of new key
others_taken old new key child t =
    ap (λ es. others_of es key) t.was ∙ filter-append of_other t.before (entry_of key child ∷ t.behind)
    ∙ ap (λ es. others_of t.before key ++ es) (passes_not of_other (entry_of key child) t.behind (ap not (key_itself key)))
    ∙ sym (ap (λ es. others_of es key) t.is ∙ filter-append of_other t.before t.behind)
  where
    of_other : Deferred → Bool
    of_other e = not (same_key e.key key)

pub length_taken : (old new : List Deferred) (key : Key) (child : ℕ) → TakesLast old key child new → length old ≡ length new + 1
length_taken old new key child t =
    omega (arith, ap length t.was, ap length t.is, length-append t.before (entry_of key child ∷ t.behind), length-append t.before t.behind)

-- ---- putting off undone

-- the element at the end is the only one behind which none passes
at_end : {A : Type 0} (p : A → Bool) (xs before behind : List A) (x y : A) → p x ≡ true → xs ++ x ∷ [] ≡ before ++ y ∷ behind → filter p behind ≡ []
    → (behind ≡ []) × (before ≡ xs) × (y ≡ x)
at_end p [] [] behind x y e same none = ((cc), refl, (cc))
at_end p [] (b ∷ before) behind x y e same none = absurd (omega (arith, ap length same, length-append before (y ∷ behind)))
at_end p (z ∷ xs) [] behind x y e same none =
    let is : behind ≡ xs ++ x ∷ [] = cc in
    let more : filter p behind ≡ filter p xs ++ x ∷ [] = ap (filter p) is ∙ filter-append p xs (x ∷ []) ∙ ap (λ ys. filter p xs ++ ys) (passes p x [] e) in
    absurd (omega (arith, ap length none, ap length more, length-append (filter p xs) (x ∷ [])))
at_end p (z ∷ xs) (b ∷ before) behind x y e same none =
    let tails : xs ++ x ∷ [] ≡ before ++ y ∷ behind = cc in
    let heads : b ≡ z = cc in
    let rest = at_end p xs before behind x y e tails none in
    (rest.0, cc (heads, rest.1), rest.2)

-- taking off what was just put off gives the list as it was before
pub put_undone : (queue new : List Deferred) (key : Key) (put taken : ℕ) → TakesLast (queue ++ entry_of key put ∷ []) key taken new → (new ≡ queue) × (taken ≡ put)
put_undone queue new key put taken t =
    let end = at_end (λ e. same_key e.key key) queue t.before t.behind (entry_of key put) (entry_of key taken) (key_itself key) t.was t.last in
    (t.is ∙ ap (λ es. t.before ++ es) end.0 ∙ append-nil t.before ∙ end.1, ap (λ e. e.child) end.2)

-- ---- nothing was put off to the key

none_kept : {A : Type 0} (p : A → Bool) (xs : List A) → length (filter p xs) ≡ 0 → filter (λ x. not (p x)) xs ≡ xs
none_kept p [] e = refl
none_kept p (x ∷ xs) e = cases (none_kept p xs) (p x) refl e
  where
    cases : (length (filter p xs) ≡ 0 → filter (λ y. not (p y)) xs ≡ xs) → (b : Bool) → p x ≡ b → length (cond b (x ∷ filter p xs) (filter p xs)) ≡ 0
        → filter (λ y. not (p y)) (x ∷ xs) ≡ x ∷ xs
    cases rest true is long = absurd (omega (arith, long))
    cases rest false is long = passes (λ y. not (p y)) x xs (ap not is) ∙ ap (λ ys. x ∷ ys) (rest long)

pub none_counted : (queue : List Deferred) (key : Key) → length (entries_of queue key) ≡ 0 → (entries_of queue key ≡ []) × (others_of queue key ≡ queue)
none_counted queue key e = (nil_from_length (entries_of queue key) e, none_kept (λ e. same_key e.key key) queue e)
