-- What is kept for a subscriber, as notes come and are read.
use Rattle.std.proofs.Common.{◌≡◌, ◌≤◌, ◌<◌, ◌^◌, ℕ, zero, suc, ◌+◌, ◌-◌, ◌==◌, Bool, true, false, cond, List, [], ◌∷◌, ◌++◌, length, map, take, drop, set, append_assoc, arith, refl, sym, ap, ◌∙◌, subst, Option, None, max, min, length-drop}
use Rattle.std.specs.Prelude.{nat_lt, option_map, slice_get, get_or}
use Rattle.std.proofs.lemmas.Bool.Decides.{nat_tests}
use Rattle.std.proofs.lemmas.List.{drop-append-le, drop-drop, drop_all, drop_more, get_or_append_left, get_or_at, length-map, length-take-le, length_push, map-append, set_at, take_more}
use Rattle.circular_buffer.specs.Buffer.{buffer, keep_last}
use Rattle.dev_monitor.specs.declared.news.News.{News}
use Rattle.dev_monitor.specs.declared.note.Note.{Note}
use Rattle.dev_monitor.specs.declared.queue.Queue.{Queue}
use Rattle.dev_monitor.specs.Queues.{Serves, new_queue, put_in, taken_from}
use Rattle.dev_monitor.specs.Subscribers.{Reader, first_kept, note_with, read_of, read_on}

-- ---- numbers: n is read next, c are kept at most, of m notes; p is the first that is kept

kept_within : (n c m p : ℕ) → n ≤ m → p ≡ max n (m - c) → p ≤ m
kept_within n c m p low is = omega arith

kept_later : (n c m p : ℕ) → n ≤ m → 1 ≤ c → p ≡ max n (m - c) → p + ((m + 1 - p) - c) ≡ max n ((m + 1) - c)
kept_later n c m p low some is = omega arith

lost_later : (b : Bool) (n c m p lost high : ℕ) → n ≤ m → 1 ≤ c → p ≡ max n (m - c) → lost + n ≡ p → lost + 1 ≤ high → nat_lt (m - p) c ≡ b
    → cond b lost (min (lost + 1) high) + n ≡ max n ((m + 1) - c)
lost_later true n c m p lost high low some is counts below h = let few : m - p < c = grind (arith, nat_tests) in omega arith
lost_later false n c m p lost high low some is counts below h = let full : c ≤ m - p = grind (arith, nat_tests) in omega arith

-- ---- one note more

kept_of : (c p : ℕ) (ns : List News) (x : News) → p ≤ length ns → keep_last c (drop p ns ++ x ∷ []) ≡ drop (p + ((length ns + 1 - p) - c)) (ns ++ x ∷ [])
kept_of c p ns x within =
    ap (keep_last c) (sym (drop-append-le p ns (x ∷ []) within))
    ∙ drop-drop (length (drop p (ns ++ x ∷ [])) - c) p (ns ++ x ∷ [])
    ∙ ap (λ (k : ℕ). drop (p + (k - c)) (ns ++ x ∷ [])) (length-drop p (ns ++ x ∷ []) ∙ ap (λ (k : ℕ). k - p) (length_push ns x))

pub put_serves : (ns : List News) (x : News) (r : Reader) (q : Queue) → length ns + 1 ≤ 2 ^ 64 - 1 → Serves ns r q → Serves (ns ++ x ∷ []) r (put_in x q)
put_serves ns x r q few s =
    let m : ℕ = length ns in
    let p : ℕ = first_kept r m in
    let within : p ≤ m = kept_within r.next r.capacity m p s.reached refl in
    let held : length q.kept.items ≡ m - p = ap length s.kept ∙ length-drop p ns in
    let grown : length (ns ++ x ∷ []) ≡ m + 1 = length_push ns x in
    record {
      capacity = s.capacity;
      room = s.room;
      reached = omega arith;
      kept = ap (λ (c : ℕ). keep_last c (q.kept.items ++ x ∷ [])) s.capacity
          ∙ ap (λ (xs : List News). keep_last r.capacity (xs ++ x ∷ [])) s.kept
          ∙ kept_of r.capacity p ns x within
          ∙ ap (λ (k : ℕ). drop k (ns ++ x ∷ [])) (kept_later r.next r.capacity m p s.reached s.room refl ∙ ap (first_kept r) (sym grown));
      lost = ap (λ (b : Bool). cond b q.lost (min (q.lost + 1) (2 ^ 64 - 1)) + r.next) (ap (λ (k : ℕ). nat_lt k q.kept.capacity) held ∙ ap (nat_lt (m - p)) s.capacity)
          ∙ lost_later (nat_lt (m - p) r.capacity) r.next r.capacity m p q.lost (2 ^ 64 - 1) s.reached s.room refl s.lost (omega arith) refl
          ∙ ap (first_kept r) (sym grown);
    }

-- ---- a note is read

-- what comes of reading
pub record Reads (ns : List News) (r : Reader) (q : Queue) : Type 0 where
  pub note : option_map (note_with q.lost) (slice_get q.kept.items 0) ≡ read_of ns r
  pub serves : Serves ns (read_on ns r) (taken_from q)

abbrev read_if : Bool → List News → Reader → Option Note
read_if b ns r = cond b None (option_map (note_with (first_kept r (length ns) - r.next)) (slice_get ns (first_kept r (length ns))))

abbrev on_if : Bool → List News → Reader → Reader
on_if b ns r = cond b r (record r { next = first_kept r (length ns) + 1 })

abbrev taken_if : Bool → Queue → Queue
taken_if b q = cond b q (record q { lost = 0; kept = buffer (drop 1 q.kept.items) q.kept.capacity })

record ReadsIf (b : Bool) (ns : List News) (r : Reader) (q : Queue) : Type 0 where
  pub note : option_map (note_with q.lost) (slice_get q.kept.items 0) ≡ read_if b ns r
  pub serves : Serves ns (on_if b ns r) (taken_if b q)

-- the first of a list that begins at a place
first_of : (ns : List News) (p : ℕ) → p < length ns → slice_get (drop p ns) 0 ≡ slice_get ns p
first_of [] p within = absurd (omega arith)
first_of (x ∷ ns) zero within = refl
first_of (x ∷ ns) (suc p) within = first_of ns p (omega arith)

all_read : (n c m p : ℕ) → n ≡ m → p ≡ max n (m - c) → p ≡ m
all_read n c m p e is = omega arith

pub some_left : (n c m p : ℕ) → n ≤ m → (n ≡ m → ⊥) → 1 ≤ c → p ≡ max n (m - c) → p < m
some_left n c m p low ne some is = omega (arith, ne)

kept_next : (n c m p : ℕ) → p ≡ max n (m - c) → max (p + 1) (m - c) ≡ p + 1
kept_next n c m p is = omega arith

lost_then : (lost n p : ℕ) → lost + n ≡ p → lost ≡ p - n
lost_then lost n p is = omega arith

reads_if : (b : Bool) (ns : List News) (r : Reader) (q : Queue) → (r.next == length ns) ≡ b → Serves ns r q → ReadsIf b ns r q
reads_if true ns r q end s =
    let e : r.next ≡ length ns = grind (arith, nat_tests) in
    let none : q.kept.items ≡ [] = s.kept ∙ drop_all (first_kept r (length ns)) ns (omega (arith, all_read r.next r.capacity (length ns) (first_kept r (length ns)) e refl)) in
    record { note = ap (λ (xs : List News). option_map (note_with q.lost) (slice_get xs 0)) none; serves = s }
reads_if false ns r q end s =
    let m : ℕ = length ns in
    let p : ℕ = first_kept r m in
    let ne : r.next ≡ m → ⊥ = λ e. grind (arith, nat_tests) in
    let left : p < m = some_left r.next r.capacity m p s.reached ne s.room refl in
    record {
      note = ap (λ (xs : List News). option_map (note_with q.lost) (slice_get xs 0)) s.kept
          ∙ ap (option_map (note_with q.lost)) (first_of ns p left)
          ∙ ap (λ (k : ℕ). option_map (note_with k) (slice_get ns p)) (lost_then q.lost r.next p s.lost);
      serves = record {
        capacity = s.capacity;
        room = s.room;
        reached = omega arith;
        kept = ap (drop 1) s.kept ∙ drop-drop 1 p ns ∙ ap (λ (k : ℕ). drop k ns) (sym (kept_next r.next r.capacity m p refl));
        lost = omega (arith, kept_next r.next r.capacity m p refl);
      };
    }

-- a queue is empty exactly where all was read
empty_if : (b : Bool) (ns : List News) (r : Reader) (q : Queue) → (r.next == length ns) ≡ b → Serves ns r q → (length q.kept.items == 0) ≡ b
empty_if true ns r q end s =
    let e : r.next ≡ length ns = grind (arith, nat_tests) in
    let p : ℕ = first_kept r (length ns) in
    let none : length q.kept.items ≡ 0 = ap length s.kept ∙ length-drop p ns ∙ omega (arith, all_read r.next r.capacity (length ns) p e refl) in
    grind (arith, nat_tests)
empty_if false ns r q end s =
    let p : ℕ = first_kept r (length ns) in
    let ne : r.next ≡ length ns → ⊥ = λ e. grind (arith, nat_tests) in
    let some : 1 ≤ length q.kept.items = omega (arith, ap length s.kept ∙ length-drop p ns, some_left r.next r.capacity (length ns) p s.reached ne s.room refl) in
    grind (arith, nat_tests)

pub reads : (ns : List News) (r : Reader) (q : Queue) → Serves ns r q → Reads ns r q
reads ns r q s =
    let b : Bool = r.next == length ns in
    let all = reads_if b ns r q refl s in
    record {
      note = all.note;
      serves = subst (λ (c : Bool). Serves ns (read_on ns r) (taken_if c q)) (sym (empty_if b ns r q refl s)) all.serves;
    }

-- ---- a subscriber comes

pub new_serves : (ns : List News) (who capacity : ℕ) → 1 ≤ capacity → Serves ns (record { capacity = capacity; next = length ns }) (new_queue who capacity)
new_serves ns who capacity some = record {
  capacity = refl;
  room = some;
  reached = omega arith;
  kept = sym (drop_all (max (length ns) (length ns - capacity)) ns (omega arith));
  lost = omega arith;
}

-- ---- one queue after the other

pub put_more : (x : News) (all qs : List Queue) (i : ℕ) (q new : Queue) → i < length all → qs ≡ map (put_in x) (take i all) ++ drop i all → q ≡ get_or qs i q → new ≡ put_in x q
    → set qs i new ≡ map (put_in x) (take (i + 1) all) ++ drop (i + 1) all
put_more x all qs i q new within is at then =
    let front : List Queue = map (put_in x) (take i all) in
    let rest : List Queue = drop (i + 1) all in
    let d : Queue = get_or all i q in
    let many : length front ≡ i = length-map (take i all) (put_in x) ∙ length-take-le i all (omega arith) in
    let split : qs ≡ front ++ d ∷ rest = is ∙ ap (λ (r : List Queue). front ++ r) (drop_more all i q within) in
    let same : q ≡ d = at ∙ ap (λ (l : List Queue). get_or l i q) split ∙ get_or_at front d rest q i many in
    ap (λ (l : List Queue). set l i new) split ∙ set_at front d rest new i many
    ∙ ap (λ (y : Queue). front ++ y ∷ rest) (then ∙ ap (put_in x) same)
    ∙ sym (append_assoc front (put_in x d ∷ []) rest)
    ∙ ap (λ (l : List Queue). l ++ rest) (sym (ap (map (put_in x)) (take_more all i q within) ∙ map-append (put_in x) (take i all) (d ∷ [])))

-- ---- copies, from the last one on

abbrev AreAll : News → List News → Type 0
AreAll x xs = (k : ℕ) (d : News) → k < length xs → get_or xs k d ≡ x

pub last_copy : (x y : News) (xs all : List News) → all ≡ xs ++ y ∷ [] → AreAll x all → y ≡ x
last_copy x y xs all is same =
    sym (ap (λ (l : List News). get_or l (length xs) y) is ∙ get_or_at xs y [] y (length xs) refl) ∙ same (length xs) y (omega (arith, ap length is, length_push xs y))

pub other_copies : (x y : News) (xs all : List News) → all ≡ xs ++ y ∷ [] → AreAll x all → AreAll x xs
other_copies x y xs all is same k d within =
    sym (ap (λ (l : List News). get_or l k d) is ∙ get_or_append_left xs (y ∷ []) d k within) ∙ same k d (omega (arith, ap length is, length_push xs y))
