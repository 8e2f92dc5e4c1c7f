-- What a subscriber reads by any list of calls.
use Rattle.std.proofs.Common.{◌≡◌, ◌≤◌, ◌<◌, ℕ, zero, suc, ◌+◌, ◌-◌, ◌==◌, Bool, true, false, cond, List, [], ◌∷◌, ◌++◌, length, length-append, append_assoc, arith, refl, sym, ap, ◌∙◌, subst, Option, Some, None, max}
use Rattle.std.specs.Prelude.{option_map, option_and_then, option_to_list, slice_get}
use Rattle.std.specs.Option.{option_or}
use Rattle.std.proofs.lemmas.Bool.Decides.{nat_tests}
use Rattle.std.proofs.lemmas.List.{append-nil}
use Rattle.run_rules.specs.declared.event.Event.{Event}
use Rattle.dev_monitor.specs.declared.news.News.{News}
use Rattle.dev_monitor.specs.declared.note.Note.{Note}
use Rattle.dev_monitor.specs.Calls.{Call, Follows, HasReader, events_after, notes_for, reads, subscribes, takes}
use Rattle.dev_monitor.specs.Notes.{notes}
use Rattle.dev_monitor.specs.Subscribers.{Reader, Watched, after_read, first_kept, note_with, read_of, read_on, with_events, with_reader}
use Rattle.dev_monitor.proofs.NoteLaws.{notes_from, notes_more}
use Rattle.dev_monitor.proofs.QueueLaws.{some_left}

-- ---- what was taken in stays

record Longer (h g : List Event) : Type 0 where
  pub more : List Event
  pub is : g ≡ h ++ more

longer : (w : Watched) (calls : List Call) → Longer w.events (events_after w calls)
longer w [] = record { more = []; is = sym (append-nil w.events) }
longer w (takes h ∷ calls) = let rest = longer (with_events w h) calls in record { more = h ++ rest.more; is = rest.is ∙ append_assoc w.events h rest.more }
longer w (subscribes who capacity ∷ calls) = let rest = longer (with_reader w who capacity) calls in record { more = rest.more; is = rest.is }
longer w (reads who ∷ calls) = let rest = longer (after_read w who) calls in record { more = rest.more; is = rest.is }

get_front : (xs ys : List News) (p : ℕ) (x : News) → slice_get xs p ≡ Some x → slice_get (xs ++ ys) p ≡ Some x
get_front [] ys p x is = absurd (cc)
get_front (y ∷ xs) ys zero x is = is
get_front (y ∷ xs) ys (suc p) x is = get_front xs ys p x is

still_there : (w : Watched) (calls : List Call) (p : ℕ) (x : News) → slice_get (notes w.events) p ≡ Some x → slice_get (notes (events_after w calls)) p ≡ Some x
still_there w calls p x is =
    let rest = longer w calls in
    ap (λ (h : List Event). slice_get (notes h) p) rest.is ∙ ap (λ (ns : List News). slice_get ns p) (notes_more w.events rest.more)
    ∙ get_front (notes w.events) (notes_from w.events rest.more) p x is

-- ---- a read

-- what a reader reads next, if anything, and where it is then
record OneRead (ns : List News) (r : Reader) (note : Option Note) (then : Reader) : Type 0 where
  pub room : 1 ≤ then.capacity
  pub reached : then.next ≤ length ns
  -- the notes that follow, follow behind this one
  pub on : (all : List News) (xs : List Note) → ((p : ℕ) (x : News) → slice_get ns p ≡ Some x → slice_get all p ≡ Some x) → Follows all then.next xs → Follows all r.next (option_to_list note ++ xs)

place_of_kept : (n c m : ℕ) → n + (max n (m - c) - n) ≡ max n (m - c)
place_of_kept n c m = omega arith

there : (ns : List News) (p : ℕ) → p < length ns → (x : News) × (slice_get ns p ≡ Some x)
there [] p within = absurd (omega arith)
there (x ∷ ns) zero within = (x, refl)
there (x ∷ ns) (suc p) within = there ns p (omega arith)

one_read_if : (b : Bool) (ns : List News) (r : Reader) → (r.next == length ns) ≡ b → 1 ≤ r.capacity → r.next ≤ length ns
    → OneRead ns r (cond b None (option_map (note_with (first_kept r (length ns) - r.next)) (slice_get ns (first_kept r (length ns))))) (cond b r (record r { next = first_kept r (length ns) + 1 }))
one_read_if true ns r end room reached = record { room = room; reached = reached; on = λ all xs same rest. rest }
one_read_if false ns r end room reached =
    let p : ℕ = first_kept r (length ns) in
    let ne : r.next ≡ length ns → ⊥ = λ e. grind (arith, nat_tests) in
    let left : p < length ns = some_left r.next r.capacity (length ns) p reached ne room refl in
    let at = there ns p left in
    record {
      room = room;
      reached = omega arith;
      on = λ all xs same rest.
          let place : r.next + (p - r.next) ≡ p = place_of_kept r.next r.capacity (length ns) in
          subst (λ (o : Option News). Follows all r.next (option_to_list (option_map (note_with (p - r.next)) o) ++ xs)) (sym at.1)
          (ap (slice_get all) place ∙ same p at.0 at.1, subst (λ (n : ℕ). Follows all (n + 1) xs) (sym place) rest);
    }

one_read : (ns : List News) (r : Reader) → 1 ≤ r.capacity → r.next ≤ length ns → OneRead ns r (read_of ns r) (read_on ns r)
one_read ns r room reached = one_read_if (r.next == length ns) ns r refl room reached

-- ---- all calls

abbrev NoteIf : Bool → Watched → ℕ → Option Note
NoteIf b w k = cond b (option_and_then (read_of (notes w.events)) (w.reader k)) None

same_number : (a b : ℕ) → (a == b) ≡ true → a ≡ b
same_number a b h = grind (arith, nat_tests)

more_notes : (h es : List Event) → length (notes h) ≤ length (notes (h ++ es))
more_notes h es = omega (arith, ap (λ (ns : List News). length ns) (notes_more h es), length-append (notes h) (notes_from h es))

by_reader : (who k : ℕ) (b : Bool) (w : Watched) (r : Reader) (calls : List Call) → (who == k) ≡ b → HasReader w k r
    → ((v : Reader) → HasReader (after_read w who) k v → Follows (notes (events_after (after_read w who) calls)) v.next (notes_for k (after_read w who) calls))
    → Follows (notes (events_after (after_read w who) calls)) r.next (option_to_list (NoteIf b w k) ++ notes_for k (after_read w who) calls)
by_reader who k true w r calls is has rest =
    let ns : List News = notes w.events in
    let one = one_read ns r has.room has.reached in
    let moved : (after_read w who).reader k ≡ Some (read_on ns r) = ap (λ (b : Bool). cond b (option_map (read_on ns) (w.reader k)) (w.reader k)) is ∙ ap (option_map (read_on ns)) has.reader in
    subst (λ (o : Option Reader). Follows (notes (events_after (after_read w who) calls)) r.next (option_to_list (option_and_then (read_of ns) o) ++ notes_for k (after_read w who) calls)) (sym has.reader)
    (one.on (notes (events_after (after_read w who) calls)) (notes_for k (after_read w who) calls) (λ p x at. still_there (after_read w who) calls p x at)
    (rest (read_on ns r) (record { reader = moved; room = one.room; reached = one.reached })))
by_reader who k false w r calls is has rest =
    let kept : (after_read w who).reader k ≡ Some r = ap (λ (b : Bool). cond b (option_map (read_on (notes w.events)) (w.reader k)) (w.reader k)) is ∙ has.reader in
    rest r (record { reader = kept; room = has.room; reached = has.reached })

pub in_order : (k : ℕ) (w : Watched) (r : Reader) (calls : List Call) → HasReader w k r → Follows (notes (events_after w calls)) r.next (notes_for k w calls)
in_order k w r [] has = tt
in_order k w r (takes h ∷ calls) has =
    in_order k (with_events w h) r calls (record { reader = has.reader; room = has.room; reached = omega (arith, has.reached, more_notes w.events h) })
in_order k w r (subscribes who capacity ∷ calls) has =
    in_order k (with_reader w who capacity) r calls (record { reader = stays_there (w.reader k) _ has.reader; room = has.room; reached = has.reached })
  where
    stays_there : (o more : Option Reader) → o ≡ Some r → option_or o more ≡ Some r
    stays_there (Some s) more is = is
    stays_there None more is = absurd (cc)
in_order k w r (reads who ∷ calls) has =
    by_reader who k (who == k) w r calls refl has (λ v now. in_order k (after_read w who) v calls now)
