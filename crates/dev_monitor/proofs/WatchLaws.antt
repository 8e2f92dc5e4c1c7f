-- What calls mean for all subscribers.
use Rattle.std.proofs.Common.{◌≡◌, ◌≤◌, ◌<◌, ◌^◌, ℕ, ◌+◌, ◌-◌, ◌==◌, Bool, true, false, cond, List, [], ◌∷◌, ◌++◌, length, map, drop, set, arith, refl, sym, ap, ◌∙◌, subst, Option, Some, None, Result, Ok, Err, OnErr, Global, bytes_eq}
use Rattle.std.specs.Prelude.{get_or, is_some, option_map, option_and_then, position, slice_get, nat_lt}
use Rattle.std.specs.HashMap.{HashMap}
use Rattle.std.specs.Map.{lookup}
use Rattle.std.specs.declared.vec.Vec.{Vec}
use Rattle.std.specs.List.{position_or_len}
use Rattle.std.specs.Option.{option_or}
use Rattle.std.proofs.lemmas.Bool.Decides.{nat_tests}
use Rattle.std.proofs.lemmas.List.Folds.{find-append, find-set, find_at, find_past}
use Rattle.std.proofs.lemmas.List.Sums.{passes_at_first}
use Rattle.std.proofs.lemmas.List.{length_push}
use Rattle.std.proofs.lemmas.Option.{cond_some, slice_get-get_or, slice_get_past}
use Rattle.config_rules.specs.Form.{given}
use Rattle.run_rules.specs.declared.event.Event.{Event}
use Rattle.history_laws.specs.Always.{FreesLiving}
use Rattle.dev_monitor.specs.declared.monitor.Monitor.{Monitor}
use Rattle.dev_monitor.specs.declared.news.News.{News}
use Rattle.dev_monitor.specs.declared.note.Note.{Note}
use Rattle.dev_monitor.specs.declared.queue.Queue.{Queue}
use Rattle.dev_monitor.specs.Notes.{news_at, notes}
use Rattle.circular_buffer.specs.Buffer.{buffer}
use Rattle.run_rules.specs.Laws.{lives}
use Rattle.dev_monitor.specs.Parents.{AreParents, KeepsParents, NotesParent, living_parent, news_by}
use Rattle.dev_monitor.specs.Queues.{IsOf, Keeps, Serves, ServesIf, TellsIf, new_queue, put_in, queue_of, taken_from}
use Rattle.dev_monitor.specs.Subscribers.{Reader, Watched, after_read, note_with, read_by, read_of, read_on, unwatched, with_events, with_reader}
use Rattle.dev_monitor.proofs.NoteLaws.{few_notes, quiet, told}
use Rattle.dev_monitor.proofs.ParentLaws.{kept_parents, noted_parents, told_by}
use Rattle.dev_monitor.proofs.QueueLaws.{new_serves, put_serves, reads}

-- ---- an event is taken in

found_then : (x : News) (k : ℕ) (q : Queue) (qs : List Queue) (b : Bool) → queue_of k (map (put_in x) qs) ≡ option_map (put_in x) (queue_of k qs)
    → cond b (Some (put_in x q)) (queue_of k (map (put_in x) qs)) ≡ option_map (put_in x) (cond b (Some q) (queue_of k qs))
found_then x k q qs true rest = refl
found_then x k q qs false rest = rest

queue_then : (x : News) (k : ℕ) (qs : List Queue) → queue_of k (map (put_in x) qs) ≡ option_map (put_in x) (queue_of k qs)
queue_then x k [] = refl
queue_then x k (q ∷ qs) = found_then x k q qs (q.who == k) (queue_then x k qs)

put_if : (ns : List News) (x : News) (r : Option Reader) (q : Option Queue) → length ns + 1 ≤ 2 ^ 64 - 1 → ServesIf ns r q → ServesIf (ns ++ x ∷ []) r (option_map (put_in x) q)
put_if ns x None None few s = tt
put_if ns x (Some r) (Some q) few s = put_serves ns x r q few s
put_if ns x None (Some q) few s = absurd s
put_if ns x (Some r) None few s = absurd s

taken_by : (w : Watched) (e : Event) (old new : Monitor) (n : Option News) → IsOf w old → news_at w.events e ≡ n → news_by old.parents e.act ≡ n → new.taken ≡ old.taken + 1 → new.taken ≤ 2 ^ 64 - 1 → TellsIf n old new
    → IsOf (with_events w (e ∷ [])) new
taken_by w e old new None of at by many few kept = record {
  taken = many ∙ ap (λ (n : ℕ). n + 1) of.taken ∙ sym (length_push w.events e);
  parents = kept_parents w.events e old.parents new.parents of.parents by kept.parents;
  serves = λ k.
      subst (λ (ns : List News). ServesIf ns (w.reader k) (queue_of k new.queues.items)) (sym (quiet w.events e at))
      (subst (λ (qs : List Queue). ServesIf (notes w.events) (w.reader k) (queue_of k qs)) (sym kept.queues) (of.serves k));
}
taken_by w e old new (Some x) of at by many few tells = record {
  taken = many ∙ ap (λ (n : ℕ). n + 1) of.taken ∙ sym (length_push w.events e);
  parents = noted_parents w.events e old.parents new.parents x of.parents by tells.parents;
  serves = λ k.
      let room : length (notes w.events) + 1 ≤ 2 ^ 64 - 1 = omega (arith, few_notes w.events, of.taken) in
      subst (λ (ns : List News). ServesIf ns (w.reader k) (queue_of k new.queues.items)) (sym (told w.events e x at))
      (subst (λ (q : Option Queue). ServesIf (notes w.events ++ x ∷ []) (w.reader k) q) (sym (ap (queue_of k) tells.queues ∙ queue_then x k old.queues.items))
      (put_if (notes w.events) x (w.reader k) (queue_of k old.queues.items) room (of.serves k)));
}

told_too : (n : Option News) (old told new : Monitor) → new.parents ≡ told.parents → new.queues ≡ told.queues → TellsIf n old told → TellsIf n old new
told_too None old told new parents queues t = record {
  parents = subst (KeepsParents old.parents) (sym parents) t.parents;
  queues = ap (λ (v : Vec Queue Global). v.items) queues ∙ t.queues;
}
told_too (Some x) old told new parents queues t = record {
  parents = subst (NotesParent x old.parents) (sym parents) t.parents;
  queues = ap (λ (v : Vec Queue Global). v.items) queues ∙ t.queues;
}

pub takes_event : (w : Watched) (e : Event) (old told new : Monitor) → IsOf w old → FreesLiving w.events e → new.taken ≡ old.taken + 1 → new.taken ≤ 2 ^ 64 - 1 → new.parents ≡ told.parents → new.queues ≡ told.queues
    → TellsIf (news_by old.parents e.act) old told → IsOf (with_events w (e ∷ [])) new
takes_event w e old told new of living many few parents queues tells =
    taken_by w e old new (news_by old.parents e.act) of (sym (told_by w.events e old.parents of.parents living)) refl many few (told_too (news_by old.parents e.act) old told new parents queues tells)

-- nothing was taken in
pub stays : (w : Watched) (old new : Monitor) → IsOf w old → new.taken ≡ old.taken → Keeps old new → IsOf w new
stays w old new of many kept = record {
  taken = many ∙ of.taken;
  parents = λ x. kept.parents x ∙ of.parents x;
  serves = λ k. subst (λ (qs : List Queue). ServesIf (notes w.events) (w.reader k) (queue_of k qs)) (sym kept.queues) (of.serves k);
}

-- ---- a subscriber comes

-- one that is there goes on
there_still : (ns : List News) (r : Option Reader) (q : Option Queue) (more : Option Reader) → ServesIf ns r q → (is : Queue) → q ≡ Some is → ServesIf ns (option_or r more) q
there_still ns (Some r) (Some q) more s is e = s
there_still ns None (Some q) more s is e = absurd s
there_still ns (Some r) None more s is e = absurd s
there_still ns None None more s is e = absurd cc

-- one that is not there is appended
come_if : (b : Bool) (ns : List News) (r : Option Reader) (q : Option Queue) (reader : Reader) (queue : Queue) → ServesIf ns r q → Serves ns reader queue → ServesIf ns (option_or r (given b reader)) (option_or q (cond b (Some queue) None))
come_if b ns (Some r) (Some q) reader queue s new = s
come_if b ns None (Some q) reader queue s new = absurd s
come_if b ns (Some r) None reader queue s new = absurd s
come_if true ns None None reader queue s new = new
come_if false ns None None reader queue s new = tt

-- what a search for a subscriber's queue found
record Found (who : ℕ) (qs : List Queue) (i : ℕ) : Type 0 where
  pub within : i < length qs
  pub first : i ≡ position_or_len (λ q. q.who == who) qs

found : (who : ℕ) (qs : List Queue) (i : ℕ) → position (λ q. q.who == who) qs ≡ Some i → Found who qs i
found who qs i is =
    let at = cond_some (nat_lt (position_or_len (λ q. q.who == who) qs) (length qs)) (position_or_len (λ q. q.who == who) qs) i is in
    let within : position_or_len (λ (q : Queue). q.who == who) qs < length qs = grind (arith, nat_tests, at.0) in
    record { within = omega (arith, at.1); first = sym at.1 }

the_queue : (who : ℕ) (qs : List Queue) (i : ℕ) (d : Queue) → Found who qs i → queue_of who qs ≡ Some (get_or qs i d)
the_queue who qs i d at = find_at (λ q. q.who == who) qs ∙ ap (slice_get qs) (sym at.first) ∙ slice_get-get_or qs i d at.within

its_owner : (who : ℕ) (qs : List Queue) (i : ℕ) (d : Queue) → Found who qs i → ((get_or qs i d).who == who) ≡ true
its_owner who qs i d at =
    subst (λ (n : ℕ). ((get_or qs n d).who == who) ≡ true) (sym at.first)
    (passes_at_first (λ q. q.who == who) qs d (subst (λ (n : ℕ). n < length qs) at.first at.within))

same_number : (a b : ℕ) → (a == b) ≡ true → a ≡ b
same_number a b h = grind (arith, nat_tests)

none_more : (r : Option Reader) → option_or r None ≡ r
none_more None = refl
none_more (Some r) = refl

subscribed_if : (b : Bool) (w : Watched) (m : Monitor) (who capacity i k : ℕ) (d : Queue) → IsOf w m → Found who m.queues.items i → (who == k) ≡ b
    → ServesIf (notes w.events) (option_or (w.reader k) (given b (record { capacity = capacity; next = length (notes w.events) }))) (queue_of k m.queues.items)
subscribed_if true w m who capacity i k d of at is =
    there_still (notes w.events) (w.reader k) (queue_of k m.queues.items) (Some (record { capacity = capacity; next = length (notes w.events) })) (of.serves k)
    (get_or m.queues.items i d) (ap (λ (n : ℕ). queue_of n m.queues.items) (sym (same_number who k is)) ∙ the_queue who m.queues.items i d at)
subscribed_if false w m who capacity i k d of at is =
    subst (λ (r : Option Reader). ServesIf (notes w.events) r (queue_of k m.queues.items)) (sym (none_more (w.reader k))) (of.serves k)

-- who subscribed before goes on
pub subscribed_before : (w : Watched) (m : Monitor) (who capacity i : ℕ) → position (λ q. q.who == who) m.queues.items ≡ Some i → IsOf w m → IsOf (with_reader w who capacity) m
subscribed_before w m who capacity i is of = record {
  taken = of.taken;
  parents = of.parents;
  serves = λ k. subscribed_if (who == k) w m who capacity i k (new_queue who capacity) of (found who m.queues.items i is) refl;
}

-- a new subscriber's queue was appended
pub subscribes : (w : Watched) (old new : Monitor) (who capacity : ℕ) → 1 ≤ capacity → new.taken ≡ old.taken → new.parents ≡ old.parents → new.queues.items ≡ old.queues.items ++ new_queue who capacity ∷ [] → IsOf w old
    → IsOf (with_reader w who capacity) new
subscribes w old new who capacity some many same more of = record {
  taken = many ∙ of.taken;
  parents = subst (AreParents w.events) (sym same) of.parents;
  serves = λ k.
      subst (λ (q : Option Queue). ServesIf (notes w.events) (option_or (w.reader k) (given (who == k) (record { capacity = capacity; next = length (notes w.events) }))) q)
      (sym (ap (queue_of k) more ∙ find-append (λ q. q.who == k) old.queues.items (new_queue who capacity ∷ [])))
      (come_if (who == k) (notes w.events) (w.reader k) (queue_of k old.queues.items) (record { capacity = capacity; next = length (notes w.events) }) (new_queue who capacity) (of.serves k)
      (new_serves (notes w.events) who capacity some));
}

-- ---- a subscriber reads

-- what it reads, and what is left
pub record ReadsNext (w : Watched) (who : ℕ) (read : Option Note) (new : Monitor) : Type 0 where
  pub note : read ≡ read_by w who
  pub left : IsOf (after_read w who) new

note_if : (ns : List News) (r : Option Reader) (q : Queue) → ServesIf ns r (Some q) → option_map (note_with q.lost) (slice_get q.kept.items 0) ≡ option_and_then (read_of ns) r
note_if ns None q s = absurd s
note_if ns (Some r) q s = (reads ns r q s).note

left_if : (ns : List News) (r : Option Reader) (q : Queue) → ServesIf ns r (Some q) → ServesIf ns (option_map (read_on ns) r) (Some (taken_from q))
left_if ns None q s = absurd s
left_if ns (Some r) q s = (reads ns r q s).serves

taken_owner : (b : Bool) (q : Queue) → (cond b q (record q { lost = 0; kept = buffer (drop 1 q.kept.items) q.kept.capacity })).who ≡ q.who
taken_owner true q = refl
taken_owner false q = refl

served_if : (b : Bool) (w : Watched) (m : Monitor) (who i k : ℕ) (q : Queue) → IsOf w m → Found who m.queues.items i → get_or m.queues.items i q ≡ q → (taken_from q).who ≡ q.who → (who == k) ≡ b
    → ServesIf (notes w.events) (cond b (option_map (read_on (notes w.events)) (w.reader k)) (w.reader k)) (queue_of k (set m.queues.items i (taken_from q)))
served_if true w m who i k q of at is owner e =
    let same : who ≡ k = same_number who k e in
    let owned : (q.who == who) ≡ true = subst (λ (x : Queue). (x.who == who) ≡ true) is (its_owner who m.queues.items i q at) in
    let put : queue_of who (set m.queues.items i (taken_from q)) ≡ Some (taken_from q) =
    find-set (λ q. q.who == who) m.queues.items i (taken_from q) at.first at.within (ap (λ (n : ℕ). n == who) owner ∙ owned) in
    let had : queue_of who m.queues.items ≡ Some q = the_queue who m.queues.items i q at ∙ ap (λ (x : Queue). Some x) is in
    subst (λ (n : ℕ). ServesIf (notes w.events) (option_map (read_on (notes w.events)) (w.reader n)) (queue_of n (set m.queues.items i (taken_from q)))) same
    (subst (λ (x : Option Queue). ServesIf (notes w.events) (option_map (read_on (notes w.events)) (w.reader who)) x) (sym put)
    (left_if (notes w.events) (w.reader who) q (subst (λ (x : Option Queue). ServesIf (notes w.events) (w.reader who) x) had (of.serves who))))
served_if false w m who i k q of at is owner e =
    let owned : q.who ≡ who = same_number q.who who (subst (λ (x : Queue). (x.who == who) ≡ true) is (its_owner who m.queues.items i q at)) in
    let other : (q.who == k) ≡ false = ap (λ (n : ℕ). n == k) owned ∙ e in
    let past : queue_of k (set m.queues.items i (taken_from q)) ≡ queue_of k m.queues.items =
    find_past (λ x. x.who == k) m.queues.items i (taken_from q) q (ap (λ (x : Queue). x.who == k) is ∙ other) (ap (λ (n : ℕ). n == k) owner ∙ other) in
    subst (λ (x : Option Queue). ServesIf (notes w.events) (w.reader k) x) (sym past) (of.serves k)

pub read_one : (w : Watched) (old new : Monitor) (who i : ℕ) (q : Queue) (note : Option Note) → IsOf w old → position (λ q. q.who == who) old.queues.items ≡ Some i → get_or old.queues.items i q ≡ q
    → new.taken ≡ old.taken → new.parents ≡ old.parents → new.queues.items ≡ set old.queues.items i (taken_from q) → note ≡ option_map (note_with q.lost) (slice_get q.kept.items 0) → ReadsNext w who note new
read_one w old new who i q note of is it many same then gives =
    let at = found who old.queues.items i is in
    let had : queue_of who old.queues.items ≡ Some q = the_queue who old.queues.items i q at ∙ ap (λ (x : Queue). Some x) it in
    record {
      note = gives ∙ note_if (notes w.events) (w.reader who) q (subst (λ (x : Option Queue). ServesIf (notes w.events) (w.reader who) x) had (of.serves who));
      left = record {
        taken = many ∙ of.taken;
        parents = subst (AreParents w.events) (sym same) of.parents;
        serves = λ k.
            subst (λ (qs : List Queue). ServesIf (notes w.events) ((after_read w who).reader k) (queue_of k qs)) (sym then)
            (served_if (who == k) w old who i k q of at it (taken_owner (length q.kept.items == 0) q) refl);
      };
    }

-- nobody of this number subscribed
unserved : (who : ℕ) (qs : List Queue) → position (λ q. q.who == who) qs ≡ None → queue_of who qs ≡ None
unserved who qs is =
    let past : length qs ≤ position_or_len (λ (q : Queue). q.who == who) qs = not_within (nat_lt (position_or_len (λ q. q.who == who) qs) (length qs)) refl is in
    find_at (λ q. q.who == who) qs ∙ slice_get_past qs (position_or_len (λ q. q.who == who) qs) past
  where
    not_within : (b : Bool) → nat_lt (position_or_len (λ (q : Queue). q.who == who) qs) (length qs) ≡ b → cond b (Some (position_or_len (λ (q : Queue). q.who == who) qs)) None ≡ None
        → length qs ≤ position_or_len (λ (q : Queue). q.who == who) qs
    not_within true e h = absurd (cc)
    not_within false e h = grind (arith, nat_tests)

no_reader : (ns : List News) (r : Option Reader) (q : Option Queue) → ServesIf ns r q → q ≡ None → r ≡ None
no_reader ns None q s e = refl
no_reader ns (Some r) None s e = absurd s
no_reader ns (Some r) (Some q) s e = absurd (cc)

same_if : (b : Bool) (f : Reader → Reader) (r : Option Reader) → r ≡ None → cond b (option_map f r) r ≡ r
same_if true f None e = refl
same_if true f (Some r) e = absurd (cc)
same_if false f r e = refl

unread_if : (b : Bool) (w : Watched) (m : Monitor) (who k : ℕ) → IsOf w m → w.reader who ≡ None → (who == k) ≡ b → cond b (option_map (read_on (notes w.events)) (w.reader k)) (w.reader k) ≡ w.reader k
unread_if true w m who k of none e = same_if true (read_on (notes w.events)) (w.reader k) (ap w.reader (sym (same_number who k e)) ∙ none)
unread_if false w m who k of none e = refl

pub read_none : (w : Watched) (m : Monitor) (who : ℕ) → IsOf w m → position (λ q. q.who == who) m.queues.items ≡ None → ReadsNext w who None m
read_none w m who of is =
    let none = no_reader (notes w.events) (w.reader who) (queue_of who m.queues.items) (of.serves who) (unserved who m.queues.items is) in
    record {
      note = sym (ap (option_and_then (read_of (notes w.events))) none);
      left = record {
        taken = of.taken;
        parents = of.parents;
        serves = λ k. subst (λ (r : Option Reader). ServesIf (notes w.events) r (queue_of k m.queues.items)) (sym (unread_if (who == k) w m who k of none refl)) (of.serves k);
      };
    }

-- ---- the beginning

nobody_lives : (x : List ℕ) → living_parent [] x ≡ None
unfolding lives
nobody_lives x = refl

no_notes : notes [] ≡ []
unfolding notes
no_notes = refl

module _ {S : Type 0} where
  pub no_parents : (parents : HashMap (List ℕ) (List ℕ) S) → parents.entries ≡ [] → AreParents [] parents
  no_parents parents none x = ap (λ (es : List (List ℕ × List ℕ)). lookup (bytes_eq x) es) none ∙ sym (nobody_lives x)

pub nothing_yet : (m : Monitor) → m.taken ≡ 0 → m.parents.entries ≡ [] → m.queues.items ≡ [] → IsOf unwatched m
nothing_yet m none parents queues = record {
  taken = none;
  parents = no_parents m.parents parents;
  serves = λ k. subst (λ (qs : List Queue). ServesIf (notes []) None (queue_of k qs)) (sym queues) tt;
}

-- ---- as the code has it

pub on_err : {A E : Type 0} (P : Type 0) (r : Result A E) → P → OnErr r P
on_err P (Ok x) p = tt
on_err P (Err e) p = p

pub subscribed_there : (w : Watched) (m : Monitor) (who capacity : ℕ) (place : Option ℕ) → place ≡ position (λ q. q.who == who) m.queues.items → is_some place ≡ true → IsOf w m → IsOf (with_reader w who capacity) m
subscribed_there w m who capacity (Some i) is some of = subscribed_before w m who capacity i (sym is) of
subscribed_there w m who capacity None is some of = absurd (cc)
