-- What one event more adds to the notes.
use Rattle.std.proofs.Common.{◌≡◌, ◌≤◌, ℕ, ◌+◌, List, [], ◌∷◌, ◌++◌, length, take, append_assoc, arith, refl, sym, ap, ◌∙◌, Option, Some, None}
use Rattle.std.specs.Prelude.{filter_map, option_to_list}
use Rattle.std.specs.List.{cons_option, enumerate_from}
use Rattle.std.proofs.lemmas.List.{append-nil, length_push, take_at}
use Rattle.run_rules.specs.declared.event.Event.{Event}
use Rattle.dev_monitor.specs.declared.news.News.{News}
use Rattle.dev_monitor.specs.Notes.{news_at, notes}

-- the notes of events behind others
abbrev pub notes_from : List Event → List Event → List News
notes_from before [] = []
notes_from before (e ∷ es) = cons_option (news_at before e) (notes_from (before ++ e ∷ []) es)

abbrev numbered : List Event → ℕ → List Event → List News
numbered all n es = filter_map (λ at. news_at (take at.0 all) at.1) (enumerate_from n es)

from_is : (before es : List Event) → numbered (before ++ es) (length before) es ≡ notes_from before es
from_is before [] = refl
from_is before (e ∷ es) =
    ap (λ (g : List Event). cons_option (news_at g e) (numbered (before ++ e ∷ es) (length before + 1) es)) (take_at before (e ∷ es) (length before) refl)
    ∙ ap (λ (g : List Event). cons_option (news_at before e) (numbered g (length before + 1) es)) (sym (append_assoc before (e ∷ []) es))
    ∙ ap (λ (n : ℕ). cons_option (news_at before e) (numbered ((before ++ e ∷ []) ++ es) n es)) (sym (length_push before e))
    ∙ ap (cons_option (news_at before e)) (from_is (before ++ e ∷ []) es)

notes_are : (h : List Event) → notes h ≡ notes_from [] h
unfolding notes
notes_are h = from_is [] h

cons_front : (o : Option News) (xs ys : List News) → cons_option o (xs ++ ys) ≡ cons_option o xs ++ ys
cons_front None xs ys = refl
cons_front (Some x) xs ys = refl

from_append : (before es more : List Event) → notes_from before (es ++ more) ≡ notes_from before es ++ notes_from (before ++ es) more
from_append before [] more = ap (λ (g : List Event). notes_from g more) (sym (append-nil before))
from_append before (e ∷ es) more =
    ap (cons_option (news_at before e)) (from_append (before ++ e ∷ []) es more)
    ∙ ap (λ (g : List Event). cons_option (news_at before e) (notes_from (before ++ e ∷ []) es ++ notes_from g more)) (append_assoc before (e ∷ []) es)
    ∙ cons_front (news_at before e) (notes_from (before ++ e ∷ []) es) (notes_from (before ++ e ∷ es) more)

-- more events add notes behind those that there are
pub notes_more : (h es : List Event) → notes (h ++ es) ≡ notes h ++ notes_from h es
notes_more h es = notes_are (h ++ es) ∙ from_append [] h es ∙ ap (λ (ns : List News). ns ++ notes_from h es) (sym (notes_are h))

one_note : (o : Option News) → cons_option o [] ≡ option_to_list o
one_note None = refl
one_note (Some x) = refl

pub notes_on : (h : List Event) (e : Event) → notes (h ++ e ∷ []) ≡ notes h ++ option_to_list (news_at h e)
notes_on h e = notes_more h (e ∷ []) ∙ ap (λ (ns : List News). notes h ++ ns) (one_note (news_at h e))

pub quiet : (h : List Event) (e : Event) → news_at h e ≡ None → notes (h ++ e ∷ []) ≡ notes h
quiet h e none = notes_on h e ∙ ap (λ (o : Option News). notes h ++ option_to_list o) none ∙ append-nil (notes h)

pub told : (h : List Event) (e : Event) (x : News) → news_at h e ≡ Some x → notes (h ++ e ∷ []) ≡ notes h ++ x ∷ []
told h e x some = notes_on h e ∙ ap (λ (o : Option News). notes h ++ option_to_list o) some

-- there are no more notes than events
one_more : (o : Option News) (xs : List News) (e : Event) (es : List Event) → length xs ≤ length es → length (cons_option o xs) ≤ length (e ∷ es)
one_more None xs e es few = omega arith
one_more (Some x) xs e es few = omega arith

from_few : (before es : List Event) → length (notes_from before es) ≤ length es
from_few before [] = omega arith
from_few before (e ∷ es) = one_more (news_at before e) (notes_from (before ++ e ∷ []) es) e es (from_few (before ++ e ∷ []) es)

pub few_notes : (h : List Event) → length (notes h) ≤ length h
few_notes h = let few = from_few [] h in omega (arith, ap (λ (ns : List News). length ns) (notes_are h))
