-- A count of events that goes on by one event.
use Rattle.std.proofs.Common.{◌≡◌, ℕ, ◌+◌, Bool, true, false, List, Some, take, ap, sym, ◌∙◌, count_by}
use Rattle.std.specs.Prelude.{slice_get}
use Rattle.std.proofs.lemmas.List.Sums.{count_by_more_yes, count_by_more_no}
use Rattle.std.proofs.lemmas.Option.{slice_get_within, get_or_from_slice_get}
use Rattle.run_rules.specs.declared.event.Event.{Event}

-- the event at the place counts
pub one_more : (p : Event → Bool) (h : List Event) (i n : ℕ) (e : Event) → slice_get h i ≡ Some e → p e ≡ true → n ≡ count_by p (take i h) → n + 1 ≡ count_by p (take (i + 1) h)
one_more p h i n e at counts so_far =
    ap (λ k. k + 1) so_far ∙ sym (count_by_more_yes p h i e (slice_get_within h i e at) (ap p (get_or_from_slice_get h i e e at) ∙ counts))

-- it does not
pub no_more : (p : Event → Bool) (h : List Event) (i n : ℕ) (e : Event) → slice_get h i ≡ Some e → p e ≡ false → n ≡ count_by p (take i h) → n ≡ count_by p (take (i + 1) h)
no_more p h i n e at other so_far =
    so_far ∙ sym (count_by_more_no p h i e (slice_get_within h i e at) (ap p (get_or_from_slice_get h i e e at) ∙ other))
