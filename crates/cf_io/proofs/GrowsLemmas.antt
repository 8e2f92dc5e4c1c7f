-- What a sink took in several steps, and what its stream then has.
use Rattle.std.proofs.Common.{◌≡◌, ◌≢◌, ℕ, Option, Some, None, List, [], ◌∷◌, ◌++◌, take, drop, refl, ap, sym, ◌∙◌, subst, append_assoc, append-nil, inl, inr}
use Rattle.std.proofs.lemmas.List.{take-append-drop}
use Rattle.cf_io.specs.declared.files.Load.{Load}
use Rattle.cf_io.specs.declared.files.Load.TheVariants as load
use Rattle.cf_io.specs.declared.sink.Put.{Put}
use Rattle.cf_io.specs.declared.sink.Put.TheVariants.{All, Failed}
use Rattle.cf_io.specs.declared.sink.Flush.{Flush}
use Rattle.cf_io.specs.declared.sink.Flush.TheVariants as flush
use Rattle.cf_io.specs.Faults.{Rises}
use Rattle.cf_io.specs.Load.{asks_for}
use Rattle.cf_io.specs.Put.{Flushes, Puts}
use Rattle.cf_io.specs.Told.{Told, Delivers, Grows, Takes, TakesFront, appended}

appended-append : (o : Option (List ℕ)) (xs ys : List ℕ) → appended (appended o xs) ys ≡ appended o (xs ++ ys)
appended-append None xs ys = refl
appended-append (Some bytes) xs ys = ap Some (append_assoc bytes xs ys)

appended-nil : (o : Option (List ℕ)) → o ≡ appended o []
appended-nil None = refl
appended-nil (Some bytes) = ap Some (sym (append-nil bytes))

-- nothing was taken
pub grows_nothing : (t : Told) → Grows [] t t
grows_nothing t = record { sent = []; moved = append-nil t.held; grew = appended-nil t.stream }

-- one step and then another
pub grows_then : (a b : List ℕ) (old mid new : Told) → Grows a old mid → Grows b mid new → Grows (a ++ b) old new
grows_then a b old mid new first second = record {
  sent = first.sent ++ second.sent;
  moved = sym (append_assoc old.held a b)
      ∙ ap (λ x. x ++ b) first.moved
      ∙ append_assoc first.sent mid.held b
      ∙ ap (λ x. first.sent ++ x) second.moved
      ∙ sym (append_assoc first.sent second.sent new.held);
  grew = second.grew ∙ ap (λ o. appended o second.sent) first.grew ∙ appended-append old.stream first.sent second.sent;
}

-- a sink that holds nothing, and does not tell what its stream has
pub grows_untold : (more : List ℕ) (old new : ℕ) → Grows more (record { stream = None; held = []; faults = old }) (record { stream = None; held = []; faults = new })
grows_untold more old new = record { sent = more; moved = sym (append-nil more); grew = refl }

-- what was held went on, and then a piece was put
pub puts_after : (piece : List ℕ) (p : Put) (old mid new : Told) → Grows [] old mid → mid.faults ≡ old.faults → Puts piece p mid new → Puts piece p old new
puts_after piece All old mid new first same second = (grows_then [] piece old mid new first second.0, second.1 ∙ same)
puts_after piece (Failed n) old mid new first same second =
    (second.0, grows_then [] (take n piece) old mid new first second.1, subst (λ (k : ℕ). Rises k new.faults) same second.2)

-- what was held went on, and then the rest of it
pub flushes_after : (f : Flush) (old mid new : Told) → Grows [] old mid → mid.faults ≡ old.faults → Flushes f mid new → Flushes f old new
flushes_after flush.All old mid new first same second = (grows_then [] [] old mid new first second.0, second.1, second.2 ∙ same)
flushes_after flush.Failed old mid new first same second =
    (grows_then [] [] old mid new first second.0, subst (λ (k : ℕ). Rises k new.faults) same second.1)

-- so many bytes of a piece are a front of it
pub front_put : (piece : List ℕ) (n : ℕ) (old new : Told) → Grows (take n piece) old new → TakesFront piece old new
front_put piece n old new taken = record { front = take n piece; rest = drop n piece; parts = sym (take-append-drop n piece); taken = taken }

-- a text was taken, and then all that was held was handed on
pub whole_flushed : (text : List ℕ) (old mid new : Told) → Grows text old mid → Grows [] mid new → new.held ≡ [] → Delivers text old new
whole_flushed text old mid new first second empty =
    let all = grows_then text [] old mid new first second in
    let sent : old.held ++ text ≡ all.sent =
    ap (λ x. old.held ++ x) (sym (append-nil text)) ∙ all.moved ∙ ap (λ x. all.sent ++ x) empty ∙ append-nil all.sent in
    record { grew = all.grew ∙ ap (appended old.stream) (sym sent); empty = empty }

-- or a front of that
pub part_flushed : (text : List ℕ) (old mid new : Told) → Grows text old mid → Grows [] mid new → TakesFront text old new
part_flushed text old mid new first second = record {
  front = text;
  rest = [];
  parts = sym (append-nil text);
  taken = subst (λ (x : List ℕ). Grows x old new) (append-nil text) (grows_then text [] old mid new first second);
}

-- a text was taken, and then the sink was flushed: the stream got it, or a front of it was taken
pub takes_flushed : (text : List ℕ) (f : Flush) (old mid new : Told) → Grows text old mid → mid.faults ≡ old.faults → Flushes f mid new → Takes text old new
takes_flushed text flush.All old mid new first same second = inl (whole_flushed text old mid new first second.0 second.1, second.2 ∙ same)
takes_flushed text flush.Failed old mid new first same second =
    inr (part_flushed text old mid new first second.0, subst (λ (k : ℕ). Rises k new.faults) same second.1)

-- where memory did not run out, the file was asked for
pub asked_for : (name : List ℕ) (l : Load) → l ≢ load.Memory → asks_for name l ≡ name ∷ []
asked_for name load.Whole not = refl
asked_for name load.Absent not = refl
asked_for name load.TooLong not = refl
asked_for name load.Failed not = refl
asked_for name load.Memory not = absurd (not refl)
