-- Texts that are put one after the other, and line by line.
use Rattle.std.proofs.Common.{◌≡◌, ℕ, ◌<◌, List, [], ◌++◌, length, get_or, take, refl, ap, sym, ◌∙◌, subst, append_assoc}
use Rattle.std.specs.Prelude.{Result, Ok, Err, IsErrAnd}
use Rattle.cf_io.specs.Faults.{Rises}
use Rattle.cf_io.specs.Told.{Told, Grows, TakesFront}
use Rattle.cf_io.proofs.GrowsLemmas.{grows_nothing, grows_then}
use Rattle.app_output.proofs.TakenLemmas.{front_within}
use Rattle.cf_types.specs.Lines.{ended, text_of}
use Rattle.app_output.specs.Output.{Puts, Stops}
use Rattle.app_output.specs.declared.stop.OutputStop.{OutputStop}
use Rattle.app_output.specs.declared.stop.OutputStop.TheVariants.{WriteFault, Memory}

-- a front of a text is a front of what goes on with another
front_longer : (a b : List ℕ) (old new : Told) → TakesFront a old new → TakesFront (a ++ b) old new
front_longer a b old new h = record {
  front = h.front;
  rest = h.rest ++ b;
  parts = ap (λ x. x ++ b) h.parts ∙ append_assoc h.front h.rest b;
  taken = h.taken;
}

-- behind the first text, a front of the second
front_behind : (a b : List ℕ) (old mid new : Told) → Grows a old mid → TakesFront b mid new → TakesFront (a ++ b) old new
front_behind a b old mid new first h = record {
  front = a ++ h.front;
  rest = h.rest;
  parts = ap (λ x. a ++ x) h.parts ∙ sym (append_assoc a h.front h.rest);
  taken = grows_then a h.front old mid new first h.taken;
}

-- the first text was put, and then the second
pub puts_then : {A : Type 0} (a b : List ℕ) (old mid new : Told) (result : Result A OutputStop)
    → Grows a old mid × (mid.faults ≡ old.faults) → Puts b mid new result → Puts (a ++ b) old new result
puts_then a b old mid new (Ok done) first h = (grows_then a b old mid new first.0 h.0, h.1 ∙ first.1)
puts_then a b old mid new (Err WriteFault) first h = (front_behind a b old mid new first.0 h.0, subst (λ (n : ℕ). Rises n new.faults) first.1 h.1)
puts_then a b old mid new (Err Memory) first h = (front_behind a b old mid new first.0 h.0, h.1 ∙ first.1)

-- the first text was not put
pub puts_stops : (a b : List ℕ) (old new : Told) (stop : OutputStop) → Stops a old new stop → Stops (a ++ b) old new stop
puts_stops a b old new WriteFault h = (front_longer a b old new h.0, h.1)
puts_stops a b old new Memory h = (front_longer a b old new h.0, h.1)

-- memory ran out before anything was put
pub puts_nothing : (a : List ℕ) (old : Told) → Stops a old old Memory
puts_nothing a old = (record { front = []; rest = a; parts = refl; taken = grows_nothing old }, refl)

-- a line was not put whole
pub lines_stop : (lines : List (List ℕ)) (n : ℕ) (piece : List ℕ) (old mid new : Told) (stop : OutputStop) → n < length lines → piece ≡ ended (get_or lines n [])
    → Grows (text_of (take n lines)) old mid → mid.faults ≡ old.faults → Stops piece mid new stop → Stops (text_of lines) old new stop
lines_stop lines n piece old mid new WriteFault p is so_far same h =
    (front_within lines n piece old mid new p is so_far h.0, subst (λ (k : ℕ). Rises k new.faults) same h.1)
lines_stop lines n piece old mid new Memory p is so_far same h = (front_within lines n piece old mid new p is so_far h.0, h.1 ∙ same)

-- why the text was not put is passed on
pub passed_on : {A : Type 0} (text : List ℕ) (old new : Told) (result : Result A OutputStop) (stop : OutputStop) → IsErrAnd result (λ e. e ≡ stop) → Stops text old new stop → Puts text old new result
passed_on text old new (Ok done) stop is h = absurd is
passed_on text old new (Err e) stop is h = subst (Stops text old new) (sym is) h
