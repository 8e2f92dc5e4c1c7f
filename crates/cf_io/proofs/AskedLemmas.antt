-- Files that were asked for in several steps.
use Rattle.std.proofs.Common.{◌≡◌, ℕ, Option, Some, None, List, [], ◌++◌, refl, ap, sym, ◌∙◌, append_assoc, append-nil}
use Rattle.cf_io.specs.Asked.{AsksFront}
use Rattle.cf_io.specs.Load.{asked_behind}

-- nothing was asked for
pub asked_none : (old : Option (List (List ℕ))) → old ≡ asked_behind old []
asked_none None = refl
asked_none (Some names) = ap Some (sym (append-nil names))

-- some files, and then others
pub asked_then : (old : Option (List (List ℕ))) (a b : List (List ℕ)) → asked_behind (asked_behind old a) b ≡ asked_behind old (a ++ b)
asked_then None a b = refl
asked_then (Some names) a b = ap Some (append_assoc names a b)

-- all that was due is a front of it
pub front_all : (due : List (List ℕ)) (old new : Option (List (List ℕ))) → new ≡ asked_behind old due → AsksFront due old new
front_all due old new asked = record { front = due; rest = []; parts = sym (append-nil due); asked = asked }

-- nothing is a front of all that is due
pub front_none : (due : List (List ℕ)) (old new : Option (List (List ℕ))) → new ≡ old → AsksFront due old new
front_none due old new same = record { front = []; rest = due; parts = refl; asked = same ∙ asked_none old }

-- a front stays one where more is due
pub front_more : (due more : List (List ℕ)) (old new : Option (List (List ℕ))) → AsksFront due old new → AsksFront (due ++ more) old new
front_more due more old new h = record {
  front = h.front;
  rest = h.rest ++ more;
  parts = ap (λ names. names ++ more) h.parts ∙ append_assoc h.front h.rest more;
  asked = h.asked;
}

-- what was due first, and a front of what was due behind it
pub front_behind : (first due : List (List ℕ)) (old mid new : Option (List (List ℕ))) → mid ≡ asked_behind old first → AsksFront due mid new → AsksFront (first ++ due) old new
front_behind first due old mid new before h = record {
  front = first ++ h.front;
  rest = h.rest;
  parts = ap (λ names. first ++ names) h.parts ∙ sym (append_assoc first h.front h.rest);
  asked = h.asked ∙ ap (λ o. asked_behind o h.front) before ∙ asked_then old first h.front;
}
