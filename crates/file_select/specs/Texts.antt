-- Texts in the order of their bytes, each once.
use Rattle.std.specs.Prelude.{ℕ, ◌≤◌, List, [], ◌∷◌, length, map}
use Rattle.std.specs.BTreeSet.{BTreeSet, insert_key}
use Rattle.std.specs.Cmp.Lexicographic.{slice_cmp}
use Rattle.std.specs.Global.{Global}
use Rattle.std.specs.Ordering.{nat_cmp}
use Rattle.std.specs.Prelude.{Vec}

-- the texts of a set
abbrev pub texts_in : BTreeSet (Vec ℕ Global) → List (List ℕ)
texts_in set = map (λ k. k.items) set.keys

-- with one more text
abbrev pub with_text : List (List ℕ) → List ℕ → List (List ℕ)
with_text texts text = insert_key (slice_cmp nat_cmp) texts text

-- with several more, one after the other
abbrev pub with_texts : List (List ℕ) → List (List ℕ) → List (List ℕ)
with_texts texts [] = texts
with_texts texts (x ∷ xs) = with_texts (with_text texts x) xs

-- a text that may be a name
pub record IsShort (text : List ℕ) : Type 0 where
  pub some : 1 ≤ length text
  pub few : length text ≤ 80
