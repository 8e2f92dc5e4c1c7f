-- Texts as the keys of a map: keys that compare as equal are the same text.
use Rattle.std.proofs.Common.{◌≡◌, ℕ, Bool, true, List, Vec, sym, ◌∙◌}
use Rattle.std.specs.Str.{bytes_eq}
use Rattle.std.specs.Cmp.Lexicographic.{slice_cmp}
use Rattle.std.specs.Global.{Global}
use Rattle.std.specs.Ordering.{is_eq, nat_cmp}
use Rattle.std.specs.declared.cmp.Ordering.{Ordering}
use Rattle.std.proofs.lemmas.Map.Text.{is_eq-slice_cmp}
use Rattle.std.proofs.lemmas.Slice.Eq.{bytes_eq-Decides}
use Rattle.cf_types.proofs.TestLemmas.{same_answer}

abbrev pub Key : Type 0
Key = Vec ℕ Global

abbrev pub key_cmp : Key → Key → Ordering
key_cmp a b = slice_cmp nat_cmp a.items b.items

-- the key is this text
abbrev pub is_key : List ℕ → Key → Bool
is_key text k = is_eq (slice_cmp nat_cmp text k.items)

pub same_text : (a b : List ℕ) → is_eq (slice_cmp nat_cmp a b) ≡ true → a ≡ b
same_text a b e = (bytes_eq-Decides a b).0 (sym (is_eq-slice_cmp a b) ∙ e)

pub is_same : (a b : List ℕ) → a ≡ b → is_eq (slice_cmp nat_cmp a b) ≡ true
is_same a b e = is_eq-slice_cmp a b ∙ (bytes_eq-Decides a b).1 e

-- the key that was made of a name is the text exactly where the name is
pub key_is : (text name : List ℕ) (k : Key) → k.items ≡ name → is_key text k ≡ bytes_eq name text
key_is text name k is =
    same_answer (is_key text k) (bytes_eq name text) (λ h. (bytes_eq-Decides name text).1 (sym is ∙ sym (same_text text k.items h)))
    (λ h. is_same text k.items (sym ((bytes_eq-Decides name text).0 h) ∙ sym is))
