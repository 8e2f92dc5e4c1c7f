-- How a text gets into a sink line by line.
use Rattle.std.proofs.Common.{◌≡◌, ℕ, ◌+◌, ◌<◌, ◌≤◌, List, [], ◌++◌, length, get_or, take, drop, refl, ap, sym, ◌∙◌, subst, append_assoc}
use Rattle.std.proofs.lemmas.Grind.{flat_map-append}
use Rattle.std.proofs.lemmas.List.{take-append-drop, drop_more, take_all}
use Rattle.cf_types.specs.Lines.{ended, text_of}
use Rattle.cf_types.proofs.ListLemmas.{flat_map_step}
use Rattle.cf_io.specs.Told.{Told, Grows, TakesFront}
use Rattle.cf_io.proofs.GrowsLemmas.{grows_then}

-- the text of the lines before a place, and of those from there on
lines_parts : (lines : List (List ℕ)) (n : ℕ) → text_of lines ≡ text_of (take n lines) ++ text_of (drop n lines)
lines_parts lines n = ap text_of (sym (take-append-drop n lines)) ∙ flat_map-append ended (take n lines) (drop n lines)

-- the sink stands between two lines
pub front_before : (lines : List (List ℕ)) (n : ℕ) (old new : Told) → Grows (text_of (take n lines)) old new → TakesFront (text_of lines) old new
front_before lines n old new taken = record { front = text_of (take n lines); rest = text_of (drop n lines); parts = lines_parts lines n; taken = taken }

-- the sink stands within a line
pub front_within : (lines : List (List ℕ)) (n : ℕ) (piece : List ℕ) (old mid new : Told) → n < length lines → piece ≡ ended (get_or lines n [])
    → Grows (text_of (take n lines)) old mid → TakesFront piece mid new → TakesFront (text_of lines) old new
front_within lines n piece old mid new p is so_far h =
    let before = text_of (take n lines) in
    let behind = text_of (drop (n + 1) lines) in
    record {
      front = before ++ h.front;
      rest = h.rest ++ behind;
      parts = lines_parts lines n
          ∙ ap (λ (ls : List (List ℕ)). before ++ text_of ls) (drop_more lines n [] p)
          ∙ ap (λ ys. before ++ (ys ++ behind)) (sym is ∙ h.parts)
          ∙ ap (λ ys. before ++ ys) (append_assoc h.front h.rest behind)
          ∙ sym (append_assoc before h.front (h.rest ++ behind));
      taken = grows_then before h.front old mid new so_far h.taken;
    }

-- all lines were put
pub all_lines : (lines : List (List ℕ)) (n : ℕ) (old new : Told) → length lines ≤ n → Grows (text_of (take n lines)) old new → Grows (text_of lines) old new
all_lines lines n old new h grew = subst (λ (ls : List (List ℕ)). Grows (text_of ls) old new) (take_all n lines h) grew

-- one more line
pub one_more_line : (lines : List (List ℕ)) (n : ℕ) (piece : List ℕ) (old mid new : Told) → n < length lines → piece ≡ ended (get_or lines n [])
    → Grows (text_of (take n lines)) old mid → Grows piece mid new → Grows (text_of (take (n + 1) lines)) old new
one_more_line lines n piece old mid new p is so_far next =
    subst (λ (text : List ℕ). Grows text old new)
    (flat_map_step ended lines n [] [] (text_of (take n lines)) (text_of (take n lines) ++ piece) p refl (ap (λ ys. text_of (take n lines) ++ ys) is))
    (grows_then (text_of (take n lines)) piece old mid new so_far next)
