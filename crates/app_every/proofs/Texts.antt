-- The text of ways, one after the other.
use Rattle.std.proofs.Common.{◌≡◌, ◌∙◌, ◌<◌, ◌+◌, ℕ, List, [], ◌∷◌, ◌++◌, append_assoc, append-nil, ap, sym, flat_map, get_or, length, take}
use Rattle.std.specs.List.{enumerate_from}
use Rattle.std.proofs.lemmas.List.Concat.{flat_map-append}
use Rattle.cf_types.proofs.ListLemmas.{enumerate_more}
use Rattle.every_order.specs.declared.ways.Way.{Way}
use Rattle.app_every.specs.EveryText.{placed_text, way_text}

-- one way more
pub ways_more : (kind : List ℕ) (ways : List Way) (n : ℕ) (way : Way) (first old new : List ℕ) → n < length ways → get_or ways n way ≡ way
    → old ≡ first ++ flat_map (placed_text kind) (enumerate_from 0 (take n ways)) → new ≡ old ++ way_text kind (n + 1) way
    → new ≡ first ++ flat_map (placed_text kind) (enumerate_from 0 (take (n + 1) ways))
ways_more kind ways n way first old new within is so_far put =
    let placed : List (ℕ × Way) = enumerate_from 0 (take n ways) in
    let text : List ℕ = way_text kind (n + 1) way in
    let more : enumerate_from 0 (take (n + 1) ways) ≡ placed ++ (n, way) ∷ [] = enumerate_more ways n way within ∙ ap (λ (w : Way). placed ++ (n, w) ∷ []) is in
    let last : flat_map (placed_text kind) (placed ++ (n, way) ∷ []) ≡ flat_map (placed_text kind) placed ++ text =
    flat_map-append (placed_text kind) placed ((n, way) ∷ []) ∙ ap (λ (t : List ℕ). flat_map (placed_text kind) placed ++ t) (append-nil text)
    in
    put ∙ ap (λ (t : List ℕ). t ++ text) so_far ∙ append_assoc first (flat_map (placed_text kind) placed) text
    ∙ ap (λ (t : List ℕ). first ++ t) (sym (ap (flat_map (placed_text kind)) more ∙ last))
