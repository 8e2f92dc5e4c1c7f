-- Words behind references: a test of each, those at the front and those from one on.
use Rattle.std.proofs.Common.{◌≡◌, ℕ, ◌+◌, ◌<◌, ◌≤◌, length, get_or, drop, Bool, true, false, ◌&&◌, ◌||◌, cond, Some, None, List, [], ◌∷◌, ◌++◌, refl, ap, sym, ◌∙◌}
use Rattle.std.specs.Prelude.{take_while}
use Rattle.std.specs.Borrow.{Bor}
use Rattle.std.specs.List.{list_all, list_any, prefix_len}
use Rattle.std.proofs.lemmas.List.{drop_all, drop_more, get_or_default}
use Rattle.std.proofs.lemmas.List.Folds.{length-prefix_len}
use Rattle.cf_words.proofs.ListLemmas.{part_more, part_none, with_front}
use Rattle.config_rules.specs.Form.{each}
use Rattle.config_rules.specs.MachineText.{GivenValue, located_value}
use Rattle.machine_text.specs.Words.{seen}

pub any_seen : (p : List ℕ → Bool) (words : List (Bor (List ℕ))) → list_any p (seen words) ≡ list_any (λ w. p w.now) words
any_seen p [] = refl
any_seen p (w ∷ ws) = ap (λ b. p w.now || b) (any_seen p ws)

pub all_seen : (p : List ℕ → Bool) (words : List (Bor (List ℕ))) → list_all p (seen words) ≡ list_all (λ w. p w.now) words
all_seen p [] = refl
all_seen p (w ∷ ws) = ap (λ b. p w.now && b) (all_seen p ws)

-- the words from one on
pub seen_from : (words : List (Bor (List ℕ))) (i : ℕ) (d : Bor (List ℕ)) → i < length words → seen (drop i words) ≡ (get_or words i d).now ∷ seen (drop (i + 1) words)
seen_from words i d lt = ap seen (drop_more words i d lt)

front_length : (p : List ℕ → Bool) (word : List ℕ) (words : List (List ℕ)) (b : Bool) → p word ≡ b → length (take_while p (word ∷ words)) ≡ cond b (1 + length (take_while p words)) 0
front_length p word words b h =
    length-prefix_len p (word ∷ words) ∙ ap (λ c. cond c (1 + prefix_len p words) 0) h ∙ ap (λ n. cond b (1 + n) 0) (sym (length-prefix_len p words))

-- how many stand at the front, with one more that passes, and where one fails
pub front_more : (p : List ℕ → Bool) (words : List (Bor (List ℕ))) (i : ℕ) (d : Bor (List ℕ)) → i < length words → p (get_or words i d).now ≡ true
    → length (take_while p (seen (drop i words))) ≡ 1 + length (take_while p (seen (drop (i + 1) words)))
front_more p words i d lt h = ap (λ ws. length (take_while p ws)) (seen_from words i d lt) ∙ front_length p (get_or words i d).now (seen (drop (i + 1) words)) true h

pub front_none : (p : List ℕ → Bool) (words : List (Bor (List ℕ))) (i : ℕ) (d : Bor (List ℕ)) → i < length words → p (get_or words i d).now ≡ false → length (take_while p (seen (drop i words))) ≡ 0
front_none p words i d lt h = ap (λ ws. length (take_while p ws)) (seen_from words i d lt) ∙ front_length p (get_or words i d).now (seen (drop (i + 1) words)) false h

pub front_end : (p : List ℕ → Bool) (words : List (Bor (List ℕ))) (i : ℕ) → length words ≤ i → length (take_while p (seen (drop i words))) ≡ 0
front_end p words i h = ap (λ ws. length (take_while p (seen ws))) (drop_all i words h)

-- ---- the values of locators

pub value_more : (words : List (Bor (List ℕ))) (i : ℕ) (d : Bor (List ℕ)) (front : List GivenValue) (y : GivenValue) → i < length words → Some y ≡ located_value (get_or words i d).now
    → with_front (front ++ y ∷ []) (each located_value (seen (drop (i + 1) words))) ≡ with_front front (each located_value (seen (drop i words)))
value_more words i d front y lt e =
    part_more located_value front (front ++ y ∷ []) y (get_or words i d).now (seen (drop i words)) (seen (drop (i + 1) words)) _ refl (seen_from words i d lt) e refl

pub value_none : (words : List (Bor (List ℕ))) (i : ℕ) (d : Bor (List ℕ)) (front : List GivenValue) → i < length words → None ≡ located_value (get_or words i d).now
    → with_front front (each located_value (seen (drop i words))) ≡ None
value_none words i d front lt e =
    sym (part_none located_value front (get_or words i d).now (seen (drop i words)) (seen (drop (i + 1) words)) _ refl (seen_from words i d lt) e)

-- ---- an element of a list, whatever stands for one beyond its end

pub itself : {X : Type 0} (xs : List X) (i : ℕ) (d : X) → i < length xs → get_or xs i d ≡ get_or xs i (get_or xs i d)
itself xs i d lt = get_or_default xs i d (get_or xs i d) lt
