-- Pairs of words, one after the other.
use Rattle.std.proofs.Common.{◌≡◌, ℕ, ◌-◌, ◌≤◌, ◌<◌, ◌==◌, length, get_or, take, drop, true, false, Bool, cond, List, [], ◌∷◌, ◌++◌, append_assoc, append-nil, refl, ap, sym, ◌∙◌, arith, Result, Ok, Err, ℤ}
use Rattle.std.specs.Borrow.{Bor}
use Rattle.std.specs.Prelude.{◌&&◌}
use Rattle.std.proofs.lemmas.List.{take_all}
use Rattle.cf_types.specs.declared.code.script.TheConstants.{WRONG_WORDS}
use Rattle.cf_types.specs.declared.machine.Given.{Given}
use Rattle.cf_text.specs.Shapes.{in_range}
use Rattle.config_rules.specs.Cut.{◌>>=◌}
use Rattle.config_rules.proofs.CutLaws.{both_left, both_right}
use Rattle.machine_text.specs.Words.{seen}
use Rattle.config_rules.specs.ScriptText.{are_pairs, given_in, io_form, spells_number, is_operand, number_within, operand}

abbrev pub with_given : List Given → Result (List Given) ℕ → Result (List Given) ℕ
with_given front r = r >>= λ more. Ok (front ++ more)

-- what a slice pattern takes for a reference that is not there
abbrev pub no_word : Bor (List ℕ)
no_word = record { ref_ptr = (0, 0); now = [] }

-- a slice pattern's two words and the others
pub two_words : (ws : List (Bor (List ℕ))) → 2 ≤ length ws → (get_or ws 0 no_word).now ∷ (get_or ws 1 no_word).now ∷ seen (take (length ws - 2) (drop 2 ws)) ≡ seen ws
two_words [] h = absurd (omega arith)
two_words (x ∷ []) h = absurd (omega arith)
two_words (x ∷ y ∷ ws) h = ap (λ rest. x.now ∷ y.now ∷ seen rest) (take_all (length (x ∷ y ∷ ws) - 2) ws (omega arith))

-- ---- pairs of operands and numbers

pub more_pairs : (name value : List ℕ) (ws : List (List ℕ)) → are_pairs (name ∷ value ∷ ws) ≡ true → are_pairs ws ≡ true
more_pairs name value ws h = both_right (is_operand name && spells_number value) (are_pairs ws) h

abbrev operand_by : Bool → List ℕ → Result (List ℕ) ℕ
operand_by b name = cond b (Ok name) (Err WRONG_WORDS)

operand_if : (b : Bool) (name : List ℕ) (code : ℕ) → b ≡ true → operand_by b name ≡ Err code → ⊥
operand_if true name code t h = cc
operand_if false name code t h = cc

-- the name of a pair is an operand
pub no_code : (name value : List ℕ) (ws : List (List ℕ)) (code : ℕ) → are_pairs (name ∷ value ∷ ws) ≡ true → operand name ≡ Err code → ⊥
no_code name value ws code h e = operand_if (is_operand name) name code (both_left (is_operand name) (spells_number value) (both_left (is_operand name && spells_number value) (are_pairs ws) h)) e

same_if : (b : Bool) (word name : List ℕ) → operand_by b word ≡ Ok name → name ≡ word
same_if true word name h = cc
same_if false word name h = absurd (cc)

pub operand_is : (word name : List ℕ) → operand word ≡ Ok name → name ≡ word
operand_is word name h = same_if (is_operand word) word name h

-- ---- one more pair

front_more : (front : List Given) (g : Given) (r : Result (List Given) ℕ) → with_given (front ++ g ∷ []) r ≡ with_given front (r >>= λ more. Ok (g ∷ more))
front_more front g (Ok more) = ap Ok (append_assoc front (g ∷ []) more)
front_more front g (Err code) = refl

pub given_more : (front : List Given) (name value : List ℕ) (v : ℤ) (ws : List (List ℕ)) → number_within in_range value ≡ Ok v
    → with_given (front ++ record { name = name; value = v } ∷ []) (given_in ws) ≡ with_given front (given_in (name ∷ value ∷ ws))
given_more front name value v ws h =
    front_more front (record { name = name; value = v }) (given_in ws)
    ∙ sym (ap (λ (r : Result ℤ ℕ). with_given front (r >>= λ n. given_in ws >>= λ more. Ok (record { name = name; value = n } ∷ more))) h)

-- ---- no pair is left

pub no_pair : (front : List Given) (ws : List (Bor (List ℕ))) → length ws < 2 → are_pairs (seen ws) ≡ true → with_given front (given_in (seen ws)) ≡ Ok front
no_pair front [] few h = ap Ok (append-nil front)
no_pair front (w ∷ []) few h = absurd cc
no_pair front (v ∷ w ∷ ws) few h = absurd (omega (arith, few))

pub few_pairs : (ws : List (Bor (List ℕ))) → length ws < 2 → (length ws == 0) ≡ are_pairs (seen ws)
few_pairs [] few = refl
few_pairs (w ∷ []) few = refl
few_pairs (v ∷ w ∷ ws) few = absurd (omega (arith, few))

-- ---- `io` wants two words

pub few_io : (ws : List (Bor (List ℕ))) → length ws < 2 → io_form (seen ws) ≡ Err WRONG_WORDS
few_io [] few = refl
few_io (w ∷ []) few = refl
few_io (v ∷ w ∷ ws) few = absurd (omega (arith, few))

pub many_io : (ws : List (Bor (List ℕ))) → 3 ≤ length ws → io_form (seen ws) ≡ Err WRONG_WORDS
many_io [] many = absurd (omega (arith, many))
many_io (w ∷ []) many = absurd (omega (arith, many))
many_io (v ∷ w ∷ []) many = absurd (omega (arith, many))
many_io (u ∷ v ∷ w ∷ ws) many = refl
