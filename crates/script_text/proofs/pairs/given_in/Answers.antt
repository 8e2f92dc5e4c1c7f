use Rattle.std.proofs.Common.{rules, ◌≡◌, ◌∙◌, ◌-◌, ◌++◌, [], ◌∷◌, ℕ, ℤ, List, true, get_or, length, take, drop, ap, sym, SFits, w64, to_z-of_z}
use Rattle.std.specs.Borrow.{Bor}
use Rattle.cf_types.specs.declared.machine.Given.{Given}
use Rattle.config_rules.specs.ScriptText.{are_pairs, given_in}
use Rattle.machine_text.specs.Words.{seen}
use Rattle.script_text.proofs.PairLemmas.{given_more, more_pairs, no_pair, no_word, operand_is, two_words, with_given}
use Rattle.script_text.proofs.pairs.given_in.Goals as goal

pub loop-rest-preserved : goal.loop-rest-preserved
loop-rest-preserved c =
    let words : List (Bor (List ℕ)) = c.loop-rest.rest.now in
    let name : List ℕ = (get_or words 0 no_word).now in
    let value : List ℕ = (get_or words 1 no_word).now in
    let more : List (List ℕ) = seen (take (length words - 2) (drop 2 words)) in
    let parts : name ∷ value ∷ more ≡ seen words = two_words words c.in-len2-up.len_at_least in
    let pairs : are_pairs (name ∷ value ∷ more) ≡ true = ap are_pairs parts ∙ c.loop-rest.invariant.pairs in
    let front : List Given = c.loop-rest.given in
    let range : SFits w64 c.in_ok-value.value = search rules in
    record {
      pairs = more_pairs name value more pairs;
      so_far =
          ap (λ (given : List Given). with_given given (given_in more)) c.in_ok-push.ensures.ok
          ∙ ap (λ (v : ℤ). with_given (front ++ record { name = c.in_ok-name.name; value = v } ∷ []) (given_in more)) (to_z-of_z range)
          ∙ ap (λ (n : List ℕ). with_given (front ++ record { name = n; value = c.in_ok-value.value } ∷ []) (given_in more)) (operand_is name c.in_ok-name.name c.in_ok-name.ensures)
          ∙ given_more front name value c.in_ok-value.value more c.in_ok-value.ensures
          ∙ ap (λ (ws : List (List ℕ)). with_given front (given_in ws)) parts
          ∙ c.loop-rest.invariant.so_far;
    }

pub returns : goal.returns
returns c = sym c.loop-rest.invariant.so_far ∙ no_pair c.loop-rest.given c.loop-rest.rest.now c.in_default.len_below c.loop-rest.invariant.pairs
