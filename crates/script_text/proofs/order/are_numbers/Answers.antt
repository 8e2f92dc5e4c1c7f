use Rattle.std.proofs.Common.{rules, tests, ◌∙◌, List, ℕ, length, sym, ap}
use Rattle.std.specs.Prelude.{filter, nat_lt}
use Rattle.std.specs.List.{list_all}
use Rattle.std.proofs.lemmas.Iterator.Splits.{YieldsList-from_slice_split}
use Rattle.config_rules.specs.Cut.{is_space}
use Rattle.config_rules.specs.ScriptText.{spells_number}
use Rattle.machine_text.proofs.TextLemmas.{left_at, left_none}
use Rattle.script_text.proofs.OrderLemmas.{no_number, numbers_left}
use Rattle.script_text.proofs.order.are_numbers.Goals as goal

pub loop-part-preserved : goal.loop-part-preserved
loop-part-preserved c =
    let left = left_at (YieldsList-from_slice_split _ is_space c.args.bytes.now (cc) (cc) (cc) (λ x r q k. search (rules, tests))) c.loop-part.yielded _ c.loop-part.yielded_by _ _ c.in-Some.part c.in-Some.is c.next.ensures.steps in
    record {
      iterator = search rules;
      left = numbers_left c.in-Some.part.now left (sym c.is_fine.ensures ∙ c.if-not-is_fine.false) ∙ c.loop-part.invariant.left;
    }

pub returns-then-not-is_fine : goal.returns-then-not-is_fine
returns-then-not-is_fine c =
    let left = left_at (YieldsList-from_slice_split _ is_space c.args.bytes.now (cc) (cc) (cc) (λ x r q k. search (rules, tests))) c.loop-part.yielded _ c.loop-part.yielded_by _ _ c.in-Some.part c.in-Some.is c.next.ensures.steps in
    sym (sym c.loop-part.invariant.left ∙ no_number c.in-Some.part.now left (sym c.is_fine.ensures ∙ c.if-not-is_fine.true))

pub returns : goal.returns
returns c =
    let none = left_none (YieldsList-from_slice_split _ is_space c.args.bytes.now (cc) (cc) (cc) (λ x r q k. search (rules, tests))) c.loop-part.yielded _ c.loop-part.yielded_by _ _ c.in-None.is c.next.ensures.steps in
    ap (λ (ps : List (List ℕ)). list_all spells_number (filter (λ w. nat_lt 0 (length w)) ps)) (sym none) ∙ c.loop-part.invariant.left
