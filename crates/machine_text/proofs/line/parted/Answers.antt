use Rattle.std.proofs.Common.{rules, tests, ◌∙◌, ◌++◌, List, ℕ, true, false, length, sym, ap, append-nil}
use Rattle.std.specs.Prelude.{filter, nat_lt}
use Rattle.std.proofs.lemmas.Iterator.Splits.{YieldsList-from_slice_split}
use Rattle.config_rules.specs.Cut.{is_space}
use Rattle.machine_text.proofs.TextLemmas.{left_at, left_none, part_here, not_empty, empty_word}
use Rattle.machine_text.proofs.line.parted.Goals as goal

pub loop-word-preserved-in_ok-push : goal.loop-word-preserved-in_ok-push
loop-word-preserved-in_ok-push c =
    let left = left_at (YieldsList-from_slice_split _ is_space c.args.bytes.now (cc) (cc) (cc) (λ x r q k. search (rules, tests))) c.loop-word.yielded _ c.loop-word.yielded_by _ _ c.in-Some.word c.in-Some.is c.next.ensures.steps in
    record {
      iterator = search rules;
      so_far =
          rw (c.in_ok-push.ensures.ok, c.in_ok-copied.ensures)
          (part_here c.loop-word.words c.in-Some.word.now true left (not_empty c.in-Some.word.now (sym c.is_empty.ensures ∙ c.if-not-is_empty.true))
          ∙ c.loop-word.invariant.so_far);
    }

pub loop-word-preserved : goal.loop-word-preserved
loop-word-preserved c =
    let left = left_at (YieldsList-from_slice_split _ is_space c.args.bytes.now (cc) (cc) (cc) (λ x r q k. search (rules, tests))) c.loop-word.yielded _ c.loop-word.yielded_by _ _ c.in-Some.word c.in-Some.is c.next.ensures.steps in
    record {
      iterator = search rules;
      so_far =
          part_here c.loop-word.words c.in-Some.word.now false left (empty_word c.in-Some.word.now (sym c.is_empty.ensures ∙ c.if-not-is_empty.false))
          ∙ c.loop-word.invariant.so_far;
    }

pub returns : goal.returns
returns c =
    let none = left_none (YieldsList-from_slice_split _ is_space c.args.bytes.now (cc) (cc) (cc) (λ x r q k. search (rules, tests))) c.loop-word.yielded _ c.loop-word.yielded_by _ _ c.in-None.is c.next.ensures.steps in
    sym (append-nil c.loop-word.words)
    ∙ ap (λ (ps : List (List ℕ)). c.loop-word.words ++ filter (λ w. nat_lt 0 (length w)) ps) (sym none)
    ∙ c.loop-word.invariant.so_far
