use Rattle.std.proofs.Common.{◌∙◌, ◌++◌, ℕ, List, [], ap, sym}
use Rattle.config_rules.specs.Fault.{stmts_of}
use Rattle.config_rules.specs.Meaning.{idle_items}
use Rattle.config_rules.specs.Select.{drops}
use Rattle.cf_options.specs.ItemFlags.{stands_in}
use Rattle.cf_options.proofs.IdleLemmas.{any_behind, idle_more, idle_ends, no_idle, takes_more, takes_none}
use Rattle.cf_options.proofs.LastLemmas.{negated_behind}
use Rattle.cf_options.proofs.idle.idle_items.Goals as goal

pub loop-i-init : goal.loop-i-init
loop-i-init c = record {
  known = λ kind q h. c.nothing_stands-flags.ensures kind q ∙ takes_none kind q;
  places = ap (λ (xs : List ℕ). xs ++ idle_items [] (stmts_of c.args.placed.now)) c.make-idle.ensures;
}

pub loop-i-preserved : goal.loop-i-preserved
loop-i-preserved c = record {
  known = λ kind q h. takes_more kind q c.args.placed.now c.loop-i.i c.index-placed-i.result (stands_in c.loop-i.flags kind q) _
      c.loop-i-test.true c.index-placed-i.is (c.loop-i.invariant.known kind q (any_behind (drops kind q) c.args.placed.now c.loop-i.i c.index-placed-i.result c.loop-i-test.true h))
      (c.in_ok-note_statement.ensures kind q (negated_behind c.args.placed.now c.args.last.now c.requires.last kind c.loop-i.i q ∙ h));
  places = idle_more c.args.placed.now c.loop-i.i c.index-placed-i.result (stands_in c.loop-i.flags) c.loop-i.idle c.push_idle.new.idle _
      c.loop-i-test.true c.index-placed-i.is c.loop-i.invariant.known c.loop-i.invariant.places c.in_ok-push_idle.ensures;
}

pub returns : goal.returns
returns c = idle_ends c.args.placed.now c.loop-i.i c.loop-i.idle _ c.loop-i-test.false c.loop-i.invariant.places

pub returns-then-not-negate_items : goal.returns-then-not-negate_items
returns-then-not-negate_items c = c.make.ensures ∙ sym (no_idle c.args.placed.now [] (sym c.if-not-negate_items.ensures))
