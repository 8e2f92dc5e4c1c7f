use Rattle.std.proofs.Common.{◌∙◌, ◌+◌, ◌≤◌, ℕ, Err, sym, ap, suc, length, arith}
use Rattle.machine_text.specs.Words.{seen}
use Rattle.machine_text.proofs.TextLemmas.{fewer_left, lines_left}
use Rattle.machine_model.proofs.MachineLemmas.{goes_on, stops}
use Rattle.machine_model.proofs.machine.read_with.Goals as goal

pub overflow_add-number : goal.overflow_add-number
overflow_add-number c =
    let count : c.loop-left.number + suc (length c.in-Some.text.now) ≤ length c.args.text.now + 2 = rw c.in-Some.is at c.loop-left.invariant.count in
    omega (arith, count, c.requires.short)

pub returns-in-Err-Code-clause-gives : goal.returns-in-Err-Code-clause-gives
returns-in-Err-Code-clause-gives c =
    let left = lines_left c.in-Some.text.now c.first_line.result.0.now c.first_line.result.1 c.first_line.ensures in
    let so_far = rw c.in-Some.is at c.loop-left.invariant.so_far in
    sym so_far
    ∙ stops c.args.index.now.tables.now c.loop-left.number c.first_line.result.0.now (seen c.deref.result.now) c.loop-left.draft.machine _ left (ap seen c.deref.ensures.value ∙ c.in_ok-cut_words.ensures) (rw c.in-Err-Code.field-0-is at c.in-Err-Code.ensures.left)
    ∙ ap (λ (k : ℕ). Err (c.loop-left.number, k)) (sym c.in-Err-Code.code-is)

pub loop-left-preserved : goal.loop-left-preserved
loop-left-preserved c =
    let left = lines_left c.in-Some.text.now c.first_line.result.0.now c.first_line.result.1 c.first_line.ensures in
    let so_far = rw c.in-Some.is at c.loop-left.invariant.so_far in
    let count : c.loop-left.number + suc (length c.in-Some.text.now) ≤ length c.args.text.now + 2 = rw c.in-Some.is at c.loop-left.invariant.count in
    let fewer = fewer_left c.in-Some.text.now c.first_line.result.0.now c.first_line.result.1 c.first_line.ensures in
    record {
      so_far =
          sym (goes_on c.args.index.now.tables.now c.loop-left.number c.first_line.result.0.now (seen c.deref.result.now) c.loop-left.draft.machine c.add_words.new.draft.machine left (ap seen c.deref.ensures.value ∙ c.in_ok-cut_words.ensures) c.in-Ok.ensures.left)
          ∙ so_far;
      draft = c.in-Ok.ensures.draft;
      count = omega (arith, count, fewer);
    }

pub returns-clause-gives : goal.returns-clause-gives
returns-clause-gives c = sym (rw c.in_default.is at c.loop-left.invariant.so_far)
