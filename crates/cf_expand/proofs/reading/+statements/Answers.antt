use Rattle.std.proofs.Common.{◌≡◌, ◌+◌, ◌∙◌, ◌++◌, arith, List, [], length, ap, refl, sym, subst, Some}
use Rattle.cf_types.specs.declared.stmt.Token.{Token}
use Rattle.cf_grammar.specs.Statement.{AreWithin}
use Rattle.cf_io.proofs.AskedLemmas.{front_all}
use Rattle.config_rules.specs.Reading.{Reading, Statement, holds, names_declared, reader, statements_in}
use Rattle.cf_expand.specs.Levels.{Level, levels_behind, read_statements, treat}
use Rattle.cf_expand.proofs.AskedLemmas.{all_grown, asked_still, at_end, at_fault, asks_same, beyond, follows, front_same, reader_grows, statement_grows, statements_grow, stopped_all, treat_grows, whole_grows}
use Rattle.cf_lexer.specs.Rest.{all_tokens, is_closed}
use Rattle.cf_expand.specs.Unread.{Uncut, all_left}
use Rattle.cf_expand.proofs.UnreadLemmas.{fewer_left, first_within, kept_only, last_kept, none_left, passed_left, passed_reads, rest_closed, split_within, started, suffix_within, whole_splits}
use Rattle.cf_expand.proofs.ReadLemmas.{formed_here, included, included_whole, on_ok, placed_so, room_below, step_stopped}
use Rattle.cf_expand.specs.Steps.{entered, here_of, statement_at, treated}
use Rattle.cf_expand.proofs.reading.+statements.Goals as goal

pub read_directive-returns-clause-read : goal.read_directive-returns-clause-read
read_directive-returns-clause-read g t c = λ named e.
    let source = c.args.place.source.now in
    on_ok c.read_source.result (c.read_source.ensures.read named (c.in_ok-below.ensures.told ∙ e))
    (λ h. λ around s room begins.
    included named source c.in-Some-2.below around c.args.head.line c.args.place.conditions.now s c.in-Some.wanted c.in_ok-wanted.field-0 c.in_ok-below.field-0 c.treat.new.progress c.open_include.new.progress c.read_source.new.progress _
    c.in-Some.is c.in-Some-2.is begins.0 room (c.in_ok-wanted.ensures.steps s begins.0 begins.1 named (reader source.levels named) around room) (c.in_ok-below.ensures.read named e) c.in_ok-below.ensures.below.1 h)

pub read_directive-returns-in_err-wanted-clause-asked : goal.read_directive-returns-in_err-wanted-clause-asked
read_directive-returns-in_err-wanted-clause-asked g t c = λ s begins named e start around room before.
    let source = c.args.place.source.now in
    let whole = treat named (reader source.levels named) (here_of around source) c.args.place.conditions.now s c.args.stmt c.args.progress.now in
    stopped_all _ whole.asked _ _ _ c.from_residual.ensures.1 (all_grown c.args.progress.now whole _ _ (treat_grows named (reader source.levels named) (reader_grows source.levels named) (here_of around source) c.args.place.conditions.now s c.args.stmt c.args.progress.now) before)

pub read_directive-returns-in_default-clause-asked : goal.read_directive-returns-in_default-clause-asked
read_directive-returns-in_default-clause-asked g t c = λ s begins named e start around room before.
    let source = c.args.place.source.now in
    let step = rw c.in_default.is at (c.in_ok-wanted.ensures.steps s begins.0 begins.1 named (reader source.levels named) around room) in
    asked_still c.args.progress.now.asked _ start _ (ap (λ (r : Reading). r.asked) (sym step) ∙ c.in_ok-wanted.ensures.asked) before

pub read_directive-returns-in_err-below-clause-asked : goal.read_directive-returns-in_err-below-clause-asked
read_directive-returns-in_err-below-clause-asked g t c = λ s begins named e start around room before.
    let source = c.args.place.source.now in
    let whole = treat named (reader source.levels named) (here_of around source) c.args.place.conditions.now s c.args.stmt c.args.progress.now in
    let since = asked_still _ _ start _ c.in_ok-wanted.ensures.asked before in
    stopped_all _ whole.asked _ _ _ c.from_residual-in_err-below.ensures.1
    (front_same _ whole _ _ (rw c.in-Some.is at (c.in_ok-wanted.ensures.steps s begins.0 begins.1 named (reader source.levels named) around room)) (c.in_err-below.ensures.asked named e start around s begins.0 since))

pub read_directive-returns-in_default-2-clause-asked : goal.read_directive-returns-in_default-2-clause-asked
read_directive-returns-in_default-2-clause-asked g t c = λ s begins named e start around room before.
    let source = c.args.place.source.now in
    let inner = c.open_include.new.progress in
    let since = asked_still _ _ start _ c.in_ok-wanted.ensures.asked before in
    let whole = rw c.in_default-2.is at (included_whole named source around c.args.head.line c.args.place.conditions.now s c.in-Some.wanted c.in_ok-wanted.field-0 c.in_ok-below.field-0 c.treat.new.progress inner _
    c.in-Some.is begins.0 (c.in_ok-wanted.ensures.steps s begins.0 begins.1 named (reader source.levels named) around room) (c.in_ok-below.ensures.read named e)) in
    asked_still inner.asked _ start _ (ap (λ (r : Reading). r.asked) (sym whole)) (c.in_ok-below.ensures.asked named e start around s begins.0 since)

pub read_directive-returns-clause-asked : goal.read_directive-returns-clause-asked
read_directive-returns-clause-asked g t c = λ s begins named e start around room before.
    let source = c.args.place.source.now in
    let levels = c.args.place.conditions.now in
    let inner = c.open_include.new.progress in
    let since = asked_still _ _ start _ c.in_ok-wanted.ensures.asked before in
    let room' = room_below source c.in-Some-2.below around levels c.in_ok-below.field-0 c.in-Some-2.is room c.in_ok-below.ensures.below.1 in
    let whole = included_whole named source around c.args.head.line levels s c.in-Some.wanted c.in_ok-wanted.field-0 c.in_ok-below.field-0 c.treat.new.progress inner _
    c.in-Some.is begins.0 (c.in_ok-wanted.ensures.steps s begins.0 begins.1 named (reader source.levels named) around room) (c.in_ok-below.ensures.read named e) in
    asks_same (entered named (around + length levels) (Some c.in-Some-2.below) inner) _ _ _ _ (rw c.in-Some-2.is at whole)
    (c.read_source.ensures.asked named (c.in_ok-below.ensures.told ∙ e) start (around + length levels) room' (c.in_ok-below.ensures.asked named e start around s begins.0 since))

pub read_with_include-returns-then-is_directive-clause-read : goal.read_with_include-returns-then-is_directive-clause-read
read_with_include-returns-then-is_directive-clause-read g t c = λ named e.
    let source = c.args.place.source.now in
    on_ok c.read_directive.result (c.read_directive.ensures.read named e)
    (λ h. λ around room. h around c.args.statement.now room c.head-head.ensures
    ∙ formed_here named (reader source.levels named) (here_of around source) c.args.place.conditions.now c.args.statement.now c.head-head.result.word c.in-Ok.stmt c.args.progress.now c.read.new.progress
    (omega arith) (sym c.head-head.ensures.1) (sym c.is_placed.ensures ∙ c.if-not-is_placed.false) c.in-Ok.ensures.form c.read.ensures.same)

pub read_with_include-returns-then-is_directive-clause-asked : goal.read_with_include-returns-then-is_directive-clause-asked
read_with_include-returns-then-is_directive-clause-asked g t c = λ named e start around room before.
    let source = c.args.place.source.now in
    let formed = formed_here named (reader source.levels named) (here_of around source) c.args.place.conditions.now c.args.statement.now c.head-head.result.word c.in-Ok.stmt c.args.progress.now c.read.new.progress
    (omega arith) (sym c.head-head.ensures.1) (sym c.is_placed.ensures ∙ c.if-not-is_placed.false) c.in-Ok.ensures.form c.read.ensures.same in
    asks_same (treated named around source c.args.place.conditions.now c.args.statement.now c.in-Ok.stmt c.read.new.progress) _ c.read_directive.result start _ formed
    (c.read_directive.ensures.asked c.args.statement.now c.head-head.ensures named e start around room (asked_still _ _ start _ (ap (λ (r : Reading). r.asked) c.read.ensures.same) before))

pub read_with_include-returns-in_ok-place-in-Ok-clause-read : goal.read_with_include-returns-in_ok-place-in-Ok-clause-read
read_with_include-returns-in_ok-place-in-Ok-clause-read g t c = λ named e around room.
    let source = c.args.place.source.now in
    placed_so named (reader source.levels named) (here_of around source) c.args.place.conditions.now c.args.statement.now c.head-head.result c.in-Ok.stmt c.args.progress.now c.read.new.progress c.place.new.self
    (omega arith) c.head-head.ensures (sym c.is_placed.ensures ∙ c.if-not-is_placed.false) c.in-Ok.ensures.form c.read.ensures.same (c.is_directive.ensures c.if-is_directive.false) c.in_ok-place-in-Ok.ensures

pub read_with_include-returns-in_ok-place-in-Ok-clause-asked : goal.read_with_include-returns-in_ok-place-in-Ok-clause-asked
read_with_include-returns-in_ok-place-in-Ok-clause-asked g t c = λ named e start around room before.
    let source = c.args.place.source.now in
    let whole = placed_so named (reader source.levels named) (here_of around source) c.args.place.conditions.now c.args.statement.now c.head-head.result c.in-Ok.stmt c.args.progress.now c.read.new.progress c.place.new.self
    (omega arith) c.head-head.ensures (sym c.is_placed.ensures ∙ c.if-not-is_placed.false) c.in-Ok.ensures.form c.read.ensures.same (c.is_directive.ensures c.if-is_directive.false) c.in_ok-place-in-Ok.ensures in
    asked_still c.args.progress.now.asked _ start _ (ap (λ (r : Reading). r.asked) (sym whole) ∙ ap (λ (r : Reading). r.asked) c.in_ok-place-in-Ok.ensures ∙ ap (λ (r : Reading). r.asked) c.read.ensures.same) before

pub read_with_include-returns-in_err-place-in-Ok-clause-asked : goal.read_with_include-returns-in_err-place-in-Ok-clause-asked
read_with_include-returns-in_err-place-in-Ok-clause-asked g t c = λ named e start around room before.
    let source = c.args.place.source.now in
    let s = c.args.statement.now in
    let whole = statement_at named around source c.args.place.conditions.now s c.args.progress.now in
    stopped_all _ whole.asked _ _ _ c.from_residual-in_err-place-in-Ok.ensures.1 (all_grown c.args.progress.now whole _ _ (statement_grows named (reader source.levels named) (reader_grows source.levels named) (here_of around source) c.args.place.conditions.now s c.args.progress.now) before)

pub read_with_include-returns-in-Err-Memory-clause-asked : goal.read_with_include-returns-in-Err-Memory-clause-asked
read_with_include-returns-in-Err-Memory-clause-asked g t c = λ named e start around room before.
    let source = c.args.place.source.now in
    let s = c.args.statement.now in
    let whole = statement_at named around source c.args.place.conditions.now s c.args.progress.now in
    all_grown c.args.progress.now whole _ _ (statement_grows named (reader source.levels named) (reader_grows source.levels named) (here_of around source) c.args.place.conditions.now s c.args.progress.now) before

pub read_source-returns-in_err-read_with_include-clause-asked : goal.read_source-returns-in_err-read_with_include-clause-asked
read_source-returns-in_err-read_with_include-clause-asked g t c = λ named e start around room before.
    let so_far = c.loop-first.invariant in
    step_stopped _ named c.args.source.now around c.loop-first.conditions c.loop-first.left c.in-Some.first.now c.in-Some.rest.now c.statement-statement.result c.loop-first.progress _ _ _ _
    so_far.closed c.in-Some.ensures c.statement-statement.ensures (so_far.so_far named e around room) c.from_residual-in_err-read_with_include.ensures.1 (c.in_err-read_with_include.ensures.asked named (so_far.told ∙ e) start around room (so_far.asked named e start around room before))

pub read_source-returns-in_err-follow-clause-asked : goal.read_source-returns-in_err-follow-clause-asked
read_source-returns-in_err-follow-clause-asked g t c = λ named e start around room before.
    let so_far = c.loop-first.invariant in
    step_stopped _ named c.args.source.now around c.loop-first.conditions c.loop-first.left c.in-Some.first.now c.in-Some.rest.now c.statement-statement.result c.loop-first.progress _ _ _ _
    so_far.closed c.in-Some.ensures c.statement-statement.ensures (so_far.so_far named e around room) c.from_residual-in_err-follow.ensures.1 (front_all _ _ _ (c.in_ok-read_with_include.ensures.asked named (so_far.told ∙ e) start around room (so_far.asked named e start around room before)))

pub read_source-returns-in_err-refill-clause-asked : goal.read_source-returns-in_err-refill-clause-asked
read_source-returns-in_err-refill-clause-asked g t c = λ named e start around room before.
    let source = c.args.source.now in
    let whole = entered named around (Some (record { source = source; cutting = c.args.cutting })) c.args.progress.now in
    stopped_all _ whole.asked _ _ _ c.from_residual.ensures.1
    (all_grown c.args.progress.now whole _ _ (statements_grow named (reader source.levels named) (reader_grows source.levels named) (here_of around source) [] (statements_in source.text (all_tokens source.text c.args.cutting)) c.args.progress.now) before)

pub read_source-loop-first-init : goal.read_source-loop-first-init
read_source-loop-first-init g t c =
    let source = c.args.source.now in
    let begun = started source.text c.items.result.now c.args.cutting c.make-left.result c.refill.new.self c.items.ensures c.make-left.ensures c.in_ok-refill.ensures c.requires in
    record {
      told = refl;
      counted = refl;
      text = begun.text_is;
      within = begun.within;
      closed = begun.closed;
      ready = begun.ready;
      asked = λ named e start around room before. before;
      so_far = λ named e around room.
          ap (λ (ls : List Level). read_statements named (reader source.levels named) (here_of around source) ls (statements_in source.text (all_left c.refill.new.self)) c.args.progress.now) c.make-conditions.ensures
          ∙ ap (λ ss. read_statements named (reader source.levels named) (here_of around source) [] ss c.args.progress.now) begun.same;
    }

pub read_source-statement-statement-requires : goal.read_source-statement-statement-requires
read_source-statement-statement-requires g t c =
    first_within c.args.source.now.text c.loop-first.left.kept c.loop-first.left.more c.in-Some.first.now c.in-Some.rest.now c.in-Some.ensures c.loop-first.invariant.within

pub read_source-loop-first-smaller : goal.read_source-loop-first-smaller
read_source-loop-first-smaller g t c =
    let left = c.loop-first.left in
    let rest : List Token = c.in-Some.rest.now in
    let cut : Uncut = c.keep_last.new.self in
    let kept : cut.kept ≡ rest = last_kept left.kept rest _ (length rest) refl c.in-Some.ensures.behind (ap (λ (u : Uncut). u.kept) c.keep_last.ensures.left) in
    let passed = passed_left c.args.source.now.text left cut c.refill-in-Some.new.self rest c.is_live.result c.loop-first.invariant.text (kept_only left cut _ c.keep_last.ensures.left) kept c.in_ok-refill-2.ensures in
    fewer_left left.kept left.more c.in-Some.first.now rest passed.1.passes.front (all_left c.refill-in-Some.new.self) c.in-Some.ensures passed.1.passes.whole

pub read_source-returns-in_err-refill-2-clause-asked : goal.read_source-returns-in_err-refill-2-clause-asked
read_source-returns-in_err-refill-2-clause-asked g t c = λ named e start around room before.
    let so_far = c.loop-first.invariant in
    step_stopped _ named c.args.source.now around c.loop-first.conditions c.loop-first.left c.in-Some.first.now c.in-Some.rest.now c.statement-statement.result c.loop-first.progress _ _ _ _
    so_far.closed c.in-Some.ensures c.statement-statement.ensures (so_far.so_far named e around room) c.from_residual-in_err-refill-2.ensures.1 (front_all _ _ _ (c.in_ok-read_with_include.ensures.asked named (so_far.told ∙ e) start around room (so_far.asked named e start around room before)))

pub read_source-returns-in_err-read_end-clause-asked : goal.read_source-returns-in_err-read_end-clause-asked
read_source-returns-in_err-read_end-clause-asked g t c = λ named e start around room before.
    let source = c.args.source.now in
    let so_far = c.loop-first.invariant in
    let whole = entered named around (Some (record { source = source; cutting = c.args.cutting })) c.args.progress.now in
    stopped_all _ whole.asked _ _ _ c.from_residual-in_err-read_end.ensures.1
    (all_grown c.loop-first.progress whole _ _ (whole_grows named (reader source.levels named) (reader_grows source.levels named) (here_of around source) c.loop-first.conditions (statements_in source.text (all_left c.loop-first.left)) c.loop-first.progress whole (so_far.so_far named e around room)) (so_far.asked named e start around room before))

pub read_source-returns-then-has_fault-clause-read : goal.read_source-returns-then-has_fault-clause-read
read_source-returns-then-has_fault-clause-read g t c = λ named e around room.
    let source = c.args.source.now in
    let so_far = c.loop-first.invariant in
    at_fault named (reader source.levels named) (here_of around source) c.loop-first.conditions source.text (all_left c.loop-first.left) c.in-Some.first.now (c.in-Some.rest.now ++ c.loop-first.left.more) c.loop-first.progress c.read_with_include.new.progress _
    (whole_splits c.loop-first.left.kept c.loop-first.left.more c.in-Some.first.now c.in-Some.rest.now so_far.closed c.in-Some.ensures) (so_far.so_far named e around room) (rw c.statement-statement.ensures at (c.in_ok-read_with_include.ensures.read named (so_far.told ∙ e) around room)) (sym c.has_fault.ensures ∙ c.if-has_fault.true)

pub read_source-returns-then-has_fault-clause-asked : goal.read_source-returns-then-has_fault-clause-asked
read_source-returns-then-has_fault-clause-asked g t c = λ named e start around room before.
    let source = c.args.source.now in
    let so_far = c.loop-first.invariant in
    let read = rw c.statement-statement.ensures at (c.in_ok-read_with_include.ensures.read named (so_far.told ∙ e) around room) in
    let whole = at_fault named (reader source.levels named) (here_of around source) c.loop-first.conditions source.text (all_left c.loop-first.left) c.in-Some.first.now (c.in-Some.rest.now ++ c.loop-first.left.more) c.loop-first.progress c.read_with_include.new.progress _
    (whole_splits c.loop-first.left.kept c.loop-first.left.more c.in-Some.first.now c.in-Some.rest.now so_far.closed c.in-Some.ensures) (so_far.so_far named e around room) read (sym c.has_fault.ensures ∙ c.if-has_fault.true) in
    asked_still _ _ start _ (ap (λ (r : Reading). r.asked) (sym whole ∙ read)) (rw c.statement-statement.ensures at (c.in_ok-read_with_include.ensures.asked named (so_far.told ∙ e) start around room (so_far.asked named e start around room before)))

pub read_source-returns-clause-asked : goal.read_source-returns-clause-asked
read_source-returns-clause-asked g t c = λ named e start around room before.
    let source = c.args.source.now in
    let so_far = c.loop-first.invariant in
    let ends = c.in_ok-read_end.ensures in
    let whole = at_end named (reader source.levels named) (here_of around source) c.loop-first.conditions source.text (all_left c.loop-first.left) c.loop-first.progress c.read_end.new.progress _ (none_left c.loop-first.left c.in_default.ensures (so_far.ready c.in_default.ensures)) (so_far.so_far named e around room) (ends.read around) in
    asked_still _ _ start _ (ap (λ (r : Reading). r.asked) (sym whole) ∙ ends.asked) (so_far.asked named e start around room before)

pub read_source-loop-first-preserved : goal.read_source-loop-first-preserved
read_source-loop-first-preserved g t c =
    let source = c.args.source.now in
    let so_far = c.loop-first.invariant in
    let done = c.in_ok-read_with_include.ensures in
    let left = c.loop-first.left in
    let rest : List Token = c.in-Some.rest.now in
    let cut : Uncut = c.keep_last.new.self in
    let kept : cut.kept ≡ rest = last_kept left.kept rest _ (length rest) refl c.in-Some.ensures.behind (ap (λ (u : Uncut). u.kept) c.keep_last.ensures.left) in
    let passed = passed_left source.text left cut c.refill-in-Some.new.self rest c.is_live.result so_far.text (kept_only left cut _ c.keep_last.ensures.left) kept c.in_ok-refill-2.ensures in
    let behind : AreWithin source.text (rest ++ left.more) = split_within source.text left.kept left.more c.in-Some.first.now rest c.in-Some.ensures so_far.within in
    record {
      told = done.told ∙ so_far.told;
      counted = done.counted ∙ so_far.counted;
      text = passed.0;
      within = suffix_within source.text passed.1.passes.front (all_left c.refill-in-Some.new.self) (subst (AreWithin source.text) passed.1.passes.whole behind);
      closed = c.in_ok-refill-2.ensures.closed (ap is_closed kept ∙ rest_closed left.kept c.in-Some.first.now rest so_far.closed c.in-Some.ensures);
      ready = c.in_ok-refill-2.ensures.ready;
      asked = λ named e start around room before.
          asked_still _ _ start _ (ap (λ (r : Reading). r.asked) (done.read named (so_far.told ∙ e) around room)) (done.asked named (so_far.told ∙ e) start around room (so_far.asked named e start around room before));
      so_far = λ named e around room.
          passed_reads named (reader source.levels named) (here_of around source) c.follow.new.self c.is_live.result source.text (rest ++ left.more) (all_left c.refill-in-Some.new.self) c.read_with_include.new.progress _
          c.is_live.ensures (sym c.has_fault.ensures ∙ c.if-has_fault.false) passed.1
          (beyond named (reader source.levels named) (here_of around source) c.loop-first.conditions c.follow.new.self source.text (all_left left) c.in-Some.first.now (rest ++ left.more) c.loop-first.progress c.read_with_include.new.progress _
          (whole_splits left.kept left.more c.in-Some.first.now rest so_far.closed c.in-Some.ensures) (so_far.so_far named e around room) (rw c.statement-statement.ensures at (done.read named (so_far.told ∙ e) around room)) (sym c.has_fault.ensures ∙ c.if-has_fault.false)
          (follows c.loop-first.conditions c.follow.new.self c.loop-first.progress.placed c.statement-statement.result c.word.result c.line.result c.holds-condition_holds.result
          c.in_ok-follow.ensures c.word.ensures c.line.ensures (c.holds-condition_holds.ensures ∙ ap (λ word. holds word (names_declared c.loop-first.progress.placed c.statement-statement.result)) (sym c.word.ensures))
          ∙ ap (λ (s : Statement). levels_behind c.loop-first.progress.placed s c.loop-first.conditions) c.statement-statement.ensures));
    }
