use Rattle.std.proofs.Common.{Ok, Err, IfOk, Result, sym, ◌∙◌}
use Rattle.dev_event.specs.Spelled.{Keeps, Spells}
use Rattle.dev_event.proofs.Spelling.{spells_kept, spells_none}
use Rattle.dev_event.proofs.read.read_event.Goals as goal

weaker : {A E : Type 0} (P Q : A → Type 0) → ((x : A) → P x → Q x) → (r : Result A E) → IfOk r P → IfOk r Q
weaker P Q more (Ok x) h = more x h
weaker P Q more (Err e) h = h

pub returns-in-Some : goal.returns-in-Some
returns-in-Some c =
    weaker (Keeps c.in-Some.event c.args.line.now) (Spells c.args.line.now)
    (λ o keeps. spells_kept c.args.line.now c.in-Some.event o (sym c.in_ok-event.ensures ∙ c.in-Some.is) keeps) c.kept.result c.kept.ensures

pub returns-in-None : goal.returns-in-None
returns-in-None c = spells_none c.args.line.now (sym c.in_ok-event.ensures ∙ c.in-None.is)
