use Rattle.std.proofs.Common.{◌∙◌, ap, sym}
use Rattle.std.specs.Prelude.{bytes_eq}
use Rattle.history_replay.proofs.Joined.{other_begin, same_begin, too_short}
use Rattle.history_replay.proofs.head.is_joined.Goals as goal

pub returns-then-line-first : goal.returns-then-line-first
returns-then-line-first c = too_short c.args.first.now c.args.second.now c.args.line.now c.if-line-first.true

pub returns-then-is : goal.returns-then-is
returns-then-is c =
    c.is-then-is.ensures ∙ ap (bytes_eq c.args.second.now) c.split_at-parts.ensures.back
    ∙ same_begin c.args.first.now c.args.second.now c.args.line.now c.if-line-first.false
    (ap (bytes_eq c.args.first.now) (sym c.split_at-parts.ensures.front) ∙ sym c.is.ensures ∙ c.if-is.true)

pub returns-else-is : goal.returns-else-is
returns-else-is c =
    c.if-is.false
    ∙ other_begin c.args.first.now c.args.second.now c.args.line.now c.if-line-first.false
    (ap (bytes_eq c.args.first.now) (sym c.split_at-parts.ensures.front) ∙ sym c.is.ensures ∙ c.if-is.false)
