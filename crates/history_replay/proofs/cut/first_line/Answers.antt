use Rattle.std.proofs.Common.{◌∙◌, refl, sym}
use Rattle.history_replay.proofs.Cuts.{cut_there, cut_whole, place_within, some_left}
use Rattle.history_replay.proofs.cut.first_line.Goals as goal

pub cut_at-requires : goal.cut_at-requires
cut_at-requires c = place_within c.args.text.now c.in-Some.place (sym c.newline_in.ensures ∙ c.in-Some.is)

pub returns-in-Some : goal.returns-in-Some
returns-in-Some c =
    cut_there c.args.text.now c.cut_at.result.0.now c.cut_at.result.1.now c.in-Some.place (sym c.newline_in.ensures ∙ c.in-Some.is) c.cut_at.ensures.before c.cut_at.ensures.behind

pub returns-in-None : goal.returns-in-None
returns-in-None c = cut_whole c.args.text.now _ (some_left c.args.text.now (sym c.is_empty.ensures ∙ c.if-is_empty.false)) (sym c.newline_in.ensures ∙ c.in-None.is) refl
