use Rattle.std.proofs.Common.{◌∙◌, ap, sym}
use Rattle.std.specs.Prelude.{position}
use Rattle.run_rules.specs.References.{is_of}
use Rattle.run_rules.proofs.Removals.{none_taken, taken_at}
use Rattle.plain_world.proofs.refs.take_first.Goals as goal

pub returns-in-Some : goal.returns-in-Some
returns-in-Some c =
    let at = sym (c.place_of.ensures ∙ ap (position (is_of c.args.caller c.args.of)) c.deref.ensures.value) ∙ c.in-Some.is in
    c.remove.ensures.items ∙ (taken_at (is_of c.args.caller c.args.of) c.args.refs.now.items c.in-Some.place at).1

pub returns-in_default : goal.returns-in_default
returns-in_default c =
    let at = sym (c.place_of.ensures ∙ ap (position (is_of c.args.caller c.args.of)) c.deref.ensures.value) ∙ c.in_default.is in
    none_taken (is_of c.args.caller c.args.of) c.args.refs.now.items at
