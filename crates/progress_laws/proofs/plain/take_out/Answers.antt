use Rattle.std.proofs.Common.{◌∙◌, ap, sym}
use Rattle.std.specs.Prelude.{position, bytes_eq}
use Rattle.run_rules.proofs.Removals.{none_taken, taken_at}
use Rattle.progress_laws.proofs.plain.take_out.Goals as goal

pub returns-in-Some : goal.returns-in-Some
returns-in-Some c =
    let at = sym (c.place_of.ensures ∙ ap (position (λ n. bytes_eq n c.args.name.now)) c.deref.ensures.value) ∙ c.in-Some.is in
    c.remove.ensures.items ∙ (taken_at (λ n. bytes_eq n c.args.name.now) c.args.names.now.items c.in-Some.place at).1

pub returns-in_default : goal.returns-in_default
returns-in_default c =
    let at = sym (c.place_of.ensures ∙ ap (position (λ n. bytes_eq n c.args.name.now)) c.deref.ensures.value) ∙ c.in_default.is in
    none_taken (λ n. bytes_eq n c.args.name.now) c.args.names.now.items at
