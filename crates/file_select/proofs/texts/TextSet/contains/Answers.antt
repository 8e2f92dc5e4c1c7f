use Rattle.std.proofs.Common.{◌∙◌, ap}
use Rattle.config_rules.specs.Select.{has_name}
use Rattle.file_select.proofs.TextLemmas.{has_key}
use Rattle.file_select.proofs.texts.TextSet.contains.Goals as goal

pub returns : goal.returns
returns c = c.contains.ensures ∙ has_key c.args.text.now c.self.inside.texts.keys ∙ ap (λ ts. has_name ts c.args.text.now) c.self.view_is
