use Rattle.std.proofs.Common.{◌≡◌, ◌∙◌, ◌&&◌, ◌==◌, Bool, false, Option, Some, None, find, option_map, reverse, refl, ap}
use Rattle.std.specs.Option.{option_map_or}
use Rattle.cf_types.specs.declared.machine.StyleLine.{StyleLine}
use Rattle.plain_search.proofs.turns.is_indirect_by.Goals as goal

said : (o : Option StyleLine) → option_map_or (λ (b : Bool). b) (option_map (λ (l : StyleLine). l.indirect) o) false ≡ option_map_or (λ l. l.indirect) o false
said None = refl
said (Some l) = refl

pub returns : goal.returns
returns c =
    c.is_indirect.ensures ∙ ap (λ (o : Option Bool). option_map_or (λ (b : Bool). b) o false) (c.args.seeker.now.styled c.args.attach c.args.attr)
    ∙ said (find (λ line. line.attach == c.args.attach && line.attr == c.args.attr) (reverse c.args.seeker.now.rules.now.machine.styles))
