use Rattle.std.proofs.Common.{◌≡◌, ◌∙◌, ◌++◌, ◌∷◌, [], ap, codes, List, ℕ}
use Rattle.live_rules.specs.Live.{LiveSite, tree_lines}
use Rattle.live_run.proofs.Tellings.{whole_by}
use Rattle.live_run.proofs.run.lines_by.Goals as goal

pub returns-clause-lines : goal.returns-clause-lines
returns-clause-lines c =
    let site : c.tell_commands.new.live.site ≡ c.args.live.now.site = c.in_ok-tell_commands.ensures.site in
    whole_by c.args.live.now.site c.args.commands.now c.args.live.now.world c.tell_commands.new.live.world c.push_word.new.lines c.tell_commands.new.out c.push_tree.new.lines c.items.result.now
    (c.in_ok-push_word.ensures ∙ ap (λ (out : List (List ℕ)). out ++ codes "live 1" ∷ []) c.make-out.ensures) c.requires.first
    c.in_ok-tell_commands.ensures.text c.in_ok-tell_commands.ensures.world
    (c.items.ensures ∙ c.in_ok-devices.ensures ∙ ap (λ (t : LiveSite). tree_lines t c.tell_commands.new.live.world) site) c.in_ok-push_tree.ensures
