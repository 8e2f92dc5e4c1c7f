-- The lines that a plan prints behind the listing. They are this project's own.
use Rattle.std.specs.Prelude.{ℕ, List, [], ◌∷◌, ◌++◌, map, flat_map, slice_get, codes, decimal}
use Rattle.std.specs.List.{zip}
use Rattle.std.specs.Option.{option_map_or}
use Rattle.run_rules.specs.Tree.{dev_text}
use Rattle.live_rules.specs.declared.plan.Group.{Group}
use Rattle.live_rules.specs.declared.plan.PlanCommand.{PlanCommand}
use Rattle.live_rules.specs.declared.plan.PlanCommand.TheVariants.{Add, Remove, Scan}
use Rattle.live_rules.specs.declared.plan.LiveReply.{LiveReply}
use Rattle.live_rules.specs.declared.plan.LiveReply.TheVariants as reply
use Rattle.live_rules.specs.declared.plan.LiveLine.{LiveLine}
use Rattle.live_rules.specs.declared.plan.LiveLine.TheVariants.{Attached, Freed}
use Rattle.live_rules.specs.Live.{LiveSite, after, answers, opening, tree_lines}

-- the name of a group
abbrev pub group_name : List Group → ℕ → List ℕ
group_name groups g = option_map_or (λ group. group.name) (slice_get groups g) []

-- a command as it is written
abbrev pub command_text : List Group → PlanCommand → List ℕ
command_text groups (Add g) = codes "add " ++ group_name groups g
command_text groups (Remove g) = codes "remove " ++ group_name groups g
command_text groups Scan = codes "scan"

abbrev pub reply_text : LiveReply → List ℕ
reply_text reply.Ok = codes "ok"
reply_text reply.OnAlready = codes "on already"
reply_text reply.OffAlready = codes "off already"
reply_text (reply.Busy name) = codes "busy " ++ name

-- a device that came or went
unfoldable pub line_text : LiveLine → List ℕ
line_text (Attached name parent row) = codes "attach " ++ name ++ codes " at " ++ parent ++ codes " row " ++ decimal row
line_text (Freed name) = codes "free " ++ name

-- a command with its reply
unfoldable pub told_text : List Group → PlanCommand → LiveReply → List ℕ
told_text groups c r = command_text groups c ++ codes ": " ++ reply_text r

-- a command with its reply, and then its lines
abbrev pub answer_texts : List Group → PlanCommand × (LiveReply × List LiveLine) → List (List ℕ)
answer_texts groups e = told_text groups e.0 e.1.0 ∷ map line_text e.1.1

-- the head, each command with its reply and its lines, and the tree that is left
unfoldable pub live_texts : LiveSite → List PlanCommand → List (List ℕ)
live_texts t cs =
    codes "live 1" ∷ (flat_map (answer_texts t.groups) (zip cs (answers t opening cs)) ++ codes "tree" ∷ map dev_text (tree_lines t (after t opening cs)))
