use Rattle.std.proofs.Common.{◌∙◌, ap, sym, ℕ, List}
use Rattle.run_rules.specs.After.{after, over}
use Rattle.plain_world.specs.Plain.{world_of}
use Rattle.plain_effect.proofs.effect.do_quietly.Goals as goal

pub returns-in-EndCaller : goal.returns-in-EndCaller
unfolding after
returns-in-EndCaller c = λ s. c.begin.ensures.world s ∙ ap (after (world_of s c.args.plain.now) c.args.caller) (sym c.in-EndCaller.is)

pub returns-in-Drop : goal.returns-in-Drop
unfolding after
returns-in-Drop c = λ s. c.give_back.ensures.world s ∙ ap (after (world_of s c.args.plain.now) c.args.caller) (sym c.in-Drop.is)

pub returns-in-Close : goal.returns-in-Close
unfolding after
returns-in-Close c = λ s. c.close.ensures s ∙ ap (after (world_of s c.args.plain.now) c.args.caller) (sym c.in-Close.is)

pub returns-in-Start : goal.returns-in-Start
unfolding after
returns-in-Start c = λ s. c.begin-in-Start.ensures.world s ∙ ap (after (world_of s c.args.plain.now) c.args.caller) (sym c.in-Start.is)

pub returns-in-BeginPower : goal.returns-in-BeginPower
unfolding after
returns-in-BeginPower c = λ s. c.begin-in-BeginPower.ensures.world s ∙ ap (after (world_of s c.args.plain.now) c.args.caller) (sym c.in-BeginPower.is)

pub returns-in-Sleep : goal.returns-in-Sleep
unfolding after
returns-in-Sleep c = λ s. c.rest.ensures s ∙ ap (after (world_of s c.args.plain.now) c.args.caller) (sym c.in-Sleep.is)

pub returns-in-Wake : goal.returns-in-Wake
unfolding after
returns-in-Wake c = λ s. c.rest-in-Wake.ensures s ∙ ap (after (world_of s c.args.plain.now) c.args.caller) (sym c.in-Wake.is)

pub returns-in-EndPower : goal.returns-in-EndPower
unfolding after
returns-in-EndPower c = λ s. c.finish.ensures s ∙ ap (after (world_of s c.args.plain.now) c.args.caller) (sym c.in-EndPower.is)

pub returns-in-Plug : goal.returns-in-Plug
unfolding after
returns-in-Plug c = λ s. c.finish-in-Plug.ensures s ∙ ap (λ (xs : List ℕ). over (record (world_of s c.args.plain.now) { absent = xs }) c.args.caller) c.remove.ensures ∙ ap (after (world_of s c.args.plain.now) c.args.caller) (sym c.in-Plug.is)

pub returns-in-Refuse : goal.returns-in-Refuse
unfolding after
returns-in-Refuse c = λ s. c.finish-in-Refuse.ensures s ∙ ap (after (world_of s c.args.plain.now) c.args.caller) (sym c.in-Refuse.is)

pub returns-in-Done : goal.returns-in-Done
unfolding after
returns-in-Done c = λ s. c.finish-in-Done.ensures s ∙ ap (after (world_of s c.args.plain.now) c.args.caller) (sym c.in-Done.is)

pub returns-in-Tell : goal.returns-in-Tell
unfolding after
returns-in-Tell c = λ s. c.finish-in-Tell.ensures s ∙ ap (after (world_of s c.args.plain.now) c.args.caller) (sym c.in-Tell.is)
