-- The lines of the commands of a plan, one after the other.
use Rattle.std.specs.Prelude.{◌≡◌, ℕ, ◌+◌, ◌≤◌, List, [], ◌++◌, flat_map}
use Rattle.std.specs.List.{zip}
use Rattle.cf_types.specs.declared.machine.Machine.{Machine}
use Rattle.cf_types.specs.declared.tables.Tables.{Tables}
use Rattle.run_rules.specs.World.{setup_of}
use Rattle.live_rules.specs.declared.plan.Plan.{Plan}
use Rattle.live_rules.specs.declared.plan.PlanCommand.{PlanCommand}
use Rattle.live_rules.specs.Live.{LiveWorld, LiveSite, answer, answers}
use Rattle.live_rules.specs.LiveText.{answer_texts}
use Rattle.live_tables.specs.Running.{Running}

-- the site of a plan
abbrev pub site_of : Tables → Machine → Plan → LiveSite
site_of tables machine plan = record { setup = setup_of tables machine []; groups = plan.groups }

-- the lines of a command
unfoldable pub command_texts : LiveSite → LiveWorld → PlanCommand → List (List ℕ)
command_texts t w c = answer_texts t.groups (c, ((answer t w c).reply, (answer t w c).lines))

-- the lines of these commands
unfoldable pub commands_texts : LiveSite → LiveWorld → List PlanCommand → List (List ℕ)
commands_texts t w cs = flat_map (answer_texts t.groups) (zip cs (answers t w cs))

-- a command was given to live tables, and its lines appended; it takes at most a serial for each spot
pub record Tells (r v : Running) (c : PlanCommand) (old new : List (List ℕ)) : Type 0 where
  pub running : v ≡ record r { world = (answer r.site r.world c).world }
  pub lines : new ≡ old ++ command_texts r.site r.world c
  pub serials : v.world.next ≤ r.world.next + 1024
