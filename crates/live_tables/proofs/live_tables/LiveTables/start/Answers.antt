use Rattle.std.proofs.Common.{◌≡◌, [], ap, arith, subst, ◌∙◌}
use Rattle.std.specs.Prelude.{IfOk}
use Rattle.run_rules.specs.declared.world.Setup.{Setup}
use Rattle.run_rules.specs.World.{setup_of}
use Rattle.run_world.proofs.InputLaws.{bounded}
use Rattle.live_tables.proofs.live_tables.LiveTables.start.Goals as goal

pub make-requires : goal.make-requires
make-requires c =
    rw c.make-scripts.ensures
    (bounded (setup_of c.args.tables c.args.machine []) (record { tables = c.requires.tables; machine = c.requires.machine; few_scripts = omega arith; short_scripts = tt }))

pub on_site-requires-clause-devices : goal.on_site-requires-clause-devices
on_site-requires-clause-devices c = rw c.in-Ok.ensures c.requires.tables.graph.few_devices

pub returns-in-Ok-clause-site : goal.returns-in-Ok-clause-site
returns-in-Ok-clause-site c =
    subst (λ (s : Setup). IfOk c.on_site.result (λ it. it.site ≡ record { setup = s; groups = c.args.groups })) (c.in-Ok.ensures ∙ ap (setup_of c.args.tables c.args.machine) c.make-scripts.ensures) c.on_site.ensures.site
