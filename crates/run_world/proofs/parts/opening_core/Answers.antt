use Rattle.std.proofs.Common.{refl, ap}
use Rattle.run_rules.specs.World.{opening}
use Rattle.dev_tree.specs.Tree.{Devices}
use Rattle.run_world.proofs.parts.opening_core.Goals as goal

pub returns : goal.returns
unfolding opening
returns c = record {
  world = rw (c.make-4.ensures, c.make-5.ensures, c.in_ok-absent.ensures, c.in_ok-hidden.ensures, c.make-6.ensures, c.new.ensures.items, c.in_ok-callers.ensures) refl;
  rows = c.in_ok-rows.ensures;
  units = rw c.len.ensures at c.in_ok-units.ensures;
  drivers = ap (λ (t : Devices). t.drivers) c.make-4.ensures;
  recent = c.in_ok-recent.ensures c.args.setup.now;
}
