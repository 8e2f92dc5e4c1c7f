use Rattle.std.proofs.Common.{◌≡◌, ◌++◌, ◌∙◌, List, ℕ, ap, sym, bytes_eq, decimal}
use Rattle.run_rules.specs.World.{unit_name, driver_name}
use Rattle.run_world.proofs.named.is_called.Goals as goal

pub returns : goal.returns
unfolding unit_name
returns c =
    let driver : c.driver_name.result.now ≡ driver_name c.args.setup.now _ = c.driver_name.ensures ∙ ap (driver_name c.args.setup.now) c.driver_of.ensures in
    sym c.is_unit_name.ensures ∙ ap (λ (xs : List ℕ). bytes_eq (xs ++ decimal c.args.device.now.unit) c.args.name.now) driver
