use Rattle.std.specs.Prelude.{bytes_eq}
use Rattle.run_rules.specs.World.{name_of}
use Rattle.next_deed.proofs.ChoiceLaws.{at_found}
use Rattle.next_deed.proofs.command.plan_rescan.Goals as goal

pub plan_search-requires : goal.plan_search-requires
plan_search-requires c =
    let w = c.args.going.now in
    at_found w (λ d. bytes_eq (name_of w.setup d) c.args.name.now) c.in_ok-device.device c.stands.ensures.goes_on.kept c.in_ok-device.ensures.found
