use Rattle.std.proofs.Common.{List, ℕ, None, ap, sym}
use Rattle.run_rules.specs.declared.event.Act.TheVariants as act
use Rattle.run_rules.specs.Run as run
use Rattle.deed_event.proofs.RecentLaws.{parent_told}
use Rattle.deed_event.proofs.event.first_nothing_found.Goals as goal

pub keep-requires : goal.keep-requires
keep-requires c =
    let w = c.args.going.now in
    rw (c.in_ok-parent_name.ensures, c.in_ok-spot_name.ensures, c.setup.ensures, c.called_at.ensures)
    (ap (λ (n : List ℕ). act.Found n (run.spot_name w.setup c.args.spot) None) (sym (parent_told w.setup w.live c.args.parent)))
