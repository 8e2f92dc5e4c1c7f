use Rattle.std.proofs.Common.{◌∙◌, List, ℕ, None, ap}
use Rattle.run_rules.specs.declared.event.Act.TheVariants as act
use Rattle.run_rules.specs.Run as run
use Rattle.deed_event.proofs.RecentLaws.{parent_told}
use Rattle.deed_event.proofs.event.nothing_found.Goals as goal

pub returns-in_ok-clone-in-Some-clause-act : goal.returns-in_ok-clone-in-Some-clause-act
returns-in_ok-clone-in-Some-clause-act c =
    let w = c.args.going.now in
    c.in_ok-clone-in-Some.ensures
    ∙ c.in-Some.ensures
    ∙ rw c.called_at.ensures (ap (λ (n : List ℕ). act.Found n (run.spot_name w.setup c.args.spot) None) (parent_told w.setup w.live c.args.parent))
