use Rattle.std.proofs.Common.{◌≡◌, List, ℕ, subst}
use Rattle.std.specs.Prelude.{IfOk}
use Rattle.told_names.proofs.LateLaws.{live_named}
use Rattle.told_names.proofs.listed_names.live_name.Goals as goal

pub returns : goal.returns
returns c =
    subst (λ (x : List ℕ). IfOk c.parent_name.result (λ n. n ≡ x)) (live_named c.args.going.now.setup c.args.going.now.live c.args.serial c.requires) c.parent_name.ensures
