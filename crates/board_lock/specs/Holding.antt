-- What a lease step does to what a caller holds.
use Rattle.std.specs.Prelude.{◌≡◌}
use Rattle.lease_table.specs.declared.view.View.{View}
use Rattle.lease_table.specs.Holding.{Takes}
use Rattle.lease_table.specs.Leases.{without}
use Rattle.dev_board.specs.declared.answer.LeaseStep.{LeaseStep}
use Rattle.dev_board.specs.declared.answer.LeaseStep.TheVariants.{Keep, Take, Give}

-- it keeps, takes or gives back
abbrev pub Settles : View → LeaseStep → View → Type 0
Settles v Keep w = w ≡ v
Settles v (Take x) w = Takes x v w
Settles v (Give x) w = w ≡ without v x
