use Rattle.run_rules.specs.World.{opening}
use Rattle.boot_looks.proofs.Turns.{run_turns, turns_run}
use Rattle.boot_looks.proofs.laws.boots_are_turns.Goals as goal

pub returns : goal.returns
returns c = record { events = λ s h w run alone. run_turns (opening s) h w run alone; turns = turns_run }
