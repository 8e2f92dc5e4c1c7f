use Rattle.std.specs.Prelude.{[], ◌∷◌}
use Rattle.run_sound.proofs.Candidates.{fewer_candidates}
use Rattle.boot_laws.proofs.laws.fewer_candidates.Goals as goal

pub returns : goal.returns
returns c = λ s live d p place x r. fewer_candidates s live (d ∷ []) p place x r
