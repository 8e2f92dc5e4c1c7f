-- What holds of the setup that rules make.
use Rattle.std.proofs.Common.{◌≡◌, ap, length, subst}
use Rattle.run_rules.specs.declared.world.Setup.{Setup}
use Rattle.plain_world.specs.declared.rules.Rules.TheInside.{Inside}
use Rattle.plain_world.specs.Rules.{AreFit, setup_by}
use Rattle.run_rules.specs.Spans.{AreSpansOf}

pub stretches_fit : (r : Inside) (s : Setup) → AreFit r → setup_by r ≡ s → AreSpansOf s.machine r.stretches.now
stretches_fit r s fit is = subst (λ (t : Setup). AreSpansOf t.machine r.stretches.now) is fit.stretches

pub spots_are : (r : Inside) (s : Setup) → setup_by r ≡ s → length r.machine.now.spots ≡ length s.machine.spots
spots_are r s is = ap (λ (t : Setup). length t.machine.spots) is

pub rows_are : (r : Inside) (s : Setup) → setup_by r ≡ s → length r.tables.now.rows ≡ length s.tables.rows
rows_are r s is = ap (λ (t : Setup). length t.tables.rows) is

pub scripts_are : (r : Inside) (s : Setup) → setup_by r ≡ s → length r.scripts.now ≡ length s.scripts
scripts_are r s is = ap (λ (t : Setup). length t.scripts) is
