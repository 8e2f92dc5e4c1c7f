-- The last looks at the spots of a boot, with the search of each.
use Rattle.std.specs.Prelude.{◌≡◌, ◌<◌, ℕ, nat_le, if◌then◌else◌, length, slice_index_or, Option, Some, None, ⊤}
use Rattle.run_rules.specs.declared.world.Setup.{Setup}
use Rattle.match_reasons.specs.declared.told.Search.{Search}
use Rattle.match_reasons.specs.Searches.{IsSearchAt}
use Rattle.boot_looks.specs.declared.visit.Look.{Look}
use Rattle.boot_looks.specs.Looks.{look_at}
use Rattle.why_answers.specs.declared.near.Near.{Near}
use Rattle.why_answers.specs.declared.near.Searched.{Searched}
use Rattle.why_answers.specs.declared.near.Sight.{Sight}

-- it is the search of a spot at a look, or there is no look
abbrev pub IsSearchIn : Setup → ℕ → Option Look → Option Search → Type 0
IsSearchIn s x None None = ⊤
IsSearchIn s x (Some look) (Some search) = IsSearchAt s look.live.devices look.visit.parent x search
IsSearchIn s x None (Some search) = ⊥
IsSearchIn s x (Some look) None = ⊥

-- of each spot the search at its look
pub record AreSearched (seen : Searched) : Type 0 where
  pub spots : length seen.searches ≡ length seen.looks.now
  pub searches : (x : ℕ) → x < length seen.looks.now → IsSearchIn seen.rules.now x (look_at seen.looks.now x) (slice_index_or seen.searches x None)

-- the sight of a spot at a look, or there is no look
abbrev pub IsSightAt : Setup → ℕ → Option Look → Option Sight → Type 0
IsSightAt s x None None = ⊤
IsSightAt s x (Some look) (Some sight) = (sight.look.now ≡ look) × IsSearchAt s look.live.devices look.visit.parent x sight.search
IsSightAt s x None (Some sight) = ⊥
IsSightAt s x (Some look) None = ⊥

-- the better of a spot with so many conditions and the best before it
abbrev pub nearer : Option Near → Near → Near
nearer None near = near
nearer (Some best) near = if nat_le near.met best.met then best else near
