-- By what the words of reasons go.
use Rattle.std.specs.Prelude.{ℕ, List}
use Rattle.cf_types.specs.declared.tables.Place.{Place}
use Rattle.cf_types.specs.declared.tables.Row.{Row}
use Rattle.run_rules.specs.declared.world.Setup.{Setup}
use Rattle.match_reasons.specs.declared.reason.Reason.{Reason}
use Rattle.match_reasons.specs.declared.reason.RowReason.{RowReason}
use Rattle.match_reasons.specs.declared.told.Told.{Told}
use Rattle.match_reasons.specs.Reasons.{spot_place}
use Rattle.why_text.specs.WhyText.{reason_lines, reason_text, row_reason_text, row_text, told_lines, why_text}
use Rattle.why_text.specs.declared.look.Look.{Look}

abbrev pub setup_in : Look → Setup
setup_in look = look.rules.now

-- the place of the spot
abbrev pub place_in : Look → Place
place_in look = spot_place look.rules.now.machine look.spot

-- ---- the texts of the spot, the parent and the devices of a look

abbrev pub reason_in : Look → ℕ → Row → Reason → List ℕ
reason_in look = reason_text (setup_in look) look.live.now.devices look.parent look.spot

abbrev pub row_reason_in : Look → ℕ → Reason → List ℕ
row_reason_in look = row_reason_text (setup_in look) look.live.now.devices look.parent look.spot

abbrev pub why_in : List ℕ → Look → RowReason → List ℕ
why_in takes look = why_text takes (setup_in look) look.live.now.devices look.parent look.spot

abbrev pub row_text_in : List ℕ → ℕ → Look → RowReason → List ℕ
row_text_in takes width look = row_text takes width (setup_in look) look.live.now.devices look.parent look.spot

abbrev pub told_lines_in : List ℕ → Look → Told → List (List ℕ)
told_lines_in takes look = told_lines takes (setup_in look) look.live.now.devices look.parent look.spot

abbrev pub reason_lines_in : List ℕ → Look → List (List ℕ)
reason_lines_in takes look = reason_lines takes (setup_in look) look.live.now.devices look.parent look.spot
