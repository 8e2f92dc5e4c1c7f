-- Taking the top prefix away.
use Rattle.std.specs.Prelude.{◌≡◌, Bool, true, false, [], drop, length, ◌<◌}
use Rattle.config_rules.specs.Reading.{Reading}

-- the top prefix went, or there is none
abbrev pub Pops : Reading → Bool → Reading → Type 0
Pops old true new = (0 < length old.prefixes) × (new ≡ record old { prefixes = drop 1 old.prefixes })
Pops old false new = (old.prefixes ≡ []) × (new ≡ old)
