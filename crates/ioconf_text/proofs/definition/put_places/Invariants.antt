use Rattle.std.proofs.Common.{◌≡◌, ◌++◌, map, take}
use Rattle.config_rules.specs.Listing.{spaced, place_name}
use Rattle.ioconf_text.proofs.definition.put_places.Given as goal

abbrev pub invariant-loop-place : goal.invariant-loop-place
invariant-loop-place l = l.out.items ≡ l.initial.out.items ++ spaced (map (place_name l.tables) (take l.place-index l.places))
