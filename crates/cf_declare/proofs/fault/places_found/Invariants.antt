use Rattle.std.proofs.Common.{◌≡◌, drop, map, take}
use Rattle.config_rules.specs.Fault.{places_fault}
use Rattle.cf_declare.specs.Declare.{place_named}
use Rattle.cf_declare.proofs.fault.places_found.Given as goal

abbrev pub invariant-loop-name : goal.invariant-loop-name
invariant-loop-name l =
    (l.places.items ≡ map (place_named l.declared) (take l.name-index l.names)) × (places_fault l.declared (drop l.name-index l.names) ≡ places_fault l.declared l.names)
