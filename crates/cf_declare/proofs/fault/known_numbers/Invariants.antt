use Rattle.std.proofs.Common.{◌≡◌, ◌<◌, All, drop, length, take}
use Rattle.config_rules.specs.Fault.{attr_numbers, lacks_attr}
use Rattle.cf_declare.proofs.fault.known_numbers.Given as goal

abbrev pub invariant-loop-name : goal.invariant-loop-name
invariant-loop-name l =
    (l.numbers.items ≡ attr_numbers l.declared (take l.name-index l.names)) × (lacks_attr l.declared (drop l.name-index l.names) ≡ lacks_attr l.declared l.names)
    × All (λ a. a < length l.declared.attrs) l.numbers.items
