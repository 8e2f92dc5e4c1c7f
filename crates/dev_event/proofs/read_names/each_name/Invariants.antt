use Rattle.std.proofs.Common.{◌≡◌, ◌++◌, length, option_map}
use Rattle.dev_event.specs.Reading.{all_named, pieces}
use Rattle.dev_event.proofs.read_names.each_name.Given as goal

abbrev pub invariant-words : goal.invariant-words
invariant-words l = option_map (λ names. l.names ++ names) (all_named (pieces l.rest)) ≡ all_named (pieces l.text)

abbrev pub decreases-words : goal.decreases-words
decreases-words l = length l.rest
