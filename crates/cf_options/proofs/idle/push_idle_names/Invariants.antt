use Rattle.std.proofs.Common.{◌≡◌, ◌++◌, take}
use Rattle.cf_options.specs.ItemFlags.{idle_places, stands_in}
use Rattle.cf_options.proofs.idle.push_idle_names.Given as goal

abbrev pub invariant-loop-name : goal.invariant-loop-name
invariant-loop-name l = l.idle ≡ l.initial.idle ++ idle_places (stands_in l.flags l.kind) (take l.name-index l.names) l.place
