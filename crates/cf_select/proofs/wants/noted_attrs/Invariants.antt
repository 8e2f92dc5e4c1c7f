use Rattle.std.proofs.Common.{◌≡◌, ℕ, true, false, map, take}
use Rattle.std.specs.List.{slice_index_or}
use Rattle.config_rules.specs.Meaning.{inst_of}
use Rattle.cf_select.specs.Wanted.{wants_at}
use Rattle.cf_select.specs.declared.want.Want.{Want}
use Rattle.cf_select.proofs.wants.noted_attrs.Given as goal

abbrev pub invariant-loop-instance : goal.invariant-loop-instance
invariant-loop-instance l = (q : Want) (x : ℕ) → wants_at (map inst_of (take l.instance-index l.instances)) q x ≡ true → slice_index_or l.noted.items q.attr false ≡ true
