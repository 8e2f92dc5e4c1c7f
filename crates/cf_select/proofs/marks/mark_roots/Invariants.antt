use Rattle.std.proofs.Common.{◌≡◌, map, take}
use Rattle.config_rules.specs.Select.{is_at_root}
use Rattle.config_rules.specs.Meaning.{inst_of}
use Rattle.cf_select.specs.Reached.{AreMarked}
use Rattle.cf_select.proofs.marks.mark_roots.Given as goal

abbrev pub invariant-loop-place : goal.invariant-loop-place
invariant-loop-place l = record {
  marks : l.marks.items ≡ map (λ i. is_at_root (inst_of i)) (take l.place l.instances);
  listed : AreMarked l.marks.items l.order.items;
}
