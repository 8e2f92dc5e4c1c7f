use Rattle.std.proofs.Common.{◌≡◌, true, false, map}
use Rattle.std.specs.Prelude.{filter, if◌then◌else◌}
use Rattle.cf_rows.proofs.marks.split_by_marks.Given as goal

abbrev pub invariant-loop-instance : goal.invariant-loop-instance
invariant-loop-instance l = record {
  rooted : l.rooted ≡ map (λ e. e.0) (filter (λ e. if e.1.now then true else false) l.yielded);
  orphans : l.orphans ≡ map (λ e. e.0.now.stmt) (filter (λ e. if e.1.now then false else true) l.yielded);
}
