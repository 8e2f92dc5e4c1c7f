use Rattle.std.proofs.Common.{◌≡◌, ◌-◌, ◌==◌, ◌&&◌, ℕ, take}
use Rattle.std.specs.Prelude.{count_by}
use Rattle.std.specs.List.{slice_index_or}
use Rattle.run_rules.specs.After.{same_key}
use Rattle.plain_world.proofs.put_off.uncount.Given as goal

-- those that were looked at no longer count
abbrev pub invariant-loop-put_off : goal.invariant-loop-put_off
invariant-loop-put_off l =
    (s : ℕ) → slice_index_or l.children s 0 ≡ slice_index_or l.initial.children s 0 - count_by (λ e. same_key e.key l.which && e.child == s) (take l.put_off-index l.scans)
