use Rattle.std.proofs.Common.{◌≡◌, ◌+◌, ◌-◌, ◌≤◌, drop, length}
use Rattle.std.specs.List.{prefix_len}
use Rattle.config_rules.specs.Cut.{is_chunk_byte}
use Rattle.cf_lexer.proofs.front.chunk_end.Given as goal

abbrev pub invariant-loop-end : goal.invariant-loop-end
invariant-loop-end l = record {
  within : l.end ≤ length l.text;
  so_far : l.end + prefix_len is_chunk_byte (drop l.end l.text) ≡ l.fn.start + prefix_len is_chunk_byte (drop l.fn.start l.text);
}

abbrev pub decreases-loop-end : goal.decreases-loop-end
decreases-loop-end l = length l.text - l.end
