use Rattle.std.proofs.Common.{◌≡◌, ◌≤◌, length, take}
use Rattle.cf_types.specs.Lines.{text_of}
use Rattle.cf_io.specs.Told.{Grows}
use Rattle.app_output.proofs.lines.put_lines.Given as goal

-- the lines before this one were put
abbrev pub invariant-loop-place : goal.invariant-loop-place
invariant-loop-place g l = record {
  within : l.place ≤ length (g.L.Lines.lines l.lines);
  grew : Grows (text_of (take l.place (g.L.Lines.lines l.lines))) (g.S.Sink.told l.initial.out) (g.S.Sink.told l.out);
  counted : (g.S.Sink.told l.out).faults ≡ (g.S.Sink.told l.initial.out).faults;
}
