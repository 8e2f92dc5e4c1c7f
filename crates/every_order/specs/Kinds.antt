-- Of what kind a world is by who can go on in it.
use Rattle.std.specs.Prelude.{ℕ, Bool, true, false, List, count_by, length, sum_by}
use Rattle.cf_types.specs.Lines.{text_of}
use Rattle.cf_types.specs.Numbers.{below}
use Rattle.progress_laws.specs.Still.{HaveAllEnded, IsStuck, SomebodyDoes}
use Rattle.run_rules.specs.declared.deed.Choice.{Choice}
use Rattle.run_rules.specs.declared.deed.Choice.TheVariants.{Does}
use Rattle.run_rules.specs.Next.{next}
use Rattle.run_rules.specs.World.{World}
use Rattle.wait_lines.specs.Waits.{wait_lines}
use Rattle.every_order.specs.declared.kind.Kind.{Kind}
use Rattle.every_order.specs.declared.kind.Kind.TheVariants.{End, Stuck, GoesOn}

abbrev pub is_deed : Choice → Bool
is_deed (Does deed) = true
is_deed _ = false

-- whether caller k can go on
abbrev pub goes : World → ℕ → Bool
goes w k = is_deed (next w k)

-- how many callers can go on
unfoldable pub goers : World → ℕ
goers w = count_by (goes w) (below (length w.callers))

-- how many pairs of a world and a caller that can go on there are
abbrev pub turns_in : List World → ℕ
turns_in ws = sum_by goers ws

-- what a world in which nobody can go on says: who waits for whom, a line each
abbrev pub wait_text : World → List ℕ
wait_text w = text_of (wait_lines w)

abbrev pub IsKind : World → Kind → Type 0
IsKind w End = HaveAllEnded w
IsKind w Stuck = IsStuck w
IsKind w GoesOn = SomebodyDoes w
