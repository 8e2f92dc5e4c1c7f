-- What contracts see of a stack: the frames of a caller, and for how many more there is room.
use Rattle.std.specs.Prelude.{ℕ, Bool, true, false, List, [], ◌∷◌, Option, Some, None}
use Rattle.run_rules.specs.declared.world.Frame.{Frame}
use Rattle.run_rules.specs.declared.world.Position.{Position}
use Rattle.run_rules.specs.declared.world.Frame.TheVariants.{Scan, Finaliser}

-- the top first
pub record Frames : Type 0 where
  pub frames : List Frame
  pub room : ℕ

-- the frame on top
abbrev pub top_of : List Frame → Option Frame
top_of [] = None
top_of (frame ∷ frames) = Some frame

-- whether the top is a scan
abbrev pub is_scanning : List Frame → Bool
is_scanning [] = false
is_scanning (Scan serial only filter position ∷ frames) = true
is_scanning (Finaliser serial ∷ frames) = false

-- a frame that stands at another position, where it is a scan
abbrev pub moved : Position → Frame → Frame
moved to (Scan serial only filter position) = Scan serial only filter to
moved to (Finaliser serial) = Finaliser serial
