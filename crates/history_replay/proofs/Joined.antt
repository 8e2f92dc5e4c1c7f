-- A line as a head and an act.
use Rattle.std.proofs.Common.{◌≡◌, ◌≤◌, ◌<◌, ◌&&◌, ◌++◌, ℕ, Bool, true, false, List, [], ◌∷◌, length, take, drop, refl, arith}
use Rattle.std.specs.Prelude.{bytes_eq}
use Rattle.run_rules.specs.declared.event.Act.{Act}
use Rattle.run_rules.specs.Lines.{act_text, line_of}
use Rattle.run_rules.specs.Run.{number_of}
use Rattle.run_rules.specs.World.{World}
use Rattle.plain_event.specs.Told.{event_with}
use Rattle.history_replay.specs.Heads.{head_text}

-- ---- a line and two texts, one behind the other

false_still : (a r : Bool) → false ≡ r → false ≡ (a && r)
false_still true r e = e
false_still false r e = refl

-- too short a line
pub too_short : (first second line : List ℕ) → length line < length first → false ≡ bytes_eq (first ++ second) line
too_short [] second line lt = absurd (omega (arith, lt))
too_short (b ∷ first) second [] lt = refl
too_short (b ∷ first) second (c ∷ line) lt = false_still _ _ (too_short first second line (omega (arith, lt)))

and_still : (a x y z : Bool) → (x && y) ≡ z → ((a && x) && y) ≡ (a && z)
and_still true x y z e = e
and_still false x y z e = refl

-- part by part
joined : (first second line : List ℕ) → length first ≤ length line → (bytes_eq first (take (length first) line) && bytes_eq second (drop (length first) line)) ≡ bytes_eq (first ++ second) line
joined [] second line le = refl
joined (b ∷ first) second [] le = absurd (omega (arith, le))
joined (b ∷ first) second (c ∷ line) le = and_still _ _ _ _ (joined first second line (omega (arith, le)))

pub same_begin : (first second line : List ℕ) → length first ≤ length line → bytes_eq first (take (length first) line) ≡ true → bytes_eq second (drop (length first) line) ≡ bytes_eq (first ++ second) line
same_begin first second line le same = rw same at (joined first second line le)

pub other_begin : (first second line : List ℕ) → length first ≤ length line → bytes_eq first (take (length first) line) ≡ false → false ≡ bytes_eq (first ++ second) line
other_begin first second line le other = rw other at (joined first second line le)

-- ---- the line of an event

-- the line by which a caller tells an act is its head with the text of the act behind it
pub line_same : (w : World) (k n : ℕ) (a : Act) (text line : List ℕ) → n ≡ number_of w k → text ≡ act_text a → bytes_eq (head_text k n ++ text) line ≡ bytes_eq (line_of (event_with w k a)) line
unfolding line_of
line_same w k n a text line number same = rw (number, same) refl
