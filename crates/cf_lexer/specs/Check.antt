-- Whether lines can be cut, whatever their tokens are.
use Rattle.std.specs.Prelude.{◌≡◌, ℕ, ◌≤◌, ◌==◌, true, false, List, ◌∷◌, length, drop, Option, Some, None, Result, Ok, Err}
use Rattle.cf_types.specs.Lines.{lines_of}
use Rattle.config_rules.specs.Cut.{all_parts, parts_of}
use Rattle.cf_lexer.specs.Lines.{first_of}
use Rattle.cf_lexer.specs.declared.line.LexStop.{LexStop}
use Rattle.cf_lexer.specs.declared.line.LexStop.TheVariants.{Fault, Memory}

-- why there is no value
abbrev pub error_of : {A E : Type 0} → Result A E → Option E
error_of (Ok x) = None
error_of (Err e) = Some e

-- the code of a line that can't be cut
abbrev pub code_of : List ℕ → Option ℕ
code_of line = error_of (parts_of line)

-- the first fault of the lines from this number and this place on
abbrev pub fault_from : List ℕ → ℕ → ℕ → Option (ℕ × ℕ)
fault_from text number place = error_of (all_parts number (lines_of (drop place text)))

-- a call answers what is wrong, if anything is
abbrev pub Tells : {A : Type 0} → Option ℕ → Result A ℕ → Type 0
Tells whole (Ok done) = whole ≡ None
Tells whole (Err code) = whole ≡ Some code

-- the same with the line
abbrev pub TellsFault : {A : Type 0} → Option (ℕ × ℕ) → Result A LexStop → Type 0
TellsFault whole (Ok done) = whole ≡ None
TellsFault whole (Err (Fault line code)) = whole ≡ Some (line, code)
TellsFault whole (Err Memory) = ⊥

-- what is wrong with the rest of a line is wrong behind so many of its bytes
abbrev pub GoesBy : List ℕ → Result ℕ ℕ → Type 0
GoesBy rest (Ok len) = (1 ≤ len) × (len ≤ length rest) × (code_of (drop len rest) ≡ code_of rest)
GoesBy rest (Err code) = code_of rest ≡ Some code

-- the same by the first byte and the bytes of the text behind it; a newline is no part of a line
abbrev pub ByteGoes : ℕ → List ℕ → Result (Option ℕ) ℕ → Type 0
ByteGoes first more (Ok None) = (first == 10) ≡ true
ByteGoes first more (Ok (Some len)) = GoesBy (first ∷ first_of more) (Ok len) × ((first == 10) ≡ false)
ByteGoes first more (Err code) = GoesBy (first ∷ first_of more) (Err code) × ((first == 10) ≡ false)
