-- The styles of attachments and attributes.
use Rattle.std.specs.Prelude.{◌≡◌, ℕ, Bool, ◌&&◌, ◌==◌, if◌then◌else◌, List, [], find, map, reverse, Option, Some, option_map, Vec}
use Rattle.std.specs.Global.{Global}
use Rattle.std.specs.List.{slice_index_or}
use Rattle.cf_types.specs.declared.machine.StyleLine.{StyleLine}
use Rattle.plain_rows.specs.declared.styles.Styles.{Styles}

abbrev pub lists_of : List (Vec StyleLine Global) → List (List StyleLine)
lists_of lists = map (λ list. list.items) lists

-- whether the first line for an attribute says that it is searched row by row
abbrev pub style_in : List StyleLine → ℕ → Option Bool
style_in list a = option_map (λ line. line.indirect) (find (λ line. line.attr == a) list)

-- the same in the list of an attachment
abbrev pub style_at : List (List StyleLine) → ℕ → ℕ → Option Bool
style_at lists k a = style_in (slice_index_or lists k []) a

-- what the last line for an attachment and an attribute says
abbrev pub style_of_lines : List StyleLine → ℕ → ℕ → Option Bool
style_of_lines lines k a = option_map (λ line. line.indirect) (find (λ line. line.attach == k && line.attr == a) (reverse lines))

-- the lists say what the lines do
abbrev pub AreStyles : List StyleLine → Styles → Type 0
AreStyles lines styles = (k a : ℕ) → style_at (lists_of styles.lists.items) k a ≡ style_of_lines lines k a

-- what this line says is said of its attachment and its attribute, and of all others the same as before
abbrev pub HaveStyle : StyleLine → List (List StyleLine) → List (List StyleLine) → Type 0
HaveStyle line old new = (k a : ℕ) → style_at new k a ≡ (if line.attach == k && line.attr == a then Some line.indirect else style_at old k a)
