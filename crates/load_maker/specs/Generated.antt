-- The two texts that `devconf load` makes: a bus with spots, of which two in three take a disk.
use Rattle.std.specs.Prelude.{ℕ, ◌%◌, List, [], ◌∷◌, ◌++◌, flat_map, codes, decimal}
use Rattle.cf_types.specs.Lines.{text_of}
use Rattle.cf_types.specs.Numbers.{below}

-- the lines of the configuration
abbrev pub conf_lines : List (List ℕ)
conf_lines =
    codes "device bus {[slot = -1]}"
    ∷ codes "attach bus at root, bus"
    ∷ codes "device disk"
    ∷ codes "attach disk at bus"
    ∷ codes "bus* at root"
    ∷ codes "disk* at bus?"
    ∷ []

-- a spot on the bus, found at the slot of its number
abbrev pub spot_line : ℕ → List ℕ
spot_line i = codes "spot s" ++ decimal i ++ codes " b bus slot=" ++ decimal i

-- how well a disk matches it: 0, 1 or 2 in turn
abbrev pub match_line : ℕ → List ℕ
match_line i = codes "match disk s" ++ decimal i ++ codes " " ++ decimal (i % 3)

abbrev pub spot_lines : ℕ → List (List ℕ)
spot_lines i = spot_line i ∷ match_line i ∷ []

-- the lines of a machine with so many spots on its bus
abbrev pub machine_lines : ℕ → List (List ℕ)
machine_lines n = codes "spot b root root" ∷ codes "match bus b 10" ∷ flat_map spot_lines (below n)

unfoldable pub conf_text : List ℕ
conf_text = text_of conf_lines

unfoldable pub machine_text : ℕ → List ℕ
machine_text n = text_of (machine_lines n)
