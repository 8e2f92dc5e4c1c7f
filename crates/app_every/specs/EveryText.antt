-- What is printed of every order of scripts.
use Rattle.std.specs.Prelude.{ℕ, ◌+◌, List, ◌++◌, codes, decimal, flat_map}
use Rattle.std.specs.List.{enumerate_from}
use Rattle.cf_types.specs.Lines.{ended}
use Rattle.every_order.specs.declared.every.Every.{Every}
use Rattle.every_order.specs.declared.ways.Way.{Way}

-- a word and a number
abbrev pub number_line : List ℕ → ℕ → List ℕ
number_line word n = ended (word ++ decimal n)

abbrev pub turn_text : ℕ → List ℕ
turn_text caller = codes " " ++ decimal caller

-- the callers of an order
abbrev pub order_line : List ℕ → List ℕ
order_line order = ended (codes "order" ++ flat_map turn_text order)

-- a way with its number: the line of its kind, its order, and its text
abbrev pub way_text : List ℕ → ℕ → Way → List ℕ
way_text kind number way = number_line kind number ++ (order_line way.order.items ++ way.text.items)

-- the way at a place, counted from 0, has the next number
abbrev pub placed_text : List ℕ → ℕ × Way → List ℕ
placed_text kind placed = way_text kind (placed.0 + 1) placed.1

-- ways, numbered from 1
abbrev pub ways_text : List ℕ → List Way → List ℕ
ways_text kind ways = flat_map (placed_text kind) (enumerate_from 0 ways)

-- how many worlds and turns there are, the ways to the ends, and those to where scripts stand still
unfoldable pub every_text : Every → List ℕ
every_text e =
    codes "every 1\n"
    ++ (number_line (codes "worlds ") e.worlds
    ++ (number_line (codes "turns ") e.turns ++ (ways_text (codes "end ") e.ends.items ++ ways_text (codes "stuck ") e.stuck.items)))
