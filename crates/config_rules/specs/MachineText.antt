-- What the lines of a machine file mean, or the first bad line and its code. The format is this project's own.
use Rattle.std.specs.Prelude.{ℕ, zero, suc, Bool, true, false, not, ◌&&◌, ◌||◌, ◌==◌, nat_lt, nat_le, if◌then◌else◌, List, [], ◌∷◌, ◌++◌, length, drop, take_while, map, filter, find, slice_get, bytes_eq, codes, Option, Some, None, is_some, is_none, option_map, option_and_then, unwrap_or, Result, Ok, Err, ℤ, pos, negsuc, nat_abs, int_le}
use Rattle.std.specs.List.{list_all, list_any, slice_split, before_first, after_first, enumerate_from}
use Rattle.std.specs.Option.{option_map_or}
use Rattle.cf_types.specs.Policies.{no_policy}
use Rattle.cf_types.specs.declared.code.machine.TheConstants.{BAD_LINE, SPOT_TWICE, UNKNOWN_SPOT, NO_INTERFACE, UNKNOWN_LOCATOR, UNKNOWN_ATTACHMENT, OUT_OF_RANGE, TOO_MANY_SPOTS, TOO_DEEP}
use Rattle.cf_types.specs.declared.machine.Machine.{Machine}
use Rattle.cf_types.specs.declared.machine.Spot.{Spot}
use Rattle.cf_types.specs.declared.machine.MatchLine.{MatchLine}
use Rattle.cf_types.specs.declared.machine.StyleLine.{StyleLine}
use Rattle.cf_types.specs.declared.machine.Policy.{Policy}
use Rattle.cf_types.specs.declared.tables.Locator.{Locator}
use Rattle.cf_types.specs.declared.tables.Place.{Place}
use Rattle.cf_types.specs.declared.tables.Place.TheVariants.{Root, At}
use Rattle.cf_types.specs.declared.tables.Tables.{Tables}
use Rattle.cf_types.specs.Locators.{locators_at}
use Rattle.cf_types.specs.Offers.{is_interface}
use Rattle.cf_text.specs.Shapes.{is_written, number, in_range}
use Rattle.cf_types.specs.Lines.{lines_of}
use Rattle.cf_types.specs.Lookups.{attach_number, attr_number, spot_number}
use Rattle.config_rules.specs.Cut.{is_space, at_line, ◌>>=◌}
use Rattle.config_rules.specs.Form.{given, each, ◌or◌}

-- ---- lines and words

-- a line without its comment
abbrev pub uncommented : List ℕ → List ℕ
uncommented line = before_first (λ c. c == 35) line

-- the words between spaces and tabs
abbrev pub words_of : List ℕ → List (List ℕ)
words_of line = filter (λ w. nat_lt 0 (length w)) (slice_split is_space (uncommented line))

-- a tab, or from space to `~`
abbrev pub is_allowed : ℕ → Bool
is_allowed c = c == 9 || (nat_le 32 c && nat_le c 126)

-- a byte that is not allowed stands outside the comment
abbrev pub has_bad_byte : List ℕ → Bool
has_bad_byte line = list_any (λ c. not (is_allowed c)) (uncommented line)

-- a line that has words, with its number
pub record WordLine : Type 0 where
  pub number : ℕ
  pub words : List (List ℕ)

-- the lines that have words
abbrev pub word_lines : List ℕ → List WordLine
word_lines text =
    filter (λ l. nat_lt 0 (length l.words)) (map (λ e. record { number = e.0; words = words_of e.1 }) (enumerate_from 1 (lines_of text)))

-- the first line with a byte that is not allowed
abbrev pub bad_line : List ℕ → Option ℕ
bad_line text = option_map (λ e. e.0) (find (λ e. has_bad_byte e.1) (enumerate_from 1 (lines_of text)))

-- the lines that have words, unless some line has a byte that is not allowed
abbrev pub records_of : List ℕ → Result (List WordLine) (ℕ × ℕ)
records_of text = option_map_or (λ line. Err (line, BAD_LINE)) (bad_line text) (Ok (word_lines text))

-- ---- the forms of the lines

-- a value that a spot gives for a locator; none where the number is out of its range
pub record GivenValue : Type 0 where
  pub name : List ℕ
  pub value : Option ℤ

-- the number that a word spells, and whether it is in its range
abbrev pub ranged : List ℕ → Option (Option ℤ)
ranged word = option_map (λ v. given (in_range v) v) (number word)

-- something stands before the first `=`; behind it may stand anything, or nothing
abbrev pub is_located : List ℕ → Bool
is_located word = list_any (λ c. c == 61) word && nat_lt 0 (length (before_first (λ c. c == 61) word))

-- `loc=V`; a locator's name is looked up, whatever its shape
abbrev pub located_value : List ℕ → Option GivenValue
located_value word =
    if is_located word
    then option_map (λ v. record { name = before_first (λ c. c == 61) word; value = v }) (ranged (after_first (λ c. c == 61) word))
    else None

-- the marks of a spot
abbrev pub mark_words : List (List ℕ)
mark_words = codes "late" ∷ codes "absent" ∷ codes "bad" ∷ []

-- the word is among these
abbrev pub is_one : List (List ℕ) → List ℕ → Bool
is_one words word = list_any (λ w. bytes_eq word w) words

-- no word stands twice
abbrev pub differ : List (List ℕ) → Bool
differ [] = true
differ (w ∷ ws) = not (is_one ws w) && differ ws

-- a name that isn't `root`
abbrev pub is_free_name : List ℕ → Bool
is_free_name name = is_written name && not (bytes_eq name (codes "root"))

-- the lines of a machine file by their forms
pub data LineForm : Type 0 where
  SpotLine : (name parent attr : List ℕ) (found : List GivenValue) (marks : List (List ℕ)) → LineForm
  MatchOf : (attach : List ℕ) (spot : Option (List ℕ)) (value : Option ℕ) → LineForm
  StyleOf : (attach attr : List ℕ) (indirect : Bool) → LineForm
  DriverOf : (attach : List ℕ) (policies : List (List ℕ)) → LineForm

-- the words at the front that are locators: a mark has no `=`
abbrev pub located : List (List ℕ) → List (List ℕ)
located words = take_while (λ w. list_any (λ c. c == 61) w) words

-- the name is free, and no locator or mark stands twice
abbrev pub is_spot : List ℕ → List GivenValue → List (List ℕ) → Bool
is_spot name found marks = is_free_name name && differ (map (λ g. g.name) found) && list_all (is_one mark_words) marks && differ marks

-- `spot NAME PARENT ATTR`, then locators, then marks, none of them twice
abbrev pub spot_form : List ℕ → List ℕ → List ℕ → List (List ℕ) → Option LineForm
spot_form name parent attr rest =
    let marks = drop (length (located rest)) rest in
    option_and_then (λ found. given (is_spot name found marks) (SpotLine name parent attr found marks)) (each located_value (located rest))

-- a match value is from 0 to 65535
abbrev pub in_match_range : ℤ → Bool
in_match_range v = int_le (pos 0) v && int_le v (pos 65535)

-- the match value that a word spells, and whether it is in its range
abbrev pub ranged_match : List ℕ → Option (Option ℕ)
ranged_match word = option_map (λ v. given (in_match_range v) (nat_abs v)) (number word)

-- `match ATTACHMENT SPOT V`, or `*` for every spot
abbrev pub match_form : List ℕ → List ℕ → List ℕ → Option LineForm
match_form attach spot value =
    option_map (λ v. MatchOf attach (if bytes_eq spot (codes "*") then None else Some spot) v) (ranged_match value)

-- `style ATTACHMENT ATTR direct` or `indirect`
abbrev pub style_form : List ℕ → List ℕ → List ℕ → Option LineForm
style_form attach attr style =
    given (is_one (codes "direct" ∷ codes "indirect" ∷ []) style)
    (StyleOf attach attr (bytes_eq style (codes "indirect")))

-- the policies of a driver
abbrev pub policy_words : List (List ℕ)
policy_words = codes "nodetach" ∷ codes "norescan" ∷ codes "nopower" ∷ codes "failsuspend" ∷ codes "defer" ∷ codes "interrupts" ∷ codes "final" ∷ []

-- `driver ATTACHMENT` and one or more policies
abbrev pub driver_form : List ℕ → List (List ℕ) → Option LineForm
driver_form attach policies =
    given (nat_lt 0 (length policies) && list_all (is_one policy_words) policies) (DriverOf attach policies)

-- what may stand behind `spot`
abbrev pub spot_line : List (List ℕ) → Option LineForm
spot_line (name ∷ parent ∷ attr ∷ rest) = spot_form name parent attr rest
spot_line _ = None

-- what may stand behind `match`
abbrev pub match_line : List (List ℕ) → Option LineForm
match_line (attach ∷ spot ∷ value ∷ []) = match_form attach spot value
match_line _ = None

-- what may stand behind `style`
abbrev pub style_line : List (List ℕ) → Option LineForm
style_line (attach ∷ attr ∷ style ∷ []) = style_form attach attr style
style_line _ = None

-- what may stand behind `driver`
abbrev pub driver_line : List (List ℕ) → Option LineForm
driver_line (attach ∷ policies) = driver_form attach policies
driver_line [] = None

-- the form of a line of these words
abbrev pub line_form : List (List ℕ) → Option LineForm
line_form [] = None
line_form (word ∷ rest) =
    if bytes_eq word (codes "spot") then spot_line rest
    else (if bytes_eq word (codes "match") then match_line rest
    else (if bytes_eq word (codes "style") then style_line rest
    else (if bytes_eq word (codes "driver") then driver_line rest
    else None)))

-- ---- what a line means after those before it

-- the number of an interface attribute
abbrev pub interface_number : Tables → List ℕ → Option ℕ
interface_number t name =
    option_and_then (λ a. given (is_interface t.attrs a) a) (attr_number t.attrs name)

-- the place of a spot, where its attribute is one and `root` stands on both sides or on none
abbrev pub spot_place : Tables → List ℕ → List ℕ → Option Place
spot_place t parent attr =
    if bytes_eq parent (codes "root") then given (bytes_eq attr (codes "root")) Root
    else option_map (λ a. At a) (if bytes_eq attr (codes "root") then None else interface_number t attr)

-- each locator in order: no such locator, or out of range
abbrev pub found_fault : List Locator → List GivenValue → Option ℕ
found_fault locs [] = None
found_fault locs (g ∷ gs) =
    given (not (list_any (λ l. bytes_eq l.name g.name) locs)) UNKNOWN_LOCATOR
    or (given (is_none g.value) OUT_OF_RANGE
    or found_fault locs gs)

-- the value given, else the default, else -1
abbrev pub found_value : List GivenValue → Locator → ℤ
found_value found l = unwrap_or (option_and_then (λ g. g.value) (find (λ g. bytes_eq g.name l.name) found) or l.default) (negsuc 0)

-- so many spots lead from this one to the root, of at most so many
abbrev pub depth_of : ℕ → List Spot → Option ℕ → ℕ
depth_of zero spots parent = 1
depth_of (suc n) spots None = 1
depth_of (suc n) spots (Some x) = suc (depth_of n spots (option_and_then (λ s. s.parent) (slice_get spots x)))

-- the spot above, none at the root
abbrev pub spot_above : List Spot → List ℕ → Option ℕ
spot_above spots parent = if bytes_eq parent (codes "root") then None else spot_number spots parent

-- the locators of the spot's place
abbrev pub spot_locators : Tables → List ℕ → List ℕ → List Locator
spot_locators t parent attr = option_map_or (locators_at t.attrs) (spot_place t parent attr) []

-- the first code of a spot after these
abbrev pub spot_fault : Tables → List Spot → List ℕ → List ℕ → List ℕ → List GivenValue → Option ℕ
spot_fault t spots name parent attr found =
    given (is_some (spot_number spots name)) SPOT_TWICE
    or (given (not (bytes_eq parent (codes "root")) && is_none (spot_above spots parent)) UNKNOWN_SPOT
    or (given (is_none (spot_place t parent attr)) NO_INTERFACE
    or (found_fault (spot_locators t parent attr) found
    or (given (nat_le 1024 (length spots)) TOO_MANY_SPOTS
    or given (nat_lt 64 (depth_of (length spots) spots (spot_above spots parent))) TOO_DEEP))))

-- the spot of a line after these
abbrev pub spot_of : Tables → List Spot → List ℕ → List ℕ → List ℕ → List GivenValue → List (List ℕ) → Spot
spot_of t spots name parent attr found marks = record {
  name = name;
  parent = spot_above spots parent;
  place = unwrap_or (spot_place t parent attr) Root;
  found = map (found_value found) (spot_locators t parent attr);
  late = is_one marks (codes "late");
  absent = is_one marks (codes "absent");
  bad = is_one marks (codes "bad");
}

-- the spot, or its first code
abbrev pub new_spot : Tables → List Spot → List ℕ → List ℕ → List ℕ → List GivenValue → List (List ℕ) → Result Spot ℕ
new_spot t spots name parent attr found marks =
    option_map_or (λ code. Err code) (spot_fault t spots name parent attr found) (Ok (spot_of t spots name parent attr found marks))

-- the match line, or its first code
abbrev pub new_match : Tables → List Spot → List ℕ → Option (List ℕ) → Option ℕ → Result MatchLine ℕ
new_match t spots attach spot value =
    option_map_or (λ code. Err code)
    (given (is_none (attach_number t.attaches attach)) UNKNOWN_ATTACHMENT
    or (given (option_map_or (λ name. is_none (spot_number spots name)) spot false) UNKNOWN_SPOT
    or given (is_none value) OUT_OF_RANGE))
    (Ok (record { attach = unwrap_or (attach_number t.attaches attach) 0; spot = option_and_then (spot_number spots) spot; value = unwrap_or value 0 }))

-- the style line, or its first code
abbrev pub new_style : Tables → List ℕ → List ℕ → Bool → Result StyleLine ℕ
new_style t attach attr indirect =
    option_map_or (λ code. Err code)
    (given (is_none (attach_number t.attaches attach)) UNKNOWN_ATTACHMENT or given (is_none (interface_number t attr)) NO_INTERFACE)
    (Ok (record { attach = unwrap_or (attach_number t.attaches attach) 0; attr = unwrap_or (interface_number t attr) 0; indirect = indirect }))

-- a policy with those of the words added
abbrev pub with_policies : List (List ℕ) → Policy → Policy
with_policies words p = record {
  nodetach = p.nodetach || is_one words (codes "nodetach");
  norescan = p.norescan || is_one words (codes "norescan");
  nopower = p.nopower || is_one words (codes "nopower");
  failsuspend = p.failsuspend || is_one words (codes "failsuspend");
  defer = p.defer || is_one words (codes "defer");
  interrupts = p.interrupts || is_one words (codes "interrupts");
  finaliser = p.finaliser || is_one words (codes "final");
}

-- the policies with those of a line added, or its code
abbrev pub new_policies : Tables → List ℕ → List (List ℕ) → List Policy → Result (List Policy) ℕ
new_policies t attach words policies =
    option_map_or (λ a. Ok (map (λ e. if e.0 == a then with_policies words e.1 else e.1) (enumerate_from 0 policies)))
    (attach_number t.attaches attach) (Err UNKNOWN_ATTACHMENT)

-- the machine after a line of this form, or its first code
abbrev pub after_line : Tables → Machine → Option LineForm → Result Machine ℕ
after_line t m None = Err BAD_LINE
after_line t m (Some (SpotLine name parent attr found marks)) =
    new_spot t m.spots name parent attr found marks >>= λ s. Ok (record m { spots = m.spots ++ s ∷ [] })
after_line t m (Some (MatchOf attach spot value)) = new_match t m.spots attach spot value >>= λ l. Ok (record m { matches = m.matches ++ l ∷ [] })
after_line t m (Some (StyleOf attach attr indirect)) = new_style t attach attr indirect >>= λ l. Ok (record m { styles = m.styles ++ l ∷ [] })
after_line t m (Some (DriverOf attach words)) = new_policies t attach words m.policies >>= λ ps. Ok (record m { policies = ps })

-- the machine after these lines
abbrev pub after_lines : Tables → List WordLine → Machine → Result Machine (ℕ × ℕ)
after_lines t [] m = Ok m
after_lines t (l ∷ ls) m = at_line l.number (after_line t m (line_form l.words)) >>= λ n. after_lines t ls n

-- a machine without spots, for attachments that have no policies
abbrev pub no_machine : Tables → Machine
no_machine t = record { spots = []; matches = []; styles = []; policies = map (λ a. no_policy) t.attaches }

-- the machine that a text describes, or the first bad line and its code
unfoldable pub machine_of : Tables → List ℕ → Result Machine (ℕ × ℕ)
machine_of t text = records_of text >>= λ ls. after_lines t ls (no_machine t)
