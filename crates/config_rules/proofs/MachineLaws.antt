-- A machine that a text describes fits the tables.
use Rattle.std.proofs.Common.{◌≡◌, ℕ, zero, suc, ◌+◌, ◌-◌, ◌<◌, ◌≤◌, Bool, true, false, cond, not, ◌&&◌, ◌||◌, Option, Some, None, List, [], ◌∷◌, ◌++◌, length, drop, map, refl, ap, sym, ◌∙◌, subst, arith, inl, inr, ℤ, Result, Ok, Err, pos, negsuc}
use Rattle.std.specs.Prelude.{IfOk, IfSome, ◌==◌, if◌then◌else◌, bytes_eq, codes, is_none, is_some, nat_abs, nat_le, nat_lt, option_and_then, option_map, position, slice_get, unwrap_or}
use Rattle.std.specs.List.{enumerate_from, list_all, list_any, position_or_len}
use Rattle.std.specs.Option.{option_map_or}
use Rattle.std.proofs.lemmas.Bool.{cases_lt}
use Rattle.std.proofs.lemmas.Bool.Decides.{nat_tests}
use Rattle.std.proofs.lemmas.List.{length-map, length_push, map-append}
use Rattle.std.proofs.lemmas.List.FromFn.{length-enumerate_from}
use Rattle.std.proofs.lemmas.List.Elements.{All-nil, All-push, All-weaker}
use Rattle.std.proofs.lemmas.List.Folds.{list_any-append}
use Rattle.cf_types.specs.declared.code.machine.TheConstants.{NO_INTERFACE, OUT_OF_RANGE, UNKNOWN_ATTACHMENT, UNKNOWN_SPOT}
use Rattle.config_rules.proofs.GivenLaws.{if_given, no_code, no_last, no_first}
use Rattle.cf_types.proofs.ListLemmas.{slice_get-append_front, slice_get-append_back}
use Rattle.cf_types.proofs.PlaceLemmas.{position_found}
use Rattle.cf_types.specs.declared.machine.Machine.{Machine}
use Rattle.cf_types.specs.declared.machine.Spot.{Spot}
use Rattle.cf_types.specs.declared.machine.MatchLine.{MatchLine}
use Rattle.cf_types.specs.declared.machine.StyleLine.{StyleLine}
use Rattle.cf_types.specs.declared.tables.Attr.{Attr}
use Rattle.cf_types.specs.declared.tables.Place.{Place}
use Rattle.cf_types.specs.declared.tables.Place.TheVariants.{Root, At}
use Rattle.cf_types.specs.declared.tables.Tables.{Tables}
use Rattle.cf_types.specs.Locators.{locators_at}
use Rattle.cf_types.specs.Offers.{is_interface}
use Rattle.cf_types.specs.Policies.{no_policy}
use Rattle.cf_types.specs.Lookups.{attach_number, spot_number}
use Rattle.cf_text.specs.Shapes.{number}
use Rattle.config_rules.specs.Cut.{at_line, ◌>>=◌}
use Rattle.config_rules.specs.Form.{each, given, ◌or◌}
use Rattle.config_rules.specs.Formed.{AreNames, FittingMachine, FittingMatch, FittingSpot, FittingStyle, is_place}
use Rattle.config_rules.specs.Select.{is_root_place}
use Rattle.config_rules.specs.MachineText.{GivenValue, LineForm, SpotLine, MatchOf, StyleOf, DriverOf, WordLine, after_line, after_lines, depth_of, differ, driver_line, found_fault, found_value, located_value, in_match_range, interface_number, is_free_name, is_one, is_spot, line_form, located, machine_of, mark_words, match_line, no_machine, records_of, spot_above, spot_fault, spot_line, spot_locators, spot_of, spot_place, style_line, with_policies}
use Rattle.config_rules.proofs.CutLaws.{both_left, both_right}
use Rattle.config_rules.proofs.Parts.{ok_is}

-- ---- faults, and what comes where there is none

-- a code, or else what follows
unless : {A B : Type 0} (P : B → Type 0) (fault : Option ℕ) (x : A) (f : A → Result B ℕ) → (fault ≡ None → IfOk (f x) P) → IfOk (option_map_or (λ code. Err code) fault (Ok x) >>= f) P
unless P (Some code) x f h = tt
unless P None x f h = h refl

there : {A : Type 0} (o : Option A) (P : A → Type 0) (d : A) → is_none o ≡ false → IfSome o P → P (unwrap_or o d)
there None P d h p = absurd (cc)
there (Some x) P d h p = p

-- ---- places of names

below_if : (b : Bool) (i n : ℕ) → nat_lt i n ≡ b → IfSome (cond b (Some i) None) (λ k. k < n)
below_if true i n h = grind (arith, nat_tests)
below_if false i n h = tt

pub position_below : {X : Type 0} (p : X → Bool) (xs : List X) → IfSome (position p xs) (λ i. i < length xs)
position_below p xs = below_if (nat_lt (position_or_len p xs) (length xs)) (position_or_len p xs) (length xs) refl

interface_if : (attrs : List Attr) (o : Option ℕ) → IfSome (option_and_then (λ a. given (is_interface attrs a) a) o) (λ a. is_interface attrs a ≡ true)
interface_if attrs None = tt
interface_if attrs (Some a) = if_given (λ a. is_interface attrs a ≡ true) (is_interface attrs a) a (λ h. h)

interface_is : (t : Tables) (name : List ℕ) → IfSome (interface_number t name) (λ a. is_interface t.attrs a ≡ true)
interface_is t name = interface_if t.attrs (position (λ a. bytes_eq a.name name) t.attrs)

-- ---- names that differ

-- one more name, which none of them is
pub differ_push : (names : List (List ℕ)) (name : List ℕ) → differ names ≡ true → list_any (λ n. bytes_eq n name) names ≡ false → differ (names ++ name ∷ []) ≡ true
differ_push [] name h new = refl
differ_push (n ∷ names) name h new =
    let other : bytes_eq n name ≡ false = or_first (bytes_eq n name) (list_any (λ m. bytes_eq m name) names) new in
    let others : list_any (λ m. bytes_eq m name) names ≡ false = or_second (bytes_eq n name) (list_any (λ m. bytes_eq m name) names) new in
    let one : is_one (names ++ name ∷ []) n ≡ is_one names n =
    list_any-append (λ w. bytes_eq n w) names (name ∷ []) ∙ ap (λ b. is_one names n || (b || false)) other ∙ or_none (is_one names n) in
    ap (λ b. not b && differ (names ++ name ∷ [])) one
    ∙ both_true (not (is_one names n)) (differ (names ++ name ∷ [])) (both_left (not (is_one names n)) (differ names) h)
    (differ_push names name (both_right (not (is_one names n)) (differ names) h) others)
  where
    or_first : (a b : Bool) → (a || b) ≡ false → a ≡ false
    or_first true b h = absurd (cc)
    or_first false b h = refl

    or_second : (a b : Bool) → (a || b) ≡ false → b ≡ false
    or_second true b h = absurd (cc)
    or_second false b h = h

    or_none : (a : Bool) → (a || (false || false)) ≡ a
    or_none true = refl
    or_none false = refl

    both_true : (a b : Bool) → a ≡ true → b ≡ true → (a && b) ≡ true
    both_true true b h k = k
    both_true false b h k = h

any_name : (spots : List Spot) (name : List ℕ) → list_any (λ n. bytes_eq n name) (map (λ s. s.name) spots) ≡ list_any (λ s. bytes_eq s.name name) spots
any_name [] name = refl
any_name (s ∷ spots) name = ap (λ b. bytes_eq s.name name || b) (any_name spots name)

names_push : (spots : List Spot) (s : Spot) → AreNames (map (λ x. x.name) spots) → is_free_name s.name ≡ true → is_some (spot_number spots s.name) ≡ false → AreNames (map (λ x. x.name) (spots ++ s ∷ []))
names_push spots s names free new =
    let none : list_any (λ n. bytes_eq n s.name) (map (λ x. x.name) spots) ≡ false = any_name spots s.name ∙ sym (position_found (λ x. bytes_eq x.name s.name) spots) ∙ new in
    let more : map (λ (x : Spot). x.name) (spots ++ s ∷ []) ≡ map (λ x. x.name) spots ++ s.name ∷ [] = map-append (λ (x : Spot). x.name) spots (s ∷ []) in
    subst AreNames (sym more) (record {
      shaped = All-push (λ n. is_free_name n ≡ true) (map (λ x. x.name) spots) s.name names.shaped free;
      different = differ_push (map (λ x. x.name) spots) s.name names.different none;
    })

-- ---- depths

-- each parent is an earlier spot
abbrev pub Earlier : List Spot → Type 0
Earlier spots = (i : ℕ) → IfSome (slice_get spots i) (λ s. IfSome s.parent (λ p. p < i))

pub depth_none : (n : ℕ) (spots : List Spot) → depth_of n spots None ≡ 1
depth_none zero spots = refl
depth_none (suc n) spots = refl

-- the spot above an earlier one is earlier still
above_below : (o : Option Spot) (x : ℕ) → IfSome o (λ s. IfSome s.parent (λ p. p < x)) → IfSome (option_and_then (λ s. s.parent) o) (λ p. p < x)
above_below None x h = tt
above_below (Some s) x h = h

shrink : (o : Option ℕ) (x n : ℕ) → x ≤ n → IfSome o (λ p. p < x) → IfSome o (λ p. p < n)
shrink None x n le h = tt
shrink (Some p) x n le h = omega arith

-- neither more steps nor more spots change a depth
depth_kept : (n m : ℕ) (spots more : List Spot) (above : Option ℕ) → Earlier spots → IfSome above (λ x. x < n) → IfSome above (λ x. x < m) → IfSome above (λ x. x < length spots)
    → depth_of n spots above ≡ depth_of m (spots ++ more) above
depth_kept n m spots more None e a b c = depth_none n spots ∙ sym (depth_none m (spots ++ more))
depth_kept zero m spots more (Some x) e a b c = absurd (omega arith)
depth_kept (suc n) zero spots more (Some x) e a b c = absurd (omega arith)
depth_kept (suc n) (suc m) spots more (Some x) e a b c =
    let up : Option ℕ = option_and_then (λ s. s.parent) (slice_get spots x) in
    let lower : IfSome up (λ p. p < x) = above_below (slice_get spots x) x (e x) in
    ap suc (depth_kept n m spots more up e (shrink up x n (omega arith) lower) (shrink up x m (omega arith) lower) (shrink up x (length spots) (omega arith) lower)
    ∙ ap (λ o. depth_of m (spots ++ more) (option_and_then (λ s. s.parent) o)) (sym (slice_get-append_front spots more x c)))

-- ---- one more spot

at_end : (k i : ℕ) (s : Spot) → IfSome s.parent (λ p. p < i) → IfSome (slice_get (s ∷ []) k) (λ x. IfSome x.parent (λ p. p < i))
at_end zero i s h = h
at_end (suc k) i s h = tt

earlier_push : (spots : List Spot) (s : Spot) → Earlier spots → IfSome s.parent (λ p. p < length spots) → Earlier (spots ++ s ∷ [])
earlier_push spots s e h i =
    let P : Option Spot → Type 0 = λ o. IfSome o (λ x. IfSome x.parent (λ p. p < i)) in
    elim (cases_lt i (length spots)) [
      | inl less ↦ subst P (sym (slice_get-append_front spots (s ∷ []) i less)) (e i)
      | inr past ↦ subst P (sym (slice_get-append_back spots (s ∷ []) i past)) (at_end (i - length spots) i s (shrink s.parent (length spots) i past h))
    ]

spot_kept : (t : Tables) (spots : List Spot) (s : Spot) → Earlier spots → (x : Spot) → FittingSpot t spots x → FittingSpot t (spots ++ s ∷ []) x
spot_kept t spots s e x f =
    let more : length (spots ++ s ∷ []) ≡ length spots + 1 = length_push spots s in
    let above : IfSome x.parent (λ p. p < length (spots ++ s ∷ [])) = shrink x.parent (length spots) (length (spots ++ s ∷ [])) (omega arith) f.above in
    record {
      above = above;
      rooted = f.rooted;
      place = f.place;
      one_value_a_locator = f.one_value_a_locator;
      depth = let same : depth_of (length spots) spots x.parent ≡ depth_of (length (spots ++ s ∷ [])) (spots ++ s ∷ []) x.parent = depth_kept (length spots) (length (spots ++ s ∷ [])) spots (s ∷ []) x.parent e f.above above f.above in omega (arith, same, f.depth);
    }

match_kept : (t : Tables) (spots : List Spot) (s : Spot) (l : MatchLine) → FittingMatch t spots l → FittingMatch t (spots ++ s ∷ []) l
match_kept t spots s l f =
    let more : length (spots ++ s ∷ []) ≡ length spots + 1 = length_push spots s in
    record {
      attach = f.attach;
      spot = shrink l.spot (length spots) (length (spots ++ s ∷ [])) (omega arith) f.spot;
      value = f.value;
    }

-- a spot that fits, with a name of its own
machine_with_spot : (t : Tables) (m : Machine) (s : Spot) → FittingMachine t m → length m.spots < 1024 → is_free_name s.name ≡ true → is_some (spot_number m.spots s.name) ≡ false → FittingSpot t m.spots s
    → FittingMachine t (record m { spots = m.spots ++ s ∷ [] })
machine_with_spot t m s f few free new fits = record {
  few_spots = let more : length (m.spots ++ s ∷ []) ≡ length m.spots + 1 = length_push m.spots s in omega (arith, more);
  spot_names = names_push m.spots s f.spot_names free new;
  earlier_parents = earlier_push m.spots s f.earlier_parents fits.above;
  spots = All-push (FittingSpot t (m.spots ++ s ∷ [])) m.spots s
      (All-weaker (FittingSpot t m.spots) (FittingSpot t (m.spots ++ s ∷ [])) (spot_kept t m.spots s f.earlier_parents) m.spots f.spots)
      (spot_kept t m.spots s f.earlier_parents s fits);
  matches = All-weaker (FittingMatch t m.spots) (FittingMatch t (m.spots ++ s ∷ [])) (match_kept t m.spots s) m.matches f.matches;
  styles = f.styles;
  one_policy_an_attachment = f.one_policy_an_attachment;
}

above_if : (b : Bool) (o : Option ℕ) (n : ℕ) → IfSome o (λ p. p < n) → IfSome (cond b None o) (λ p. p < n)
above_if true o n h = tt
above_if false o n h = h

rooted_if : (b c : Bool) (o q : Option ℕ) → (not b && is_none (cond b None o)) ≡ false → is_none (cond b (given c Root) (option_map (λ a. At a) q)) ≡ false
    → is_none (cond b None o) ≡ is_root_place (unwrap_or (cond b (given c Root) (option_map (λ a. At a) q)) Root)
rooted_if true true o q h k = refl
rooted_if true false o q h k = absurd (cc)
rooted_if false c None q h k = absurd (cc)
rooted_if false c (Some x) None h k = absurd (cc)
rooted_if false c (Some x) (Some a) h k = refl

place_if : (attrs : List Attr) (b c : Bool) (q : Option ℕ) → IfSome q (λ a. is_interface attrs a ≡ true) → is_place attrs (unwrap_or (cond b (given c Root) (option_map (λ a. At a) q)) Root) ≡ true
place_if attrs true true q h = refl
place_if attrs true false q h = refl
place_if attrs false c None h = refl
place_if attrs false c (Some a) h = h

interface_unless : (attrs : List Attr) (c : Bool) (q : Option ℕ) → IfSome q (λ a. is_interface attrs a ≡ true) → IfSome (cond c None q) (λ a. is_interface attrs a ≡ true)
interface_unless attrs true q h = tt
interface_unless attrs false q h = h

locators_are : (attrs : List Attr) (o : Option Place) → length (option_map_or (locators_at attrs) o []) ≡ length (locators_at attrs (unwrap_or o Root))
locators_are attrs None = refl
locators_are attrs (Some p) = refl

not_deep : (n : ℕ) → nat_lt 64 n ≡ false → n ≤ 64
not_deep n h = grind (arith, nat_tests)

room : (n : ℕ) → nat_le 1024 n ≡ false → n < 1024
room n h = grind (arith, nat_tests)

-- the spot of a line without a fault fits
pub spot_fits : (t : Tables) (spots : List Spot) (name parent attr : List ℕ) (found : List GivenValue) (marks : List (List ℕ)) → spot_fault t spots name parent attr found ≡ None → FittingSpot t spots (spot_of t spots name parent attr found marks)
spot_fits t spots name parent attr found marks h =
    let root : Bool = bytes_eq parent (codes "root") in
    let place : Option ℕ = cond (bytes_eq attr (codes "root")) None (interface_number t attr) in
    let after_name = (no_code (is_some (spot_number spots name)) 2 _ h).1 in
    let after_parent = (no_code (not root && is_none (spot_above spots parent)) 3 _ after_name).1 in
    let after_place = (no_code (is_none (spot_place t parent attr)) 4 _ after_parent).1 in
    let after_found = (no_first (found_fault (spot_locators t parent attr) found) _ after_place).1 in
    record {
      above = above_if root (spot_number spots parent) (length spots) (position_below (λ s. bytes_eq s.name parent) spots);
      rooted = rooted_if root (bytes_eq attr (codes "root")) (spot_number spots parent) place (no_code _ 3 _ after_name).0 (no_code _ 4 _ after_parent).0;
      place = place_if t.attrs root (bytes_eq attr (codes "root")) place (interface_unless t.attrs (bytes_eq attr (codes "root")) (interface_number t attr) (interface_is t attr));
      one_value_a_locator = length-map (spot_locators t parent attr) (found_value found) ∙ locators_are t.attrs (spot_place t parent attr);
      depth = not_deep _ (no_last _ 9 (no_code (nat_le 1024 (length spots)) 8 _ after_found).1);
    }

-- ---- lines by their forms

-- what the form of a line alone says of its words
abbrev pub HasForm : LineForm → Type 0
HasForm (SpotLine name parent attr found marks) = is_free_name name ≡ true
HasForm (MatchOf attach spot value) = IfSome value (λ v. v ≤ 65535)
HasForm (StyleOf attach attr indirect) = Unit {0}
HasForm (DriverOf attach policies) = Unit {0}

name_is_free : (name : List ℕ) (found : List GivenValue) (marks : List (List ℕ)) → is_spot name found marks ≡ true → is_free_name name ≡ true
name_is_free name found marks h =
    let names : Bool = differ (map (λ g. g.name) found) in
    let known : Bool = list_all (is_one mark_words) marks in
    both_left (is_free_name name) names (both_left (is_free_name name && names) known (both_left (is_free_name name && names && known) (differ marks) h))

spot_is : (name parent attr : List ℕ) (marks : List (List ℕ)) (o : Option (List GivenValue)) → IfSome (option_and_then (λ found. given (is_spot name found marks) (SpotLine name parent attr found marks)) o) HasForm
spot_is name parent attr marks None = tt
spot_is name parent attr marks (Some found) = if_given HasForm (is_spot name found marks) (SpotLine name parent attr found marks) (name_is_free name found marks)

spot_line_is : (words : List (List ℕ)) → IfSome (spot_line words) HasForm
spot_line_is [] = tt
spot_line_is (name ∷ []) = tt
spot_line_is (name ∷ parent ∷ []) = tt
spot_line_is (name ∷ parent ∷ attr ∷ more) = spot_is name parent attr (drop (length (located more)) more) (each located_value (located more))

small : (n : ℕ) → (nat_le 0 n && nat_le n 65535) ≡ true → n ≤ 65535
small n h = grind (arith, nat_tests)

in_range_is : (v : ℤ) → in_match_range v ≡ true → nat_abs v ≤ 65535
in_range_is (pos n) h = small n h
in_range_is (negsuc n) h = absurd (cc)

match_is : (attach : List ℕ) (spot : Option (List ℕ)) (o : Option ℤ) → IfSome (option_map (λ v. MatchOf attach spot v) (option_map (λ v. given (in_match_range v) (nat_abs v)) o)) HasForm
match_is attach spot None = tt
match_is attach spot (Some v) = if_given (λ n. n ≤ 65535) (in_match_range v) (nat_abs v) (in_range_is v)

match_line_is : (words : List (List ℕ)) → IfSome (match_line words) HasForm
match_line_is [] = tt
match_line_is (attach ∷ []) = tt
match_line_is (attach ∷ spot ∷ []) = tt
match_line_is (attach ∷ spot ∷ value ∷ []) = match_is attach (if bytes_eq spot (codes "*") then None else Some spot) (number value)
match_line_is (attach ∷ spot ∷ value ∷ word ∷ words) = tt

style_line_is : (words : List (List ℕ)) → IfSome (style_line words) HasForm
style_line_is [] = tt
style_line_is (attach ∷ []) = tt
style_line_is (attach ∷ attr ∷ []) = tt
style_line_is (attach ∷ attr ∷ style ∷ []) = if_given HasForm (is_one (codes "direct" ∷ codes "indirect" ∷ []) style) (StyleOf attach attr (bytes_eq style (codes "indirect"))) (λ h. tt)
style_line_is (attach ∷ attr ∷ style ∷ word ∷ words) = tt

driver_line_is : (words : List (List ℕ)) → IfSome (driver_line words) HasForm
driver_line_is [] = tt
driver_line_is (attach ∷ policies) = if_given HasForm _ (DriverOf attach policies) (λ h. tt)

either_form : (b : Bool) (x y : Option LineForm) → IfSome x HasForm → IfSome y HasForm → IfSome (cond b x y) HasForm
either_form true x y h k = h
either_form false x y h k = k

pub form_is : (words : List (List ℕ)) → IfSome (line_form words) HasForm
form_is [] = tt
form_is (word ∷ more) =
    either_form (bytes_eq word (codes "spot")) (spot_line more) _ (spot_line_is more)
    (either_form (bytes_eq word (codes "match")) (match_line more) _ (match_line_is more)
    (either_form (bytes_eq word (codes "style")) (style_line more) _ (style_line_is more)
    (either_form (bytes_eq word (codes "driver")) (driver_line more) None (driver_line_is more) tt)))

-- ---- one more line

spot_line_fits : (t : Tables) (m : Machine) (name parent attr : List ℕ) (found : List GivenValue) (marks : List (List ℕ)) → FittingMachine t m → is_free_name name ≡ true
    → IfOk (after_line t m (Some (SpotLine name parent attr found marks))) (FittingMachine t)
spot_line_fits t m name parent attr found marks f free =
    unless (FittingMachine t) (spot_fault t m.spots name parent attr found) (spot_of t m.spots name parent attr found marks) (λ s. Ok (record m { spots = m.spots ++ s ∷ [] })) (λ none.
    let after_name = (no_code (is_some (spot_number m.spots name)) 2 _ none).1 in
    let after_parent = (no_code (not (bytes_eq parent (codes "root")) && is_none (spot_above m.spots parent)) 3 _ after_name).1 in
    let after_place = (no_code (is_none (spot_place t parent attr)) 4 _ after_parent).1 in
    let after_found = (no_first (found_fault (spot_locators t parent attr) found) _ after_place).1 in
    machine_with_spot t m (spot_of t m.spots name parent attr found marks) f (room _ (no_code _ 8 _ after_found).0) free (no_code _ 2 _ none).0 (spot_fits t m.spots name parent attr found marks none))

matched_below : (spots : List Spot) (spot : Option (List ℕ)) → IfSome (option_and_then (spot_number spots) spot) (λ s. s < length spots)
matched_below spots None = tt
matched_below spots (Some name) = position_below (λ s. bytes_eq s.name name) spots

match_line_fits : (t : Tables) (m : Machine) (attach : List ℕ) (spot : Option (List ℕ)) (value : Option ℕ) → FittingMachine t m → IfSome value (λ v. v ≤ 65535) → IfOk (after_line t m (Some (MatchOf attach spot value))) (FittingMachine t)
match_line_fits t m attach spot value f within =
    let no_spot : Bool = option_map_or (λ name. is_none (spot_number m.spots name)) spot false in
    unless (FittingMachine t) (given (is_none (attach_number t.attaches attach)) UNKNOWN_ATTACHMENT or (given no_spot UNKNOWN_SPOT or given (is_none value) OUT_OF_RANGE))
    (record { attach = unwrap_or (attach_number t.attaches attach) 0; spot = option_and_then (spot_number m.spots) spot; value = unwrap_or value 0 })
    (λ l. Ok (record m { matches = m.matches ++ l ∷ [] })) (λ none.
    let line : MatchLine = record { attach = unwrap_or (attach_number t.attaches attach) 0; spot = option_and_then (spot_number m.spots) spot; value = unwrap_or value 0 } in
    let after_attach = (no_code (is_none (attach_number t.attaches attach)) 6 _ none).1 in
    let fits : FittingMatch t m.spots line = record {
      attach = there (attach_number t.attaches attach) (λ a. a < length t.attaches) 0 (no_code _ 6 _ none).0 (position_below (λ a. bytes_eq a.name attach) t.attaches);
      spot = matched_below m.spots spot;
      value = there value (λ v. v ≤ 65535) 0 (no_last _ 7 (no_code no_spot 3 _ after_attach).1) within;
    } in
    record {
      few_spots = f.few_spots;
      spot_names = f.spot_names;
      earlier_parents = f.earlier_parents;
      spots = f.spots;
      matches = All-push (FittingMatch t m.spots) m.matches line f.matches fits;
      styles = f.styles;
      one_policy_an_attachment = f.one_policy_an_attachment;
    })

style_line_fits : (t : Tables) (m : Machine) (attach attr : List ℕ) (indirect : Bool) → FittingMachine t m → IfOk (after_line t m (Some (StyleOf attach attr indirect))) (FittingMachine t)
style_line_fits t m attach attr indirect f =
    unless (FittingMachine t) (given (is_none (attach_number t.attaches attach)) UNKNOWN_ATTACHMENT or given (is_none (interface_number t attr)) NO_INTERFACE)
    (record { attach = unwrap_or (attach_number t.attaches attach) 0; attr = unwrap_or (interface_number t attr) 0; indirect = indirect })
    (λ l. Ok (record m { styles = m.styles ++ l ∷ [] })) (λ none.
    let line : StyleLine = record { attach = unwrap_or (attach_number t.attaches attach) 0; attr = unwrap_or (interface_number t attr) 0; indirect = indirect } in
    let fits : FittingStyle t line = record {
      attach = there (attach_number t.attaches attach) (λ a. a < length t.attaches) 0 (no_code _ 6 _ none).0 (position_below (λ a. bytes_eq a.name attach) t.attaches);
      attr = there (interface_number t attr) (λ a. is_interface t.attrs a ≡ true) 0 (no_last _ 4 (no_code (is_none (attach_number t.attaches attach)) 6 _ none).1) (interface_is t attr);
    } in
    record {
      few_spots = f.few_spots;
      spot_names = f.spot_names;
      earlier_parents = f.earlier_parents;
      spots = f.spots;
      matches = f.matches;
      styles = All-push (FittingStyle t) m.styles line f.styles fits;
      one_policy_an_attachment = f.one_policy_an_attachment;
    })

driver_line_fits : (t : Tables) (m : Machine) (words : List (List ℕ)) (o : Option ℕ) → FittingMachine t m
    → IfOk {E = ℕ} (option_map_or (λ a. Ok (map (λ e. if e.0 == a then with_policies words e.1 else e.1) (enumerate_from 0 m.policies))) o (Err UNKNOWN_ATTACHMENT) >>= λ ps. Ok (record m { policies = ps })) (FittingMachine t)
driver_line_fits t m words None f = tt
driver_line_fits t m words (Some a) f = record {
  few_spots = f.few_spots;
  spot_names = f.spot_names;
  earlier_parents = f.earlier_parents;
  spots = f.spots;
  matches = f.matches;
  styles = f.styles;
  one_policy_an_attachment = length-map (enumerate_from 0 m.policies) (λ e. if e.0 == a then with_policies words e.1 else e.1) ∙ length-enumerate_from 0 m.policies ∙ f.one_policy_an_attachment;
}

line_fits : (t : Tables) (m : Machine) (form : Option LineForm) → FittingMachine t m → IfSome form HasForm → IfOk (after_line t m form) (FittingMachine t)
line_fits t m None f h = tt
line_fits t m (Some (SpotLine name parent attr found marks)) f h = spot_line_fits t m name parent attr found marks f h
line_fits t m (Some (MatchOf attach spot value)) f h = match_line_fits t m attach spot value f h
line_fits t m (Some (StyleOf attach attr indirect)) f h = style_line_fits t m attach attr indirect f
line_fits t m (Some (DriverOf attach words)) f h = driver_line_fits t m words (attach_number t.attaches attach) f

-- ---- all lines

on : {A B : Type 0} (P : A → Type 0) (Q : B → Type 0) (n : ℕ) (r : Result A ℕ) (f : A → Result B (ℕ × ℕ)) → IfOk r P → ((x : A) → P x → IfOk (f x) Q) → IfOk (at_line n r >>= f) Q
on P Q n (Ok x) f h k = k x h
on P Q n (Err code) f h k = tt

-- after lines a machine fits as it did before
pub lines_fit : (t : Tables) (ls : List WordLine) (m : Machine) → FittingMachine t m → IfOk (after_lines t ls m) (FittingMachine t)
lines_fit t [] m f = f
lines_fit t (l ∷ ls) m f =
    on (FittingMachine t) (FittingMachine t) l.number (after_line t m (line_form l.words)) (after_lines t ls) (line_fits t m (line_form l.words) f (form_is l.words)) (lines_fit t ls)

-- a machine without spots fits
pub empty_fits : (t : Tables) → FittingMachine t (no_machine t)
empty_fits t = record {
  few_spots = omega arith;
  spot_names = record { shaped = All-nil (λ n. is_free_name n ≡ true); different = refl };
  earlier_parents = λ i. tt;
  spots = All-nil (FittingSpot t []);
  matches = All-nil (FittingMatch t []);
  styles = All-nil (FittingStyle t);
  one_policy_an_attachment = length-map t.attaches (λ a. no_policy);
}

text_fits : (t : Tables) (r : Result (List WordLine) (ℕ × ℕ)) → IfOk (r >>= λ ls. after_lines t ls (no_machine t)) (FittingMachine t)
text_fits t (Ok ls) = lines_fit t ls (no_machine t) (empty_fits t)
text_fits t (Err fault) = tt

-- the machine that a text describes fits the tables
pub machine_fits : (t : Tables) (text : List ℕ) (m : Machine) → machine_of t text ≡ Ok m → FittingMachine t m
unfolding machine_of
machine_fits t text m e = ok_is (FittingMachine t) (machine_of t text) m (text_fits t (records_of text)) e
