-- Which turn of an indirect bus a scan takes at a spot, and where a due turn is.
use Rattle.std.proofs.Common.{◌≡◌, ℕ, Bool, true, false, not, ◌&&◌, ◌||◌, ◌==◌, cond, List, [], ◌∷◌, length, map, filter, Option, Some, None, refl, sym, ap, subst, ◌∙◌, eq-eqb}
use Rattle.std.specs.List.{AllByRecursion, enumerate_from}
use Rattle.std.specs.Option.{option_map_or}
use Rattle.std.specs.Prelude.{MatchOption, slice_get}
use Rattle.std.proofs.lemmas.Bool.{eqb-true}
use Rattle.cf_types.specs.Numbers.{below}
use Rattle.cf_types.specs.declared.machine.Machine.{Machine}
use Rattle.cf_types.specs.declared.machine.Spot.{Spot}
use Rattle.cf_types.specs.declared.tables.Place.{Place}
use Rattle.run_rules.specs.declared.world.Dev.{Dev}
use Rattle.run_rules.specs.declared.world.Position.{Position}
use Rattle.run_rules.specs.declared.world.Setup.{Setup}
use Rattle.run_rules.specs.declared.world.Turn.{Turn}
use Rattle.run_rules.specs.declared.world.Wanted.{Wanted}
use Rattle.run_rules.specs.Search.{bus_turns, child_spots, due, is_before, is_child, is_due, is_indirect, is_open, same_spot, scan_places, spot_of, turns, turns_at, turns_of, winner, winner_at}
use Rattle.run_rules.specs.World.{is_number, same_place}
use Rattle.run_rules.proofs.Below.{and_both, find_below}
use Rattle.run_sound.proofs.Members.{all_flat, all_map, found_of}
use Rattle.plain_world.specs.declared.rules.Rules.{Rules}
use Rattle.plain_world.specs.declared.world.Plain.{Plain}
use Rattle.plain_search.specs.declared.turns.Bus.{Bus}
use Rattle.plain_search.specs.declared.turns.Going.{Going}
use Rattle.plain_search.specs.Buses.{IsOnlyAt, IsTurnAt, takes, takes_below, turn_on}
use Rattle.run_rules.specs.Suits.{hangs_at}

-- ---- the row that takes a spot

abbrev open_at : Rules → Plain → Going → ℕ → Bool
open_at r p g x = is_open r.machine p.live.devices p.absent p.hidden g.filter.now x

abbrev winner_of : Rules → Plain → Going → Bus → ℕ → Option ℕ
winner_of r p g b x = winner_at r p.live.devices g.serial b.place x

takes_is : (r : Rules) (p : Plain) (g : Going) (b : Bus) (x q : ℕ) → b.indirect ≡ true
    → takes r p g (turn_on b q x) ≡ (not (is_before (turn_on b q x).at g.from) && (open_at r p g x && is_number (winner_of r p g b x) q))
unfolding is_due
takes_is r p g b x q on = ap (λ (i : Bool). not (is_before (turn_on b q x).at g.from) && (open_at r p g x && (not i || is_number (winner_of r p g b x) q))) on

first_false : (a b c : Bool) → b ≡ false → (a && (b && c)) ≡ false
first_false true b c e = rw e refl
first_false false b c e = refl

last_false : (a b : Bool) → (a && (b && false)) ≡ false
last_false true true = refl
last_false true false = refl
last_false false b = refl

pub spot_shut : (r : Rules) (p : Plain) (g : Going) (b : Bus) (x : ℕ) → b.indirect ≡ true → open_at r p g x ≡ false → (q : ℕ) → takes r p g (turn_on b q x) ≡ false
spot_shut r p g b x on shut q = takes_is r p g b x q on ∙ first_false _ _ _ shut

pub spot_none : (r : Rules) (p : Plain) (g : Going) (b : Bus) (x : ℕ) → b.indirect ≡ true → winner_of r p g b x ≡ None → (q : ℕ) → takes r p g (turn_on b q x) ≡ false
spot_none r p g b x on none q = takes_is r p g b x q on ∙ ap (λ (o : Option ℕ). not (is_before (turn_on b q x).at g.from) && (open_at r p g x && is_number o q)) none ∙ last_false _ _

-- a turn that is taken is of the row that takes the spot
only_winner : (r : Rules) (p : Plain) (g : Going) (b : Bus) (x row q : ℕ) → b.indirect ≡ true → winner_of r p g b x ≡ Some row → takes r p g (turn_on b q x) ≡ true → q ≡ row
only_winner r p g b x row q on wins pass =
    let both = and_both _ _ (sym (takes_is r p g b x q on) ∙ pass) in
    let here : (row == q) ≡ true = sym (ap (λ (o : Option ℕ). is_number o q) wins) ∙ (and_both _ _ both.1).1 in
    sym (eqb-true row q here)

pub spot_passed : (r : Rules) (p : Plain) (g : Going) (b : Bus) (x row : ℕ) → b.indirect ≡ true → winner_of r p g b x ≡ Some row → is_before (turn_on b row x).at g.from ≡ true
    → (q : ℕ) → takes r p g (turn_on b q x) ≡ false
spot_passed r p g b x row on wins before q = cases (takes r p g (turn_on b q x)) refl
  where
    clash : (c : Bool) → c ≡ true → not c ≡ true → ⊥
    clash c h k = absurd cc

    cases : (c : Bool) → takes r p g (turn_on b q x) ≡ c → c ≡ false
    cases false e = refl
    cases true e =
        let same : q ≡ row = only_winner r p g b x row q on wins e in
        let after : not (is_before (turn_on b row x).at g.from) ≡ true = subst (λ i. not (is_before (turn_on b i x).at g.from) ≡ true) same (and_both _ _ e).0 in
        absurd (clash _ before after)

pub spot_only : (r : Rules) (p : Plain) (g : Going) (b : Bus) (x row : ℕ) → b.indirect ≡ true → winner_of r p g b x ≡ Some row → is_before (turn_on b row x).at g.from ≡ false
    → open_at r p g x ≡ true → IsTurnAt r p g b x (turn_on b row x)
unfolding winner
spot_only r p g b x row on wins after seen = record {
  is = refl;
  within = find_below _ (length r.tables.rows) row wins;
  taken =
      takes_is r p g b x row on ∙ ap (λ (o : Option ℕ). not (is_before (turn_on b row x).at g.from) && (open_at r p g x && is_number o row)) wins
      ∙ all_true (is_before (turn_on b row x).at g.from) (open_at r p g x) (row == row) after seen (eq-eqb row row refl);
  others = λ q pass. only_winner r p g b x row q on wins pass;
}
  where
    all_true : (a c d : Bool) → a ≡ false → c ≡ true → d ≡ true → (not a && (c && d)) ≡ true
    all_true a c d e f h = rw (e, f, h) refl

-- ---- the place of a due turn

abbrev IsAtPlace : Setup → Turn → Type 0
IsAtPlace s t = hangs_at s.machine t.at.spot t.place ≡ true

pub child_hangs : (m : Machine) (parent : Option ℕ) (place : Place) (x : ℕ) → is_child m parent place x ≡ true → hangs_at m x place ≡ true
child_hangs m parent place x h = cases (slice_get m.spots x) h
  where
    cases : (o : Option Spot) → option_map_or (λ spot. same_spot spot.parent parent && same_place spot.place place) o false ≡ true → option_map_or (λ spot. same_place spot.place place) o false ≡ true
    cases None e = absurd cc
    cases (Some spot) e = (and_both (same_spot spot.parent parent) (same_place spot.place place) e).1

passing : {A : Type 0} (P : A → Type 0) (c : A → Bool) (xs : List A) → ((x : A) → c x ≡ true → P x) → AllByRecursion P (filter c xs)
passing P c [] h = tt
passing {A} P c (x ∷ xs) h = cases (passing P c xs h) (c x) refl
  where
    cases : AllByRecursion P (filter c xs) → (b : Bool) → c x ≡ b → AllByRecursion P (cond b (x ∷ filter c xs) (filter c xs))
    cases rest true e = (h x e, rest)
    cases rest false e = rest

children_hang : (m : Machine) (parent : Option ℕ) (place : Place) → AllByRecursion (λ x. hangs_at m x place ≡ true) (child_spots m parent place)
unfolding child_spots
children_hang m parent place = passing (λ x. hangs_at m x place ≡ true) (is_child m parent place) (below (length m.spots)) (child_hangs m parent place)

bus_hangs : (s : Setup) (rows : ℕ) (indirect : Bool) (spot : Option ℕ) (e : ℕ × Place) → AllByRecursion (IsAtPlace s) (bus_turns s.machine rows indirect spot e)
unfolding bus_turns
bus_hangs s rows false spot e =
    all_map (IsAtPlace s) (λ x. hangs_at s.machine x e.1 ≡ true) (λ x. record { at = record { attr = e.0; row = 0; spot = x }; place = e.1; indirect = false }) (child_spots s.machine spot e.1) (λ x h. h)
    (children_hang s.machine spot e.1)
bus_hangs s rows true spot e =
    all_flat (IsAtPlace s) (λ r. map (λ x. record { at = record { attr = e.0; row = r; spot = x }; place = e.1; indirect = true }) (child_spots s.machine spot e.1)) (below rows)
    (λ r. all_map (IsAtPlace s) (λ x. hangs_at s.machine x e.1 ≡ true) (λ x. record { at = record { attr = e.0; row = r; spot = x }; place = e.1; indirect = true }) (child_spots s.machine spot e.1) (λ x h. h)
    (children_hang s.machine spot e.1))

turns_hang : (s : Setup) (live : List Dev) (p : ℕ) (only : Option ℕ) → AllByRecursion (IsAtPlace s) (turns s live p only)
unfolding turns_of
turns_hang s live p only =
    all_flat (IsAtPlace s) (turns_at s live p) (enumerate_from 0 (scan_places s live p only)) (λ e. bus_hangs s (length s.tables.rows) (is_indirect s live p e.1) (spot_of live p) e)

pub due_hangs : (s : Setup) (live : List Dev) (absent hidden : List ℕ) (p : ℕ) (only : Option ℕ) (wanted : List Wanted) (from : Position) (t : Turn)
    → due s live absent hidden p only wanted from ≡ Some t → hangs_at s.machine t.at.spot t.place ≡ true
unfolding due
due_hangs s live absent hidden p only wanted from t e =
    found_of (IsAtPlace s) (λ t. not (is_before t.at from) && is_due s live absent hidden p wanted t) (turns s live p only) t (turns_hang s live p only) e

-- ---- below a parent at the place of the bus

pub only_below : (r : Rules) (p : Plain) (g : Going) (parent : Option ℕ) (b : Bus) (x : ℕ) (o : Option Turn) → is_child r.machine parent b.place x ≡ true
    → MatchOption o ((q : ℕ) → takes r p g (turn_on b q x) ≡ false) (IsTurnAt r p g b x) → IsOnlyAt (takes_below r p g parent b) (turn_on b) (length r.tables.rows) x o
only_below r p g parent b x None child none = λ q. ap (λ (c : Bool). c && takes r p g (turn_on b q x)) child ∙ none q
only_below r p g parent b x (Some t) child at = record {
  is = at.is;
  within = at.within;
  passes = ap (λ (c : Bool). c && takes r p g (turn_on b t.at.row x)) child ∙ at.taken;
  others = λ q pass. at.others q (sym (ap (λ (c : Bool). c && takes r p g (turn_on b q x)) child) ∙ pass);
}
