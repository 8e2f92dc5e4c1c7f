-- Where no bus is indirect, or no row has one unit alone, a boot leaves no hardware that some row would take.
use Rattle.std.proofs.Common.{◌≡◌, ◌⊎◌, subst, ℕ, zero, suc, true, false, ◌&&◌, ◌==◌, List, [], ◌∷◌, find, reverse, Option, Some, None, refl, inl, inr, slice_get}
use Rattle.std.specs.List.{AllByRecursion}
use Rattle.std.specs.Option.{option_map_or}
use Rattle.std.proofs.lemmas.Option.{same_Some}
use Rattle.cf_types.specs.declared.tables.Row.{Row}
use Rattle.cf_types.specs.declared.tables.Place.{Place}
use Rattle.cf_types.specs.declared.tables.Place.TheVariants.{Root, At}
use Rattle.cf_types.specs.declared.machine.Machine.{Machine}
use Rattle.cf_types.specs.declared.machine.StyleLine.{StyleLine}
use Rattle.run_rules.specs.declared.event.Event.{Event}
use Rattle.run_rules.specs.declared.world.Dev.{Dev}
use Rattle.run_rules.specs.declared.world.Setup.{Setup}
use Rattle.run_rules.specs.World.{World, has, opening}
use Rattle.run_rules.specs.Next.{arrival, place_of_spot}
use Rattle.run_rules.specs.Run.{Boot}
use Rattle.run_rules.specs.Search.{attach_at, is_indirect, is_occupied, is_open, parent_ref, is_bus_indirect, winner_at}
use Rattle.run_sound.specs.Kept.{MayRun}
use Rattle.run_sound.proofs.Callers.{clash}
use Rattle.run_sound.proofs.Candidates.{no_candidate}
use Rattle.run_sound.proofs.Members.{all_reversed, found_of}
use Rattle.boot_laws.specs.Settled.{HasDirectBuses, HasStarredRows, IsBare, IsPassedOver, IsSearched, IsUnwanted}
use Rattle.boot_laws.proofs.Boots.{boot_settles}

direct_bus : (m : Machine) (attach : Option ℕ) (place : Place) → AllByRecursion (λ line. line.indirect ≡ false) m.styles → is_bus_indirect m attach place ≡ false
unfolding is_bus_indirect
direct_bus m attach Root h = refl
direct_bus m None (At a) h = refl
direct_bus m (Some attach) (At a) h = cases (find (λ line. line.attach == attach && line.attr == a) (reverse m.styles)) refl
  where
    cases : (o : Option StyleLine) → find (λ line. line.attach == attach && line.attr == a) (reverse m.styles) ≡ o → option_map_or (λ line. line.indirect) o false ≡ false
    cases None e = refl
    cases (Some line) e =
        found_of (λ (line : StyleLine). line.indirect ≡ false) (λ line. line.attach == attach && line.attr == a) (reverse m.styles) line (all_reversed (λ (line : StyleLine). line.indirect ≡ false) m.styles h) e

pub open_so : (w : World) (x : ℕ) → has w.absent x ≡ false → has w.hidden x ≡ false → is_occupied w.live x ≡ false → is_open w.setup.machine w.live w.absent w.hidden [] x ≡ true
unfolding is_open
open_so w x present seen free = rw (present, seen, free) refl

none_comes : (s : Setup) (live : List Dev) (p : ℕ) (place : Place) (x : ℕ) → winner_at s live p place x ≡ None → arrival s live p place x ≡ None
unfolding arrival
none_comes s live p place x none = rw none refl

got_all : {A : Type 0} (P : A → Type 0) (xs : List A) (i : ℕ) (x : A) → AllByRecursion P xs → slice_get xs i ≡ Some x → P x
got_all P [] i x h e = absurd cc
got_all P (y ∷ xs) zero x h e = subst P (same_Some y x e) h.0
got_all P (y ∷ xs) (suc i) x h e = got_all P xs i x h.1 e

never_over : (w : World) (p : ℕ) (place : Place) (x : ℕ) → HasDirectBuses w.setup ⊎ HasStarredRows w.setup → IsPassedOver w p place x → ⊥
never_over w p place x (inl direct) over = clash (is_indirect w.setup w.live p place) over.indirect (direct_bus w.setup.machine (attach_at w.setup w.live p) place direct)
never_over w p place x (inr starred) over = clash over.row.star (got_all (λ (row : Row). row.star ≡ true) w.setup.tables.rows over.number over.row starred over.there) over.alone

pub leaves_unwanted : (s : Setup) (h : List Event) (v : World) → MayRun s → Boot (opening s) h v → HasDirectBuses v.setup ⊎ HasStarredRows v.setup → (p x : ℕ) → IsBare v p x → IsUnwanted v p x
leaves_unwanted s h v may boot all p x bare =
    let place : Place = place_of_spot v x in
    let searched : IsSearched v p place x = record { known = bare.known; offered = bare.offered; child = bare.hangs } in
    let none : winner_at v.setup v.live p place x ≡ None =
    elim (boot_settles s h v may boot p place x searched (open_so v x bare.present bare.seen bare.free)) [
      | inl no_row ↦ no_row
      | inr over ↦ absurd (never_over v p place x all over)
    ] in
    record { none_comes = none_comes v.setup v.live p place x none; no_row = no_candidate v.setup v.live (parent_ref v.setup v.live p) place x none }
