-- Rows, units and spots of live devices stay in their ranges: when a device comes, when devices go, and when they change.
use Rattle.std.proofs.Common.{◌≡◌, ◌<◌, ℕ, ◌^◌, Bool, true, false, ◌==◌, cond, List, [], ◌∷◌, ◌++◌, map, length, refl, arith, ◌∙◌, length-append}
use Rattle.std.specs.Prelude.{filter}
use Rattle.std.specs.List.{AllByRecursion}
use Rattle.std.proofs.lemmas.List.{length-map}
use Rattle.std.proofs.lemmas.List.Folds.{list_any-append}
use Rattle.run_rules.specs.declared.world.Setup.{Setup}
use Rattle.run_rules.specs.declared.world.Dev.{Dev}
use Rattle.run_rules.specs.World.{has}
use Rattle.run_rules.specs.Search.{is_occupied}
use Rattle.run_rules.proofs.Devices.{all_imp, all_snoc, or_false}
use Rattle.run_sound.specs.Kept.{AreRanged}
use Rattle.run_sound.specs.Left.{free_spots}
use Rattle.run_sound.proofs.Members.{all_map}
use Rattle.run_sound.proofs.Callers.{all_filter}
use Rattle.run_sound.proofs.Spots.{few_filter, free_falls, free_map, other_way, same_occupied}

-- a device that may come: its row, unit and spot are in their ranges, and the spot is free and not hidden
pub record FitsIn (s : Setup) (live : List Dev) (hidden : List ℕ) (d : Dev) : Type 0 where
  pub row : d.row < length s.tables.rows
  pub unit : d.unit < 2 ^ 32
  pub spot : d.spot < length s.machine.spots
  pub free : is_occupied live d.spot ≡ false
  pub seen : has hidden d.spot ≡ false

-- ---- a device comes

still_bare : (live : List Dev) (d : Dev) (x : ℕ) → is_occupied live x ≡ false → (d.spot == x) ≡ false → is_occupied (live ++ d ∷ []) x ≡ false
still_bare live d x h other = rw (list_any-append (λ e. e.spot == x) live (d ∷ []), h, other) refl

bare_more : (live : List Dev) (d : Dev) (hidden : List ℕ) → has hidden d.spot ≡ false → AllByRecursion (λ x. is_occupied live x ≡ false) hidden
    → AllByRecursion (λ x. is_occupied (live ++ d ∷ []) x ≡ false) hidden
bare_more live d [] h all = tt
bare_more live d (x ∷ xs) h all =
    let parts = or_false (x == d.spot) (has xs d.spot) h in
    (still_bare live d x all.0 (other_way x d.spot parts.0), bare_more live d xs parts.1 all.1)

pub ranged_come : (s : Setup) (live : List Dev) (hidden : List ℕ) (d : Dev) → FitsIn s live hidden d → AreRanged s live hidden → AreRanged s (live ++ d ∷ []) hidden
ranged_come s live hidden d fits r =
    let n : ℕ = length s.machine.spots in
    let fewer : free_spots (live ++ d ∷ []) n < free_spots live n = free_falls live d n fits.spot fits.free in
    record {
      rows = all_snoc (λ (e : Dev). e.row < length s.tables.rows) live d r.rows fits.row;
      units = all_snoc (λ (e : Dev). e.unit < 2 ^ 32) live d r.units fits.unit;
      spots = all_snoc (λ (e : Dev). e.spot < length s.machine.spots) live d r.spots fits.spot;
      bare = bare_more live d hidden fits.seen r.bare;
      few = omega (arith, r.few, length-append live (d ∷ []), fewer);
    }

-- ---- devices go

less_occupied : (p : Dev → Bool) (live : List Dev) (x : ℕ) → is_occupied live x ≡ false → is_occupied (filter p live) x ≡ false
less_occupied p [] x h = refl
less_occupied p (d ∷ ds) x h =
    let parts = or_false (d.spot == x) (is_occupied ds x) h in
    let rest : is_occupied (filter p ds) x ≡ false = less_occupied p ds x parts.1 in
    elim (p d) as (λ b. is_occupied (cond b (d ∷ filter p ds) (filter p ds)) x ≡ false) [ true ↦ rw (parts.0, rest) refl | false ↦ rest ]

pub ranged_less : (s : Setup) (p : Dev → Bool) (live : List Dev) (hidden : List ℕ) → AreRanged s live hidden → AreRanged s (filter p live) hidden
ranged_less s p live hidden r = record {
  rows = all_filter (λ (e : Dev). e.row < length s.tables.rows) p live r.rows;
  units = all_filter (λ (e : Dev). e.unit < 2 ^ 32) p live r.units;
  spots = all_filter (λ (e : Dev). e.spot < length s.machine.spots) p live r.spots;
  bare = all_imp (λ x. is_occupied live x ≡ false) (λ x. is_occupied (filter p live) x ≡ false) (λ x h. less_occupied p live x h) hidden r.bare;
  few = omega (arith, r.few, few_filter p live (length s.machine.spots));
}

-- ---- devices change, but not in row, unit and spot

pub record KeepsPlace (f : Dev → Dev) : Type 0 where
  pub row : (d : Dev) → (f d).row ≡ d.row
  pub unit : (d : Dev) → (f d).unit ≡ d.unit
  pub spot : (d : Dev) → (f d).spot ≡ d.spot

pub ranged_map : (s : Setup) (f : Dev → Dev) (live : List Dev) (hidden : List ℕ) → KeepsPlace f → AreRanged s live hidden → AreRanged s (map f live) hidden
ranged_map s f live hidden k r = record {
  rows = all_map (λ (e : Dev). e.row < length s.tables.rows) (λ (e : Dev). e.row < length s.tables.rows) f live (λ d h. rw (k.row d) h) r.rows;
  units = all_map (λ (e : Dev). e.unit < 2 ^ 32) (λ (e : Dev). e.unit < 2 ^ 32) f live (λ d h. rw (k.unit d) h) r.units;
  spots = all_map (λ (e : Dev). e.spot < length s.machine.spots) (λ (e : Dev). e.spot < length s.machine.spots) f live (λ d h. rw (k.spot d) h) r.spots;
  bare = all_imp (λ x. is_occupied live x ≡ false) (λ x. is_occupied (map f live) x ≡ false) (λ x h. same_occupied f live x k.spot ∙ h) hidden r.bare;
  few = omega (arith, r.few, length-map live f, free_map f live (length s.machine.spots) k.spot);
}

-- ---- fewer spots are hidden

pub ranged_seen : (s : Setup) (live : List Dev) (q : ℕ → Bool) (hidden : List ℕ) → AreRanged s live hidden → AreRanged s live (filter q hidden)
ranged_seen s live q hidden r = record {
  rows = r.rows;
  units = r.units;
  spots = r.spots;
  bare = all_filter (λ x. is_occupied live x ≡ false) q hidden r.bare;
  few = r.few;
}
