-- Devices change their marks alone: they stand where they stood.
use Rattle.std.proofs.Common.{◌≡◌, ℕ, zero, suc, Bool, true, false, ◌==◌, cond, List, [], ◌∷◌, length, map, Some, refl, ap, ◌∙◌}
use Rattle.std.specs.Prelude.{if◌then◌else◌}
use Rattle.std.specs.Option.{option_map_or}
use Rattle.std.proofs.lemmas.List.{length-map}
use Rattle.run_rules.specs.declared.world.Setup.{Setup}
use Rattle.run_rules.specs.declared.world.Dev.{Dev}
use Rattle.run_rules.specs.World.{device_at, is_live, parent_of, lineage, is_under}
use Rattle.run_rules.specs.After.{with_sleep, with_condemner}
use Rattle.run_rules.specs.Sound.{EachLater, IsApart, IsPlaced, HasSoundDevices}
use Rattle.run_rules.proofs.Devices.{all_imp}
use Rattle.run_sound.proofs.RangesOf.{KeepsPlace}
use Rattle.run_sound.proofs.RangesDeeds.{sleep_keeps, condemner_keeps}
use Rattle.run_sound.proofs.Members.{each_mapped}

-- serial, parent, row, unit and spot stay
pub record KeepsTree (f : Dev → Dev) : Type 0 where
  pub serial : (d : Dev) → (f d).serial ≡ d.serial
  pub parent : (d : Dev) → (f d).parent ≡ d.parent
  pub place : KeepsPlace f

pub sleep_keeps_tree : (s : ℕ) (asleep : Bool) → KeepsTree (with_sleep s asleep)
sleep_keeps_tree s asleep = record { serial = λ d. at (d.serial == s) d; parent = λ d. parent_at (d.serial == s) d; place = sleep_keeps s asleep }
  where
    at : (b : Bool) (d : Dev) → (if b then record d { asleep = asleep } else d).serial ≡ d.serial
    at true d = refl
    at false d = refl

    parent_at : (b : Bool) (d : Dev) → (if b then record d { asleep = asleep } else d).parent ≡ d.parent
    parent_at true d = refl
    parent_at false d = refl

pub condemner_keeps_tree : (live : List Dev) (k s : ℕ) → KeepsTree (with_condemner live k s)
condemner_keeps_tree live k s = record { serial = λ d. at (is_under live s d.serial) d; parent = λ d. parent_at (is_under live s d.serial) d; place = condemner_keeps live k s }
  where
    at : (b : Bool) (d : Dev) → (if b then record d { condemned = Some k } else d).serial ≡ d.serial
    at true d = refl
    at false d = refl

    parent_at : (b : Bool) (d : Dev) → (if b then record d { condemned = Some k } else d).parent ≡ d.parent
    parent_at true d = refl
    parent_at false d = refl

-- ---- who is live, and below whom

pub live_mapped : (f : Dev → Dev) (live : List Dev) (s : ℕ) → KeepsTree f → is_live (map f live) s ≡ is_live live s
live_mapped f [] s k = refl
live_mapped f (d ∷ ds) s k = rw (k.serial d, live_mapped f ds s k) refl

parent_mapped : (f : Dev → Dev) (live : List Dev) (s : ℕ) → KeepsTree f → parent_of (map f live) s ≡ parent_of live s
parent_mapped f [] s k = refl
parent_mapped f (d ∷ ds) s k = cases (d.serial == s) ((f d).serial == s) (ap (λ (n : ℕ). n == s) (k.serial d)) (parent_mapped f ds s k)
  where
    cases : (a b : Bool) → b ≡ a → parent_of (map f ds) s ≡ parent_of ds s
        → option_map_or (λ e. e.parent) (cond b (Some (f d)) (device_at (map f ds) s)) 0 ≡ option_map_or (λ e. e.parent) (cond a (Some d) (device_at ds s)) 0
    cases true true same rest = k.parent d
    cases true false same rest = absurd cc
    cases false true same rest = absurd cc
    cases false false same rest = rest

chain_mapped : (f : Dev → Dev) (live : List Dev) (n s : ℕ) → KeepsTree f → lineage n (map f live) s ≡ lineage n live s
unfolding lineage
chain_mapped f live zero s k = refl
chain_mapped f live (suc n) s k = ap (λ (xs : List ℕ). s ∷ xs) (ap (lineage n (map f live)) (parent_mapped f live s k) ∙ chain_mapped f live n (parent_of live s) k)

pub under_mapped : (f : Dev → Dev) (live : List Dev) (s x : ℕ) → KeepsTree f → is_under (map f live) s x ≡ is_under live s x
unfolding is_under
under_mapped f live s x k = rw (length-map live f, chain_mapped f live (length live) x k) refl

-- ---- they stay sound

apart_mapped : (s : Setup) (f : Dev → Dev) (live : List Dev) → KeepsTree f → EachLater (IsApart s) live → EachLater (IsApart s) (map f live)
apart_mapped s f [] k h = tt
apart_mapped s f (d ∷ ds) k h = (
  each_mapped (IsApart s (f d)) f ds (all_imp (IsApart s d) (λ e. IsApart s (f d) (f e)) (λ e p. record {
    later = rw (k.serial d, k.serial e) p.later;
    names = rw (k.place.row d, k.place.row e, k.place.unit d, k.place.unit e) p.names;
    spots = rw (k.place.spot d, k.place.spot e) p.spots;
  }) ds h.0),
  apart_mapped s f ds k h.1,
)

pub devices_mapped : (s : Setup) (f : Dev → Dev) (live : List Dev) (next : ℕ) → KeepsTree f → HasSoundDevices s live next → HasSoundDevices s (map f live) next
devices_mapped s f live next k h = record {
  placed = each_mapped (IsPlaced (map f live) next) f live (all_imp (IsPlaced live next) (λ d. IsPlaced (map f live) next (f d)) (λ d p. record {
    below_next = rw (k.serial d) p.below_next;
    after_parent = rw (k.serial d, k.parent d) p.after_parent;
    parent_live = rw (k.parent d, live_mapped f live d.parent k) p.parent_live;
  }) live h.placed);
  apart = apart_mapped s f live k h.apart;
}
