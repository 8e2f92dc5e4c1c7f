-- What is still to come of a spot to which no turn of the boot came so far, and how a device that comes leaves it.
use Rattle.std.proofs.Common.{◌≡◌, ◌≢◌, ℕ, Bool, true, false, ◌&&◌, ◌==◌, List, [], ◌∷◌, ◌++◌, Option, Some, None, refl, sym, ◌∙◌, slice_get, eqb-true, eq-eqb}
use Rattle.std.specs.Option.{option_map_or}
use Rattle.std.proofs.lemmas.Bool.{ne_eqb}
use Rattle.std.proofs.lemmas.List.Folds.{list_any-append}
use Rattle.cf_types.specs.declared.machine.Spot.{Spot}
use Rattle.cf_types.specs.declared.tables.Place.{Place}
use Rattle.cf_types.specs.declared.tables.Place.TheVariants.{Root, At}
use Rattle.run_rules.specs.declared.world.Arrival.{Arrival}
use Rattle.run_rules.specs.declared.world.Dev.{Dev}
use Rattle.run_rules.specs.declared.world.Position.{Position}
use Rattle.run_rules.specs.declared.world.Setup.{Setup}
use Rattle.run_rules.specs.declared.world.Turn.{Turn}
use Rattle.run_rules.specs.After.{new_device}
use Rattle.run_rules.specs.Next.{hangs_below, has_nothing, offers_place}
use Rattle.run_rules.specs.Search.{is_occupied, is_open}
use Rattle.run_rules.specs.World.{World, device_at, is_number, offered_by, start}
use Rattle.run_rules.proofs.Below.{and_both}
use Rattle.run_sound.proofs.Callers.{clash}
use Rattle.run_sound.proofs.Comings.{Comes}
use Rattle.boot_laws.proofs.Candidates.{device_more}
use Rattle.boot_laws.proofs.Watched.{AddsScan, IsBareThen, IsOldTurn, IsToCome, IsTurnOf, bare_then, new_found, new_turn, old_turn}
use Rattle.boot_looks.specs.Looks.{is_on_bus, is_on_row_bus, is_passed}

-- ---- what is to come

-- a search below p is to come, whole or from some turn on
abbrev pub IsScanned : World → ℕ → Type 0
IsScanned w p = (t : Turn) × IsToCome w p t

-- the spot is free; its turn on each bus that is searched spot by spot is to come, and so is the end of each search row by row that would pass it
pub record IsAwaited (w : World) (x : ℕ) : Type 0 where
  pub free : is_occupied w.live x ≡ false
  pub turns : (p : ℕ) (t : Turn) → IsTurnOf w p t → t.at.spot ≡ x → t.indirect ≡ false → IsToCome w p t
  pub ends : (p : ℕ) → is_passed w p x ≡ true → IsScanned w p

abbrev pub some_turn : Position → Turn
some_turn at = record { at = at; place = Root; indirect = false }

-- ---- a search that would pass the spot

pub record IsPassing (s : Setup) (live : List Dev) (absent hidden : List ℕ) (p x : ℕ) : Type 0 where
  pub device : Dev
  pub found : device_at live p ≡ Some device
  pub on : is_on_row_bus s device x ≡ true
  pub bare : is_open s.machine live absent hidden [] x ≡ true

pub passing : (w : World) (p x : ℕ) → is_passed w p x ≡ true → IsPassing w.setup w.live w.absent w.hidden p x
passing w p x h = cases (device_at w.live p) refl h
  where
    cases : (o : Option Dev) → device_at w.live p ≡ o → option_map_or (λ d. is_on_row_bus w.setup d x && is_open w.setup.machine w.live w.absent w.hidden [] x) o false ≡ true
        → IsPassing w.setup w.live w.absent w.hidden p x
    cases None e k = absurd cc
    cases (Some d) e k =
        let both = and_both (is_on_row_bus w.setup d x) (is_open w.setup.machine w.live w.absent w.hidden [] x) k in
        record { device = d; found = e; on = both.0; bare = both.1 }

pub passed : (w : World) (p x : ℕ) → IsPassing w.setup w.live w.absent w.hidden p x → is_passed w p x ≡ true
passed w p x is = rw (is.found, is.on, is.bare) refl

-- ---- where nothing but frames, queues and the boot's list changes

pub record SameSpots (w v : World) : Type 0 where
  pub setup : v.setup ≡ w.setup
  pub live : v.live ≡ w.live
  pub absent : v.absent ≡ w.absent
  pub hidden : v.hidden ≡ w.hidden

pub turn_before : (w v : World) (p : ℕ) (t : Turn) → SameSpots w v → IsTurnOf v p t → IsTurnOf w p t
turn_before w v p t same at = record {
  known = rw same.live at at.known;
  among = rw (same.setup, same.live) at at.among;
  bare = rw (same.setup, same.live, same.absent, same.hidden) at at.bare;
}

pub passing_before : (w v : World) (p x : ℕ) → SameSpots w v → is_passed v p x ≡ true → is_passed w p x ≡ true
passing_before w v p x same h = passed w p x (rw (same.setup, same.live, same.absent, same.hidden) at (passing v p x h))

-- the frames and queues change, and no search that was to come is lost
pub restacked_awaited : (w v : World) (x : ℕ) → SameSpots w v → ((p : ℕ) (t : Turn) → IsToCome w p t → IsToCome v p t) → IsAwaited w x → IsAwaited v x
restacked_awaited w v x same keeps so = record {
  free = rw same.live so.free;
  turns = λ p t at is direct. keeps p t (so.turns p t (turn_before w v p t same at) is direct);
  ends = λ p h. let scan : IsScanned w p = so.ends p (passing_before w v p x same h) in (scan.0, keeps p scan.0 scan.1);
}

-- ---- a device comes

something : (offered : List ℕ) (place : Place) → offers_place offered place ≡ true → has_nothing offered ≡ false
something [] Root h = absurd cc
something [] (At a) h = absurd cc
something (y ∷ ys) place h = refl

-- a device below which a spot hangs offers something
offers_some : (s : Setup) (d : Dev) (x : ℕ) → is_on_bus s d x ≡ true → has_nothing (offered_by s d.row) ≡ false
offers_some s d x h = cases (slice_get s.machine.spots x) h
  where
    cases : (o : Option Spot) → option_map_or (hangs_below s d) o false ≡ true → has_nothing (offered_by s d.row) ≡ false
    cases None k = absurd cc
    cases (Some spot) k = something (offered_by s d.row) spot.place (and_both (is_number spot.parent d.spot) (offers_place (offered_by s d.row) spot.place) k).1

still_free : (live : List Dev) (d : Dev) (x : ℕ) → d.spot ≢ x → is_occupied live x ≡ false → is_occupied (live ++ d ∷ []) x ≡ false
still_free live d x other free = rw (list_any-append (λ (e : Dev). e.spot == x) live (d ∷ []), free, ne_eqb d.spot x other) refl

-- a device that comes to another spot leaves a search that would pass this one as it was, or is the one that searches
pub come_awaited : (u v : World) (a : Arrival) (x : ℕ) → Comes u v a → AddsScan u v u.next (has_nothing (offered_by u.setup a.row)) → device_at u.live u.next ≡ None → a.spot ≢ x
    → IsAwaited u x → IsAwaited v x
come_awaited u v a x is adds fresh apart so = record {
  free = rw is.live (still_free u.live d x apart so.free);
  turns = λ p t at same direct. turn p t at same direct (p == u.next) refl;
  ends = λ p h. end p (rw (is.setup, is.live, is.absent, is.hidden) at (passing v p x h)) (p == u.next) refl;
}
  where
    d : Dev
    d = new_device u a

    differs : (p : ℕ) → (p == u.next) ≡ false → p ≢ u.next
    differs p e same = clash (p == u.next) (eq-eqb p u.next same) e

    turn : (p : ℕ) (t : Turn) → IsTurnOf v p t → t.at.spot ≡ x → t.indirect ≡ false → (b : Bool) → (p == u.next) ≡ b → IsToCome v p t
    turn p t at same direct true e = new_turn u v a p t is adds fresh (eqb-true p u.next e) at
    turn p t at same direct false e =
        let old : IsOldTurn u a p t = old_turn u v a p t is (differs p e) at in
        adds.keeps p t (so.turns p t old.before same direct)

    end : (p : ℕ) → IsPassing u.setup (u.live ++ d ∷ []) u.absent u.hidden p x → (b : Bool) → (p == u.next) ≡ b → IsScanned v p
    end p h true e =
        let same : p ≡ u.next = eqb-true p u.next e in
        let found : device_at (u.live ++ d ∷ []) p ≡ Some d = new_found u.live d p (rw same fresh) same in
        let one : h.device ≡ d = one_of h.device d (sym h.found ∙ found) in
        let on : is_on_row_bus u.setup d x ≡ true = rw one at h.on in
        let some : has_nothing (offered_by u.setup a.row) ≡ false = offers_some u.setup d x (and_both (is_on_bus u.setup d x) _ on).0 in
        (some_turn start, rw same (adds.new some (some_turn start)))
      where
        one_of : (y z : Dev) → Some y ≡ Some z → y ≡ z
        one_of y z e = cc
    end p h false e =
        let bare : IsBareThen u.setup.machine u.live u.absent u.hidden d x = bare_then u.setup.machine u.live u.absent u.hidden d x h.bare in
        let before : IsPassing u.setup u.live u.absent u.hidden p x = record { device = h.device; found = sym (device_more u.live d p (differs p e)) ∙ h.found; on = h.on; bare = bare.before } in
        let scan : IsScanned u p = so.ends p (passed u p x before) in
        (scan.0, adds.keeps p scan.0 scan.1)
