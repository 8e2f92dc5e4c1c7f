-- What a boot has still to come to: each spot that some row would take.
use Rattle.std.proofs.Common.{◌≡◌, ◌≢◌, ◌⊎◌, ◌<◌, ℕ, Bool, true, false, not, ◌&&◌, ◌||◌, ◌==◌, nat_lt, cond, List, [], ◌∷◌, ◌++◌, map, length, Option, Some, None, refl, sym, ap, ◌∙◌, inl, inr, arith, eqb-true, eq-eqb}
use Rattle.std.specs.Prelude.{IsTrue, filter, if◌then◌else◌}
use Rattle.std.specs.Option.{option_or}
use Rattle.std.proofs.lemmas.Bool.{ne_eqb}
use Rattle.std.proofs.lemmas.Bool.Decides.{nat_tests}
use Rattle.std.proofs.lemmas.List.Folds.{find-append, list_any-append}
use Rattle.cf_types.specs.declared.machine.Machine.{Machine}
use Rattle.cf_types.specs.declared.machine.Policy.{Policy}
use Rattle.run_rules.specs.declared.world.Arrival.{Arrival}
use Rattle.run_rules.specs.declared.world.Deferred.{Deferred}
use Rattle.run_rules.specs.declared.world.Dev.{Dev}
use Rattle.run_rules.specs.declared.world.Frame.{Frame}
use Rattle.run_rules.specs.declared.world.Frame.TheVariants.{Scan, Finaliser}
use Rattle.run_rules.specs.declared.world.Key.{Key}
use Rattle.run_rules.specs.declared.world.Key.TheVariants as key
use Rattle.run_rules.specs.declared.world.Placing.{Placing}
use Rattle.run_rules.specs.declared.world.Placing.TheVariants.{Nowhere, Queued, PutOff, Pushed}
use Rattle.run_rules.specs.declared.world.Setup.{Setup}
use Rattle.run_rules.specs.declared.world.Turn.{Turn}
use Rattle.run_rules.specs.World.{World, caller_at, device_at, has, has_ended, is_live, offered_by, policy_of, scan_of, start}
use Rattle.run_rules.specs.Search.{found_at, is_before, is_occupied, is_open, parent_ref, passes_filter, places_of, turns, turns_of, winner, winner_at}
use Rattle.run_rules.specs.Next.{has_nothing}
use Rattle.run_rules.specs.After.{attached, finaliser_placed, finaliser_placing, listed, new_device, place_finaliser, place_scan, pushed, released, same_key, scan_placed, scan_placing}
use Rattle.run_rules.specs.Sound.{is_known}
use Rattle.run_sound.proofs.Callers.{clash}
use Rattle.run_sound.proofs.Comings.{Comes, finaliser_places}
use Rattle.run_sound.proofs.Falls.{begun, left_off, stack_is}
use Rattle.boot_laws.proofs.Candidates.{device_more, no_new_winner, won_before}
use Rattle.boot_laws.proofs.Scans.{Among}

-- ---- what is still to come

-- a whole scan of p that is not past the turn
abbrev pub Covers : ℕ → Turn → Frame → Type 0
Covers p t (Scan s only wanted from) = (s ≡ p) × (only ≡ None) × (wanted ≡ []) × (is_before t.at from ≡ false)
Covers p t (Finaliser s) = ⊥

abbrev pub AnyIn : {A : Type 0} → (A → Type 0) → List A → Type 0
AnyIn P [] = ⊥
AnyIn P (x ∷ xs) = P x ⊎ AnyIn P xs

-- a frame of caller 0 scans p and is not past the turn, or the scan of p was put off
abbrev pub IsToCome : World → ℕ → Turn → Type 0
IsToCome w p t = AnyIn (Covers p t) (caller_at w 0).stack ⊎ AnyIn (λ (e : Deferred). e.child ≡ p) w.deferred

-- a turn below the root or a live device, whose spot is present, seen and free
pub record IsTurnOf (w : World) (p : ℕ) (t : Turn) : Type 0 where
  pub known : IsTrue (is_known w p)
  pub among : Among t (turns w.setup w.live p None)
  pub bare : is_open w.setup.machine w.live w.absent w.hidden [] t.at.spot ≡ true

-- on a direct bus no row takes its spot, and on an indirect one its row does not, or was not the first choice
pub record IsPast (s : Setup) (live : List Dev) (p : ℕ) (t : Turn) : Type 0 where
  pub no_row : t.indirect ≡ false → winner_at s live p t.place t.at.spot ≡ None
  pub not_it : t.indirect ≡ true → winner_at s live p t.place t.at.spot ≡ Some t.at.row → winner s [] (parent_ref s live p) t.place t.at.spot ≡ Some t.at.row → ⊥

-- so it is, or the turn is still to come
abbrev pub IsServed : World → ℕ → Turn → Type 0
IsServed w p t = IsPast w.setup w.live p t ⊎ IsToCome w p t

-- so it is of each such turn
abbrev pub IsWatched : World → Type 0
IsWatched w = (p : ℕ) (t : Turn) → IsTurnOf w p t → IsServed w p t

-- ---- lists

any_left : {A : Type 0} (P : A → Type 0) (xs ys : List A) → AnyIn P xs → AnyIn P (xs ++ ys)
any_left P [] ys h = absurd h
any_left P (x ∷ xs) ys (inl here) = inl here
any_left P (x ∷ xs) ys (inr more) = inr (any_left P xs ys more)

pub any_right : {A : Type 0} (P : A → Type 0) (xs ys : List A) → AnyIn P ys → AnyIn P (xs ++ ys)
any_right P [] ys h = h
any_right P (x ∷ xs) ys h = inr (any_right P xs ys h)

-- ---- frames

not_before_start : (t : Turn) → is_before t.at start ≡ false
unfolding is_before
not_before_start t =
    let attr : nat_lt t.at.attr 0 ≡ false = grind (arith, nat_tests) in
    let row : nat_lt t.at.row 0 ≡ false = grind (arith, nat_tests) in
    let spot : nat_lt t.at.spot 0 ≡ false = grind (arith, nat_tests) in
    rw (attr, row, spot) (none (t.at.attr == 0) (t.at.row == 0))
  where
    none : (a b : Bool) → (false || (a && (false || (b && false)))) ≡ false
    none true true = refl
    none true false = refl
    none false b = refl

-- a scan at its start is past no turn
pub covers_whole : (p : ℕ) (t : Turn) → Covers p t (scan_of p)
covers_whole p t = (refl, refl, refl, not_before_start t)

-- ---- the work of a device that comes

-- what was to come still is, and so is each turn of the device, unless it has none
pub record AddsScan (w v : World) (s : ℕ) (nothing : Bool) : Type 0 where
  pub keeps : (p : ℕ) (t : Turn) → IsToCome w p t → IsToCome v p t
  pub new : nothing ≡ false → (t : Turn) → IsToCome v s t

abbrev is_nowhere : Placing → Bool
is_nowhere Nowhere = true
is_nowhere _ = false

more_deferred : (w : World) (e : Deferred) (p : ℕ) (t : Turn) → IsToCome w p t → IsToCome (record w { deferred = w.deferred ++ e ∷ [] }) p t
more_deferred w e p t (inl frame) = inl frame
more_deferred w e p t (inr entry) = inr (any_left (λ (d : Deferred). d.child ≡ p) w.deferred (e ∷ []) entry)

more_frames : (w : World) (f : Frame) (p : ℕ) (t : Turn) → 0 < length w.callers → IsToCome w p t → IsToCome (pushed w 0 f) p t
more_frames w f p t lt (inl frame) = inl (rw (stack_is w 0 (f ∷ (caller_at w 0).stack) lt) (inr frame))
more_frames w f p t lt (inr entry) = inr entry

scan_adds : (c : Placing) (w : World) (parent s : ℕ) → 0 < length w.callers → AddsScan w (place_scan c w 0 parent s) s (is_nowhere c)
scan_adds Nowhere w parent s lt = record { keeps = λ p t h. h; new = λ e t. absurd (never e) }
  where
    never : true ≡ false → ⊥
    never e = cc
scan_adds Queued w parent s lt =
    let e : Deferred = record { key = key.Interrupts; child = s } in
    record { keeps = more_deferred w e; new = λ n t. inr (any_right (λ (d : Deferred). d.child ≡ s) w.deferred (e ∷ []) (inl refl)) }
scan_adds PutOff w parent s lt =
    let e : Deferred = record { key = key.Parent parent; child = s } in
    record { keeps = more_deferred w e; new = λ n t. inr (any_right (λ (d : Deferred). d.child ≡ s) w.deferred (e ∷ []) (inl refl)) }
scan_adds Pushed w parent s lt = record {
  keeps = λ p t h. more_frames w (scan_of s) p t lt h;
  new = λ n t. inl (rw (stack_is w 0 (scan_of s ∷ (caller_at w 0).stack) lt) (inl (covers_whole s t)));
}

finaliser_keeps : (c : Placing) (w : World) (s p : ℕ) (t : Turn) → 0 < length w.callers → IsToCome w p t → IsToCome (place_finaliser c w 0 s) p t
finaliser_keeps Nowhere w s p t lt h = h
finaliser_keeps Queued w s p t lt h = h
finaliser_keeps PutOff w s p t lt h = h
finaliser_keeps Pushed w s p t lt h = more_frames w (Finaliser s) p t lt h

somewhere : (p : Policy) (offered : List ℕ) (interrupts_on may_defer : Bool) → has_nothing offered ≡ false → is_nowhere (scan_placing p offered interrupts_on may_defer) ≡ false
unfolding scan_placing
somewhere p offered interrupts_on may_defer h = rw h (cases (p.interrupts && not interrupts_on) (p.defer && may_defer))
  where
    cases : (a b : Bool) → is_nowhere (if a then Queued else (if b then PutOff else Pushed)) ≡ false
    cases true b = refl
    cases false true = refl
    cases false false = refl

pub attached_adds : (w : World) (a : Arrival) (may_defer : Bool) → 0 < length w.callers → AddsScan w (attached w 0 a may_defer) w.next (has_nothing (offered_by w.setup a.row))
unfolding attached finaliser_placed scan_placed listed
attached_adds w a may_defer lt =
    let p : Policy = policy_of w.setup a.row in
    let come : World = listed w a in
    let c : Placing = finaliser_placing p (has_ended come 0) in
    let u : World = place_finaliser c come 0 w.next in
    let there : 0 < length u.callers = rw (finaliser_places c come 0 w.next).callers lt in
    let adds : AddsScan u (place_scan (scan_placing p (offered_by w.setup a.row) u.interrupts_on may_defer) u 0 a.parent w.next) w.next (is_nowhere (scan_placing p (offered_by w.setup a.row) u.interrupts_on may_defer)) =
    scan_adds (scan_placing p (offered_by w.setup a.row) u.interrupts_on may_defer) u a.parent w.next there in
    record {
      keeps = λ q t h. adds.keeps q t (finaliser_keeps c come w.next q t lt h);
      new = λ some t. adds.new (somewhere p (offered_by w.setup a.row) u.interrupts_on may_defer some) t;
    }

-- ---- a device comes

no_turns : (s : Setup) (live : List Dev) (p r : ℕ) (d : Dev) → device_at live p ≡ Some d → d.row ≡ r → has_nothing (offered_by s r) ≡ true → turns s live p None ≡ []
unfolding turns_of places_of
no_turns s live p r d there row h = rw (there, row, empty (offered_by s r) h) refl
  where
    empty : (xs : List ℕ) → has_nothing xs ≡ true → xs ≡ []
    empty [] e = refl
    empty (x ∷ xs) e = absurd cc

pub new_found : (live : List Dev) (d : Dev) (p : ℕ) → device_at live p ≡ None → p ≡ d.serial → device_at (live ++ d ∷ []) p ≡ Some d
new_found live d p none is =
    find-append (λ (e : Dev). e.serial == p) live (d ∷ []) ∙ ap (λ (o : Option Dev). option_or o (cond (d.serial == p) (Some d) None)) none
    ∙ ap (λ (b : Bool). cond b (Some d) None) (eq-eqb d.serial p (sym is))

known_before : (live : List Dev) (d : Dev) (p : ℕ) → p ≢ d.serial → (p == 0 || is_live (live ++ d ∷ []) p) ≡ true → (p == 0 || is_live live p) ≡ true
known_before live d p other h =
    let out : (d.serial == p) ≡ false = ne_eqb d.serial p (λ e. other (sym e)) in
    let both = list_any-append (λ (e : Dev). e.serial == p) live (d ∷ []) in
    rest (p == 0) (is_live live p) (rw (both, out) at h)
  where
    rest : (a b : Bool) → (a || (b || (false || false))) ≡ true → (a || b) ≡ true
    rest true b h = refl
    rest false true h = refl
    rest false false h = absurd cc

-- a spot that is free then was free before, and is not the device's
pub record IsBareThen (m : Machine) (live : List Dev) (absent hidden : List ℕ) (d : Dev) (x : ℕ) : Type 0 where
  pub before : is_open m live absent hidden [] x ≡ true
  pub other : x ≢ d.spot

flags : (a b o s f : Bool) → (a && b && not (o || (s || false)) && f) ≡ true → ((a && b && not o && f) ≡ true) × (s ≡ false)
flags false b o s f h = absurd cc
flags true false o s f h = absurd cc
flags true true true s f h = absurd cc
flags true true false true f h = absurd cc
flags true true false false f h = (h, refl)

pub bare_then : (m : Machine) (live : List Dev) (absent hidden : List ℕ) (d : Dev) (x : ℕ) → is_open m (live ++ d ∷ []) absent hidden [] x ≡ true → IsBareThen m live absent hidden d x
unfolding is_open
bare_then m live absent hidden d x h =
    let both = flags (not (has absent x)) (not (has hidden x)) (is_occupied live x) (d.spot == x) (passes_filter (found_at m x) []) (rw (list_any-append (λ (e : Dev). e.spot == x) live (d ∷ [])) at h) in
    record { before = both.0; other = λ e. clash (d.spot == x) (eq-eqb d.spot x (sym e)) both.1 }

still_past : (s : Setup) (live : List Dev) (d : Dev) (p : ℕ) (t : Turn) → p ≢ d.serial → IsPast s live p t → IsPast s (live ++ d ∷ []) p t
still_past s live d p t differs past = record {
  no_row = λ direct. no_new_winner s live d p t.place t.at.spot differs (past.no_row direct);
  not_it = λ indirect won first.
      let same = device_more live d p differs in
      let before : winner s [] (parent_ref s live p) t.place t.at.spot ≡ Some t.at.row = rw same at first in
      past.not_it indirect (won_before s live d (parent_ref s live p) t.place t.at.spot t.at.row before (rw same at won)) before;
}

-- a turn that is there once a device comes, and is not the device's, was there before, and is of another spot
pub record IsOldTurn (u : World) (a : Arrival) (p : ℕ) (t : Turn) : Type 0 where
  pub before : IsTurnOf u p t
  pub other : t.at.spot ≢ a.spot

pub old_turn : (u v : World) (a : Arrival) (p : ℕ) (t : Turn) → Comes u v a → p ≢ u.next → IsTurnOf v p t → IsOldTurn u a p t
old_turn u v a p t is differs at =
    let d : Dev = new_device u a in
    let bare : IsBareThen u.setup.machine u.live u.absent u.hidden d t.at.spot = bare_then u.setup.machine u.live u.absent u.hidden d t.at.spot (rw (is.setup, is.live, is.absent, is.hidden) at at.bare) in
    let among : Among t (turns u.setup u.live p None) = rw (device_more u.live d p differs) at (rw (is.setup, is.live) at at.among) in
    record { before = record { known = known_before u.live d p differs (rw is.live at at.known); among = among; bare = bare.before }; other = bare.other }

-- one of the device's is to come
pub new_turn : (u v : World) (a : Arrival) (p : ℕ) (t : Turn) → Comes u v a → AddsScan u v u.next (has_nothing (offered_by u.setup a.row)) → device_at u.live u.next ≡ None → p ≡ u.next → IsTurnOf v p t
    → IsToCome v p t
new_turn u v a p t is adds fresh same at = cases (has_nothing (offered_by u.setup a.row)) refl
  where
    cases : (b : Bool) → has_nothing (offered_by u.setup a.row) ≡ b → IsToCome v p t
    cases true nothing =
        let d : Dev = new_device u a in
        let found : device_at (u.live ++ d ∷ []) p ≡ Some d = new_found u.live d p (rw same fresh) same in
        absurd (rw (no_turns u.setup (u.live ++ d ∷ []) p a.row d found refl nothing) at (rw (is.setup, is.live) at at.among))
    cases false some = rw same (adds.new some t)

-- where each turn but those of its spot is served, each is once it is there
pub come_watched : (u v : World) (a : Arrival) → Comes u v a → AddsScan u v u.next (has_nothing (offered_by u.setup a.row)) → device_at u.live u.next ≡ None
    → ((p : ℕ) (t : Turn) → IsTurnOf u p t → t.at.spot ≢ a.spot → IsServed u p t) → IsWatched v
come_watched u v a is adds fresh served p t at = cases (p == u.next) refl
  where
    other : p ≢ u.next → IsServed v p t
    other differs =
        let old : IsOldTurn u a p t = old_turn u v a p t is differs at in
        elim (served p t old.before old.other) [
          | inl past ↦ inl (rw (is.setup, is.live) (still_past u.setup u.live (new_device u a) p t differs past))
          | inr waits ↦ inr (adds.keeps p t waits)
        ]

    cases : (b : Bool) → (p == u.next) ≡ b → IsServed v p t
    cases true e = inr (new_turn u v a p t is adds fresh (eqb-true p u.next e) at)
    cases false e = other (λ same. clash (p == u.next) (eq-eqb p u.next same) e)

-- ---- scans that were put off begin

-- the scans that wait for this begin, and the others wait on
begins_or_waits : (p : ℕ) (t : Turn) (es : List Deferred) (which : Key) → AnyIn (λ (e : Deferred). e.child ≡ p) es
    → AnyIn (Covers p t) (begun es which) ⊎ AnyIn (λ (e : Deferred). e.child ≡ p) (left_off es which)
begins_or_waits p t [] which h = absurd h
begins_or_waits p t (e ∷ es) which (inl here) = cases (same_key e.key which)
  where
    cases : (b : Bool) → AnyIn (Covers p t) (map (λ (x : Deferred). scan_of x.child) (cond b (e ∷ filter (λ x. same_key x.key which) es) (filter (λ x. same_key x.key which) es)))
        ⊎ AnyIn (λ (x : Deferred). x.child ≡ p) (cond (not b) (e ∷ left_off es which) (left_off es which))
    cases true = inl (inl (here, refl, refl, not_before_start t))
    cases false = inr (inl here)
begins_or_waits p t (e ∷ es) which (inr more) = cases (begins_or_waits p t es which more) (same_key e.key which)
  where
    cases : AnyIn (Covers p t) (begun es which) ⊎ AnyIn (λ (x : Deferred). x.child ≡ p) (left_off es which) → (b : Bool)
        → AnyIn (Covers p t) (map (λ (x : Deferred). scan_of x.child) (cond b (e ∷ filter (λ x. same_key x.key which) es) (filter (λ x. same_key x.key which) es)))
        ⊎ AnyIn (λ (x : Deferred). x.child ≡ p) (cond (not b) (e ∷ left_off es which) (left_off es which))
    cases (inl a) true = inl (inr a)
    cases (inl a) false = inl a
    cases (inr b) true = inr b
    cases (inr b) false = inr (inr b)

pub released_to_come : (w : World) (which : Key) (rest : List Frame) (p : ℕ) (t : Turn) → 0 < length w.callers
    → AnyIn (Covers p t) rest ⊎ AnyIn (λ (e : Deferred). e.child ≡ p) w.deferred → IsToCome (released w 0 which rest) p t
unfolding released
released_to_come w which rest p t lt h =
    let u : World = record w { deferred = left_off w.deferred which } in
    elim h [
      | inl frame ↦ inl (rw (stack_is u 0 (begun w.deferred which ++ rest) lt) (any_right (Covers p t) (begun w.deferred which) rest frame))
      | inr entry ↦ elim (begins_or_waits p t w.deferred which entry) [
        | inl begins ↦ inl (rw (stack_is u 0 (begun w.deferred which ++ rest) lt) (any_left (Covers p t) (begun w.deferred which) rest begins))
        | inr waits ↦ inr waits
      ]
    ]
