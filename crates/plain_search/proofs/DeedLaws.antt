-- How many live devices have the driver and the unit of a row, after a deed.
use Rattle.std.proofs.Common.{◌≡◌, ℕ, zero, suc, ◌+◌, ◌-◌, ◌<◌, ◌≤◌, ◌∙◌, Bool, true, false, not, cond, ◌==◌, List, [], ◌∷◌, ◌++◌, length, map, Some, None, refl, ap, subst, arith}
use Rattle.std.specs.Prelude.{filter, if◌then◌else◌}
use Rattle.std.specs.List.{AllByRecursion, slice_index_or}
use Rattle.std.proofs.lemmas.List.{length-map}
use Rattle.cf_types.specs.declared.tables.Row.{Row}
use Rattle.std.proofs.lemmas.Bool.{eqb-true, ne_eqb}
use Rattle.std.proofs.lemmas.Option.{same_Some}
use Rattle.std.proofs.lemmas.List.Sums.{count_by-le-length, sum_by-append}
use Rattle.run_rules.specs.declared.deed.Deed.{Deed}
use Rattle.run_rules.specs.declared.deed.Deed.TheVariants.{Search, EndScan, BeginInterrupts, Finalise, Detach, Free, Rescan, Sleep, Wake, Unplug}
use Rattle.run_rules.specs.declared.world.Arrival.{Arrival}
use Rattle.run_rules.specs.declared.world.Dev.{Dev}
use Rattle.run_rules.specs.declared.world.Setup.{Setup}
use Rattle.run_rules.specs.After.{after, freed, freeing_target, new_device, over, with_condemner, with_sleep}
use Rattle.run_rules.specs.Sound.{EachLater}
use Rattle.run_rules.specs.World.{World, caller_at, device_at}
use Rattle.run_sound.proofs.Beside.{live_found, live_same, live_shown}
use Rattle.run_sound.proofs.RangesDeeds.{condemner_keeps, sleep_keeps}
use Rattle.run_sound.proofs.RangesOf.{KeepsPlace}
use Rattle.plain_rows.specs.Taken.{AreTakers, is_row_of, one_if, takers}
use Rattle.plain_search.specs.Deeds.{coming, going}

-- ---- one device more, one less

first_more : (s : Setup) (d : Dev) (ds : List Dev) (r : ℕ) → takers s (d ∷ ds) r ≡ one_if (is_row_of s d.row d.unit r) + takers s ds r
first_more s d ds r = omega (arith, sum_by-append (λ (e : Dev). cond (is_row_of s e.row e.unit r) 1 0) (d ∷ []) ds)

pub last_more : (s : Setup) (ds : List Dev) (d : Dev) (r : ℕ) → takers s (ds ++ d ∷ []) r ≡ takers s ds r + one_if (is_row_of s d.row d.unit r)
last_more s ds d r = omega (arith, sum_by-append (λ (e : Dev). cond (is_row_of s e.row e.unit r) 1 0) ds (d ∷ []))

pub few_takers : (s : Setup) (ds : List Dev) (r : ℕ) → takers s ds r ≤ length ds
few_takers s ds r = count_by-le-length (λ (d : Dev). is_row_of s d.row d.unit r) ds

none_gone : (s : ℕ) (ds : List Dev) → AllByRecursion (λ d. s < d.serial) ds → filter (λ d. not (d.serial == s)) ds ≡ ds
none_gone s [] h = refl
none_gone s (d ∷ ds) h =
    let low : s < d.serial = h.0 in
    let ne : (d.serial == s) ≡ false = ne_eqb d.serial s (λ e. absurd (omega arith)) in
    rw ne (ap (λ xs. d ∷ xs) (none_gone s ds h.1))

among : (s : Setup) (ds : List Dev) (serial : ℕ) (d : Dev) (r : ℕ) → device_at ds serial ≡ Some d → one_if (is_row_of s d.row d.unit r) ≤ takers s ds r
among s [] serial d r found = absurd cc
among s (e ∷ es) serial d r found = cases (among s es serial d r) (e.serial == serial) found
  where
    cases : (device_at es serial ≡ Some d → one_if (is_row_of s d.row d.unit r) ≤ takers s es r) → (b : Bool) → cond b (Some e) (device_at es serial) ≡ Some d
        → one_if (is_row_of s d.row d.unit r) ≤ takers s (e ∷ es) r
    cases rest true k =
        let same : one_if (is_row_of s e.row e.unit r) ≡ one_if (is_row_of s d.row d.unit r) = ap (λ (u : Dev). one_if (is_row_of s u.row u.unit r)) (same_Some e d k) in
        omega (arith, first_more s e es r, same)
    cases rest false k = let more = rest k in omega (arith, first_more s e es r, more)

pub one_less : (s : Setup) (ds : List Dev) (serial : ℕ) (d : Dev) (r : ℕ) → EachLater (λ d e. d.serial < e.serial) ds → device_at ds serial ≡ Some d
    → takers s (filter (λ d. not (d.serial == serial)) ds) r ≡ takers s ds r - one_if (is_row_of s d.row d.unit r)
one_less s [] serial d r order found = absurd cc
one_less s (e ∷ es) serial d r order found = cases (λ k. one_less s es serial d r order.1 k) (e.serial == serial) refl found
  where
    cases : (device_at es serial ≡ Some d → takers s (filter (λ d. not (d.serial == serial)) es) r ≡ takers s es r - one_if (is_row_of s d.row d.unit r)) → (b : Bool) → (e.serial == serial) ≡ b → cond b (Some e) (device_at es serial) ≡ Some d
        → takers s (cond (not b) (e ∷ filter (λ d. not (d.serial == serial)) es) (filter (λ d. not (d.serial == serial)) es)) r ≡ takers s (e ∷ es) r - one_if (is_row_of s d.row d.unit r)
    cases rest true is k =
        let same : e ≡ d = same_Some e d k in
        let serial_is : e.serial ≡ serial = eqb-true e.serial serial is in
        let gone : filter (λ d. not (d.serial == serial)) es ≡ es = none_gone serial es (subst (λ n. AllByRecursion (λ d. n < d.serial) es) serial_is order.0) in
        let less : takers s es r ≡ takers s (e ∷ es) r - one_if (is_row_of s e.row e.unit r) = omega (arith, first_more s e es r) in
        ap (λ (ds : List Dev). takers s ds r) gone ∙ less ∙ ap (λ (u : Dev). takers s (e ∷ es) r - one_if (is_row_of s u.row u.unit r)) same
    cases rest false isnt k =
        let more = rest k in
        let within : one_if (is_row_of s d.row d.unit r) ≤ takers s es r = among s es serial d r k in
        omega (arith, first_more s e es r, first_more s e (filter (λ d. not (d.serial == serial)) es) r, more, within)

-- ---- marks alone

same_takers : (s : Setup) (f : Dev → Dev) → KeepsPlace f → (ds : List Dev) (r : ℕ) → takers s (map f ds) r ≡ takers s ds r
same_takers s f keeps [] r = refl
same_takers s f keeps (d ∷ ds) r =
    let here : one_if (is_row_of s (f d).row (f d).unit r) ≡ one_if (is_row_of s d.row d.unit r) =
    ap (λ (i : ℕ). one_if (is_row_of s i (f d).unit r)) (keeps.row d) ∙ ap (λ (u : ℕ). one_if (is_row_of s d.row u r)) (keeps.unit d) in
    let e : takers s (f d ∷ map f ds) r ≡ takers s (d ∷ ds) r = omega (arith, first_more s (f d) (map f ds) r, first_more s d ds r, here, same_takers s f keeps ds r) in e

-- ---- by the deeds

pub comes : (w : World) (k : ℕ) (d : Deed) (a : Arrival) → coming d ≡ Some a → (after w k d).live ≡ w.live ++ new_device w a ∷ []
comes w k (Search p spot to (Some b)) a e = rw (← same_Some b a e) (live_found w k p spot to b)
comes w k (Finalise s shown (Some b) listed anew) a e = rw (← same_Some b a e) (live_shown w k s shown b listed anew)
comes w k _ a e = absurd cc

pub goes : (w : World) (k : ℕ) (d : Deed) (serial : ℕ) → going d ≡ Some serial → (after w k d).live ≡ filter (λ d. not (d.serial == serial)) w.live
unfolding after
goes w k (Free s) serial e = rw (← same_Some s serial e) (cases (freeing_target (caller_at w k).doing s))
  where
    cases : (b : Bool) → (if b then over (freed w s) k else freed w s).live ≡ filter (λ d. not (d.serial == s)) w.live
    cases true = refl
    cases false = refl
goes w k _ serial e = absurd cc

beside : (s : Setup) (w : World) (k : ℕ) (d : Deed) (r : ℕ) → (after w k d).live ≡ w.live → takers s (after w k d).live r ≡ takers s w.live r
beside s w k d r e = ap (λ (ds : List Dev). takers s ds r) e

pub stays : (s : Setup) (w : World) (k : ℕ) (d : Deed) (r : ℕ) → coming d ≡ None → going d ≡ None → takers s (after w k d).live r ≡ takers s w.live r
unfolding after
stays s w k (Search p spot to None) r e f = beside s w k (Search p spot to None) r (live_same w k (Search p spot to None) refl)
stays s w k (Search p spot to (Some a)) r e f = absurd cc
stays s w k (Finalise t shown None listed anew) r e f = beside s w k (Finalise t shown None listed anew) r (live_same w k (Finalise t shown None listed anew) refl)
stays s w k (Finalise t shown (Some a) listed anew) r e f = absurd cc
stays s w k (Free t) r e f = absurd cc
stays s w k (Detach t) r e f = same_takers s (with_condemner w.live k t) (condemner_keeps w.live k t) w.live r
stays s w k (Unplug x (Some t)) r e f = same_takers s (with_condemner w.live k t) (condemner_keeps w.live k t) w.live r
stays s w k (Sleep t) r e f = same_takers s (with_sleep t true) (sleep_keeps t true) w.live r
stays s w k (Wake t) r e f = same_takers s (with_sleep t false) (sleep_keeps t false) w.live r
stays s w k (EndScan p) r e f = beside s w k (EndScan p) r (live_same w k (EndScan p) refl)
stays s w k BeginInterrupts r e f = beside s w k BeginInterrupts r (live_same w k BeginInterrupts refl)
stays s w k (Rescan t only) r e f = beside s w k (Rescan t only) r (live_same w k (Rescan t only) refl)
stays s w k _ r e f = refl

-- of no device nothing is less
pub none_less : (s : Setup) (ds : List Dev) (serial : ℕ) (r : ℕ) → device_at ds serial ≡ None → takers s (filter (λ d. not (d.serial == serial)) ds) r ≡ takers s ds r
none_less s [] serial r found = refl
none_less s (e ∷ es) serial r found = cases (none_less s es serial r) (e.serial == serial) found
  where
    cases : (device_at es serial ≡ None → takers s (filter (λ d. not (d.serial == serial)) es) r ≡ takers s es r) → (b : Bool) → cond b (Some e) (device_at es serial) ≡ None → takers s (cond (not b) (e ∷ filter (λ d. not (d.serial == serial)) es) (filter (λ d. not (d.serial == serial)) es)) r ≡ takers s (e ∷ es) r
    cases rest true k = absurd cc
    cases rest false k =
        let more = rest k in
        let same : takers s (e ∷ filter (λ d. not (d.serial == serial)) es) r ≡ takers s (e ∷ es) r = omega (arith, first_more s e es r, first_more s e (filter (λ d. not (d.serial == serial)) es) r, more) in same

-- ---- before any device

zeros : (rows : List Row) (r : ℕ) → ◌≡◌ {A = ℕ} (slice_index_or (map (λ (row : Row). 0) rows) r 0) 0
zeros [] r = refl
zeros (row ∷ rows) zero = refl
zeros (row ∷ rows) (suc r) = zeros rows r

pub none_counted : (s : Setup) (counts : List ℕ) → counts ≡ map (λ (row : Row). 0) s.tables.rows → AreTakers s [] counts
none_counted s counts e = λ r. ap (λ (xs : List ℕ). slice_index_or xs r 0) e ∙ zeros s.tables.rows r

pub zeros_length : (rows : List Row) (counts : List ℕ) → counts ≡ map (λ (row : Row). 0) rows → length counts ≡ length rows
zeros_length rows counts e = ap length e ∙ length-map rows (λ (row : Row). 0)
