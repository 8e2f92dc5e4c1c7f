-- The boot, turn by turn, and its events.
use Rattle.std.proofs.Common.{◌≡◌, ◌≤◌, ◌+◌, ◌∙◌, ℕ, zero, suc, true, List, [], ◌∷◌, ◌++◌, length, None, refl, sym, ap, subst, arith, add-one}
use Rattle.std.specs.List.{AllByRecursion}
use Rattle.run_rules.specs.declared.deed.Choice.{Choice}
use Rattle.run_rules.specs.declared.deed.Choice.TheVariants.{Does, Ended, Waits}
use Rattle.run_rules.specs.declared.deed.Deed.{Deed}
use Rattle.run_rules.specs.declared.event.Event.{Event}
use Rattle.run_rules.specs.declared.world.Setup.{Setup}
use Rattle.run_rules.specs.After.{after}
use Rattle.run_rules.specs.Next.{next}
use Rattle.run_rules.specs.Run.{Run, Step, event_of, taken}
use Rattle.run_rules.specs.World.{World, has_ended, opening}
use Rattle.run_rules.proofs.Devices.{all_snoc}
use Rattle.boot_looks.specs.Laws.{IsRunTo}
use Rattle.boot_looks.specs.Looks.{behind, turned, visit_at, visit_next, world_at}

pub turned_is : (w : World) (d : Deed) → next w 0 ≡ Does d → turned w ≡ after w 0 d
turned_is w d e = ap (λ (c : Choice). (taken w 0 c).1) e

pub turned_more : (w : World) (n : ℕ) → behind w (n + 1) ≡ turned (behind w n)
unfolding behind
turned_more w n = rw add-one refl

behind_first : (w : World) (n : ℕ) → behind w (suc n) ≡ behind (turned w) n
unfolding behind
behind_first w zero = refl
behind_first w (suc n) = ap turned (behind_first w n)

-- events lead where as many turns do
pub run_turns : (w : World) (h : List Event) (v : World) → Run w h v → AllByRecursion (λ e. e.caller ≡ 0) h → v ≡ behind w (length h)
unfolding behind
run_turns w [] v run alone = sym run
run_turns w (e ∷ h) v run alone =
    let step : Step w 0 e run.0 = subst (λ (k : ℕ). Step w k e run.0) alone.0 run.1 in
    run_turns run.0 h v run.2 alone.1
    ∙ ap (λ (x : World). behind x (length h)) (step.world ∙ sym (turned_is w step.deed step.chosen))
    ∙ sym (behind_first w (length h))

run_more : (w : World) (h : List Event) (v : World) (d : Deed) → Run w h v → next v 0 ≡ Does d → Run w (h ++ event_of v 0 d ∷ []) (after v 0 d)
unfolding event_of
run_more w [] v d run chosen =
    (after v 0 d, record { deed = d; chosen = subst (λ (x : World). next x 0 ≡ Does d) (sym run) chosen; event = ap (λ (x : World). event_of x 0 d) (sym run); world = ap (λ (x : World). after x 0 d) (sym run) }, refl)
run_more w (e ∷ h) v d run chosen = (run.0, run.1, run_more run.0 h v d run.2 chosen)

by_boot : (v : World) (d : Deed) → (event_of v 0 d).caller ≡ 0
unfolding event_of
by_boot v d = refl

-- a turn is an event more, or none
turn_run : (s : Setup) (v : World) → IsRunTo s v → IsRunTo s (turned v)
turn_run s v so = cases (next v 0) refl
  where
    cases : (c : Choice) → next v 0 ≡ c → IsRunTo s (taken v 0 c).1
    cases (Does d) e = record {
      events = so.events ++ event_of v 0 d ∷ [];
      run = run_more (opening s) so.events v d so.run e;
      alone = all_snoc (λ (x : Event). x.caller ≡ 0) so.events (event_of v 0 d) so.alone (by_boot v d);
    }
    cases Ended e = so
    cases (Waits why) e = so

pub turns_run : (s : Setup) (n : ℕ) → IsRunTo s (world_at s n)
unfolding behind
turns_run s zero = record { events = []; run = refl; alone = tt }
turns_run s (suc n) = turn_run s (world_at s n) (turns_run s n)

-- ---- behind the end

ends : (w : World) → has_ended w 0 ≡ true → next w 0 ≡ Ended
unfolding next
ends w over = rw over refl

pub stays : (w : World) (n : ℕ) → has_ended w 0 ≡ true → behind w n ≡ w
unfolding behind
stays w zero over = refl
stays w (suc n) over = ap turned (stays w n over) ∙ ap (λ (c : Choice). (taken w 0 c).1) (ends w over)

behind_more : (w : World) (n m : ℕ) → behind w (n + m) ≡ behind (behind w n) m
unfolding behind
behind_more w n zero =
    let same : n + 0 ≡ n = omega arith in
    ap (λ (k : ℕ). behind w k) same
behind_more w n (suc m) =
    let same : n + suc m ≡ suc (n + m) = omega arith in
    ap (λ (k : ℕ). behind w k) same ∙ ap turned (behind_more w n m)

split : (n m : ℕ) → n ≤ m → (k : ℕ) × (m ≡ n + k)
split zero m le = (m, omega arith)
split (suc n) zero le = absurd (omega arith)
split (suc n) (suc m) le = let rest = split n m (omega arith) in (rest.0, omega (arith, rest.1))

-- no turn behind the end comes to a spot
pub none_behind : (s : Setup) (n x m : ℕ) → has_ended (world_at s n) 0 ≡ true → n ≤ m → visit_at s m x ≡ None
none_behind s n x m over le =
    let part = split n m le in
    let same : world_at s m ≡ world_at s n = ap (behind (opening s)) part.1 ∙ behind_more (opening s) n part.0 ∙ stays (world_at s n) part.0 over in
    ap (λ (w : World). visit_next w (next w 0) x) same ∙ ap (λ (c : Choice). visit_next (world_at s n) c x) (ends (world_at s n) over)
