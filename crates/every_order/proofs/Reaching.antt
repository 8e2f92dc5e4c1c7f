-- What an order leads to.
use Rattle.std.proofs.Common.{◌≡◌, ◌∙◌, ◌↔◌, ℕ, true, ◌++◌, List, [], ◌∷◌, map, refl, sym, ap, subst}
use Rattle.progress_laws.specs.Still.{HaveAllEnded, NobodyDoes}
use Rattle.run_rules.specs.declared.deed.Choice.{Choice}
use Rattle.run_rules.specs.declared.deed.Choice.TheVariants.{Does, Ended}
use Rattle.run_rules.specs.declared.deed.Deed.{Deed}
use Rattle.run_rules.specs.declared.event.Event.{Event}
use Rattle.run_rules.specs.After.{after}
use Rattle.run_rules.specs.Next.{next}
use Rattle.run_rules.specs.Run.{Run, event_of, played, taken}
use Rattle.run_rules.specs.World.{World, has_ended}
use Rattle.every_order.specs.Reach.{IsRun, IsTurn, Leads}

-- ---- runs

leads_run : (w : World) (ks : List ℕ) (v : World) → Leads w ks v → IsRun w ks v
unfolding event_of
leads_run w [] v leads = record { events = []; run = leads; callers = refl }
leads_run w (k ∷ ks) v leads =
    let turn = leads.1 in
    let rest = leads_run leads.0 ks v leads.2 in
    record {
      events = event_of w k turn.deed ∷ rest.events;
      run = (leads.0, record { deed = turn.deed; chosen = turn.chosen; event = refl; world = turn.world }, rest.run);
      callers = ap (λ (l : List ℕ). k ∷ l) rest.callers;
    }

run_leads : (w : World) (h : List Event) (v : World) → Run w h v → Leads w (map (λ e. e.caller) h) v
run_leads w [] v run = run
run_leads w (e ∷ h) v run =
    (run.0, record { deed = run.1.deed; chosen = run.1.chosen; world = run.1.world }, run_leads run.0 h v run.2)

pub as_runs : (w : World) (ks : List ℕ) (v : World) → Leads w ks v ↔ IsRun w ks v
as_runs w ks v = (leads_run w ks v, λ r. subst (λ (l : List ℕ). Leads w l v) r.callers (run_leads w r.events v r.run))

-- ---- played

taken_is : (w : World) (k : ℕ) (d : Deed) (c : Choice) → c ≡ Does d → (taken w k c).1 ≡ after w k d
taken_is w k d c is = ap (λ (x : Choice). (taken w k x).1) is

pub is_played : (w : World) (ks : List ℕ) (v : World) → Leads w ks v → (played w ks).1 ≡ v
unfolding played
is_played w [] v leads = leads
is_played w (k ∷ ks) v leads =
    let turn = leads.1 in
    let here = taken_is w k turn.deed (next w k) turn.chosen ∙ sym turn.world in
    ap (λ (m : World). (played m ks).1) here ∙ is_played leads.0 ks v leads.2

-- ---- turns

same_deed : (d e : Deed) → Does d ≡ Does e → d ≡ e
same_deed d e is = cc

-- a turn leaves one world
pub turn_one : (v : World) (k : ℕ) (a b : World) → IsTurn v k a → IsTurn v k b → a ≡ b
turn_one v k a b x y = x.world ∙ ap (after v k) (same_deed x.deed y.deed (sym x.chosen ∙ y.chosen)) ∙ sym y.world

pub turn_from : (v w : World) (k : ℕ) (u : World) → v ≡ w → IsTurn v k u → IsTurn w k u
turn_from v w k u same turn = subst (λ (x : World). IsTurn x k u) same turn

pub leads_more : (w : World) (ks : List ℕ) (v : World) (k : ℕ) (u : World) → Leads w ks v → IsTurn v k u → Leads w (ks ++ k ∷ []) u
leads_more w [] v k u leads turn = (u, turn_from v w k u (sym leads) turn, refl)
leads_more w (j ∷ ks) v k u leads turn = (leads.0, leads.1, leads_more leads.0 ks v k u leads.2 turn)

-- ---- ends

ended_not : (d : Deed) (c : Choice) → c ≡ Ended → c ≡ Does d → ⊥
ended_not d c is at = let e : Ended ≡ Does d = sym is ∙ at in absurd cc

next_ended : (w : World) (k : ℕ) → has_ended w k ≡ true → next w k ≡ Ended
unfolding next
next_ended w k ended = rw ended refl

-- where all have ended nobody can go on
pub ends_still : (w : World) → HaveAllEnded w → NobodyDoes w
ends_still w ended k d at = ended_not d (next w k) (next_ended w k (ended k)) at
