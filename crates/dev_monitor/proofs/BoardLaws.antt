-- The events of a board, one after the other.
use Rattle.std.proofs.Common.{◌≡◌, ◌≤◌, ℕ, ◌+◌, ◌-◌, zero, suc, List, [], ◌∷◌, ◌++◌, length, take, drop, arith, refl, sym, ap, ◌∙◌, subst, Option, Some, None, true}
use Rattle.std.specs.Prelude.{option_and_then, option_map, slice_get}
use Rattle.std.specs.Option.{option_or}
use Rattle.std.proofs.lemmas.List.{take-append-drop, take_at, take_more}
use Rattle.std.proofs.lemmas.Option.{get_or_from_slice_get, slice_get_within}
use Rattle.run_rules.specs.declared.event.Event.{Event}
use Rattle.run_rules.specs.declared.world.Setup.{Setup}
use Rattle.run_rules.specs.World.{World, opening}
use Rattle.run_rules.specs.Run.{Run}
use Rattle.run_sound.specs.Kept.{MayRun}
use Rattle.run_rules.specs.declared.world.Dev.{Dev}
use Rattle.run_rules.specs.declared.world.Ref.{Ref}
use Rattle.run_rules.specs.World.{device_named, parent_name}
use Rattle.run_rules.specs.Run.{Step}
use Rattle.run_rules.specs.Laws.{attached_below, freed_name, lives, parent_in}
use Rattle.history_laws.specs.Always.{FreesLiving, OfEveryEvent}
use Rattle.history_laws.specs.Counted.{IsTold}
use Rattle.history_laws.proofs.Stands.{Stands}
use Rattle.dev_monitor.specs.Notes.{TellsFreed, news_at, went}
use Rattle.dev_monitor.specs.Notes as notes
use Rattle.dev_monitor.proofs.ParentLaws.{Deals, attaches, deals, frees, neither}
use Rattle.history_laws.proofs.Always.{of_event}
use Rattle.history_laws.proofs.LawsHold.{frees_living}
use Rattle.dev_monitor.specs.declared.monitor.Monitor.{Monitor}
use Rattle.dev_monitor.specs.Queues.{IsOf, TakenSome}
use Rattle.dev_monitor.specs.Subscribers.{IsFront, Watched, with_all}

-- ---- a front of a run is a run

record FrontRun (w : World) (g : List Event) : Type 0 where
  pub after : World
  pub run : Run w g after

front_run : (w : World) (g rest : List Event) (v : World) → Run w (g ++ rest) v → FrontRun w g
front_run w [] rest v run = record { after = w; run = refl }
front_run w (e ∷ g) rest v run = let front = front_run run.0 g rest v run.2 in record { after = front.after; run = (run.0, run.1, front.run) }

-- the events up to a place, and this one
up_to : (es : List Event) (i : ℕ) (e : Event) → slice_get es i ≡ Some e → take (i + 1) es ≡ take i es ++ e ∷ []
up_to es i e at = take_more es i e (slice_get_within es i e at) ∙ ap (λ (x : Event). take i es ++ x ∷ []) (get_or_from_slice_get es i e e at)

-- what is freed by an event of a run lived before it
pub living_at : (s : Setup) (es : List Event) (v : World) (i : ℕ) (e : Event) → MayRun s → Run (opening s) es v → slice_get es i ≡ Some e → FreesLiving (take i es) e
living_at s es v i e may run at =
    let whole : Run (opening s) (take (i + 1) es ++ drop (i + 1) es) v = subst (λ (h : List Event). Run (opening s) h v) (sym (take-append-drop (i + 1) es)) run in
    let front = front_run (opening s) (take (i + 1) es) (drop (i + 1) es) v whole in
    of_event FreesLiving frees_living s (take i es) e front.after may (subst (λ (h : List Event). Run (opening s) h front.after) (up_to es i e at) front.run)

-- ---- each event that frees a device tells so

had_parent : (h : List Event) (s : Setup) (live : List Dev) (refs : List Ref) (sole x : List ℕ) (o : Option Dev) → IsTold h s live refs sole x o → lives h x ≡ true → (p : List ℕ) × (parent_in h x ≡ Some p)
had_parent h s live refs sole x (Some d) told is = (parent_name s live d.parent, told.parent d refl)
had_parent h s live refs sole x None told is = let gone = told.lives in absurd (cc)

tells_by : (h : List Event) (e : Event) (x p : List ℕ) → Deals e.act → freed_name e.act ≡ Some x → parent_in h x ≡ Some p → news_at h e ≡ Some (went p x)
tells_by h e x p (attaches d came gone) freed parent = absurd (cc)
tells_by h e x p (neither came gone) freed parent = absurd (cc)
tells_by h e x p (frees d came gone) freed parent =
    ap (λ (o : Option (List ℕ)). option_or (option_map (notes.came (attached_below e.act)) o) (option_and_then (λ y. option_map (λ q. went q y) (parent_in h y)) (freed_name e.act))) came
    ∙ ap (option_and_then (λ y. option_map (λ q. went q y) (parent_in h y))) freed ∙ ap (option_map (λ q. went q x)) parent

tells_freed : (h : List Event) (w v : World) (e : Event) → Stands h w → Step w e.caller e v → TellsFreed h e
tells_freed h w v e at step x freed =
    let had = had_parent h w.setup w.live w.refs w.sole x (device_named w.setup w.live x) (at.counted.names x) (frees_living h w v e at step x freed) in
    (had.0, had.1, tells_by h e x had.0 (deals e.act) freed had.1)

pub each_told : OfEveryEvent TellsFreed
each_told = of_event TellsFreed tells_freed

-- ---- as events are taken in

-- those up to a place were
pub at_first : (w : Watched) (es : List Event) (m : Monitor) → IsOf w m → IsFront w.events es → IsOf (with_all w (take m.taken es)) m
at_first w es m of front =
    subst (λ (h : List Event). IsOf (with_all w h) m)
    (sym (ap (λ (h : List Event). take m.taken h) front.1 ∙ take_at w.events front.0 m.taken (sym of.taken))) of

pub one_further : (w : Watched) (es : List Event) (m : Monitor) (i : ℕ) (e : Event) → slice_get es i ≡ Some e → IsOf (with_all w (take i es ++ e ∷ [])) m → IsOf (with_all w (take (i + 1) es)) m
one_further w es m i e at of = subst (λ (h : List Event). IsOf (with_all w h) m) (sym (up_to es i e at)) of

take_behind : (g rest : List Event) (n : ℕ) → length g ≤ n → take n (g ++ rest) ≡ g ++ take (n - length g) rest
take_behind [] rest n long = ap (λ (k : ℕ). take k rest) (omega arith)
take_behind (e ∷ g) rest zero long = absurd (omega (arith, long))
take_behind (e ∷ g) rest (suc n) long = ap (λ (h : List Event). e ∷ h) (take_behind g rest n (omega (arith, long))) ∙ ap (λ (k : ℕ). (e ∷ g) ++ take k rest) (omega arith)

-- some were, where memory ran out
pub stopped_at : (w : Watched) (es : List Event) (old new : Monitor) (i : ℕ) → IsOf w old → IsFront w.events es → old.taken ≤ i → IsOf (with_all w (take i es)) new → TakenSome w es new
stopped_at w es old new i of front far is = record {
  events = take i es;
  before = (take (i - length w.events) front.0, ap (λ (h : List Event). take i h) front.1 ∙ take_behind w.events front.0 i (omega (arith, of.taken)));
  front = (drop i es, sym (take-append-drop i es));
  stands = is;
}
