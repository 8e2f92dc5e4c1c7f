-- A run in which a script has ended begins with the boot.
use Rattle.std.proofs.Common.{◌≡◌, ◌<◌, ℕ, suc, Bool, true, false, List, [], ◌∷◌, ◌++◌, length, refl, sym, ap, ◌∙◌, subst, arith}
use Rattle.run_rules.specs.declared.event.Event.{Event}
use Rattle.run_rules.specs.declared.world.Setup.{Setup}
use Rattle.run_rules.specs.declared.deed.Deed.{Deed}
use Rattle.run_rules.specs.declared.deed.Choice.TheVariants.{Does}
use Rattle.run_rules.specs.World.{World, Caller, has_ended, is_ended, opening}
use Rattle.run_rules.specs.Next.{next}
use Rattle.run_rules.specs.After.{after}
use Rattle.run_rules.specs.Run.{Boot, Run}
use Rattle.run_rules.proofs.Setups.{after_setup, run_setup}
use Rattle.run_sound.proofs.Callers.{boot_alone, clash}
use Rattle.run_sound.proofs.RangesCallers.{boot_did, others_stay}
use Rattle.script_laws.specs.Whole.{BeginsWithBoot}
use Rattle.script_laws.proofs.Ends.{opens_live}

-- while the boot goes on no script has ended
abbrev pub WaitsForBoot : World → Type 0
WaitsForBoot w = has_ended w 0 ≡ false → (j : ℕ) → j < length w.setup.scripts → has_ended w (suc j) ≡ false

pub waits_on : (w : World) (k : ℕ) (d : Deed) → next w k ≡ Does d → WaitsForBoot w → WaitsForBoot (after w k d)
waits_on w k d e at goes j lt =
    let did : (k ≡ 0) × (has_ended w 0 ≡ false) = boot_did w k d e goes in
    let stays : has_ended (after w k d) (suc j) ≡ has_ended w (suc j) = ap (λ (c : Caller). is_ended c.doing) (others_stay w k (suc j) d (λ same. omega (arith, same, did.0))) in
    let inside : j < length w.setup.scripts = subst (λ (s : Setup). j < length s.scripts) (after_setup w k d) lt in
    stays ∙ at did.1 j inside

pub waits_open : (s : Setup) → WaitsForBoot (opening s)
unfolding opening
waits_open s goes j lt = opens_live s.scripts j lt

pub boot_over : (w : World) → WaitsForBoot w → 0 < length w.setup.scripts → has_ended w 1 ≡ true → has_ended w 0 ≡ true
boot_over w at some ended = cases (has_ended w 0) refl
  where
    cases : (b : Bool) → has_ended w 0 ≡ b → has_ended w 0 ≡ true
    cases true is = is
    cases false is = clash (has_ended w 1) ended (at is 0 some)

-- the events up to the end of the boot, and those behind it
record Splits (w : World) (h : List Event) (v : World) : Type 0 where
  boot : List Event
  rest : List Event
  over : World
  is : h ≡ boot ++ rest
  boots : Boot w boot over
  runs : Run over rest v

splits : (w : World) (h : List Event) (v : World) → Run w h v → has_ended w 0 ≡ false → has_ended v 0 ≡ true → Splits w h v
splits w [] v run goes over = clash (has_ended v 0) over (ap (λ (x : World). has_ended x 0) (sym run) ∙ goes)
splits w (e ∷ es) v run goes over = cases (λ more. splits run.0 es v run.2 more over) (has_ended run.0 0) refl
  where
    alone : e.caller ≡ 0
    alone = boot_alone w e.caller run.1.deed run.1.chosen goes

    cases : (has_ended run.0 0 ≡ false → Splits run.0 es v) → (b : Bool) → has_ended run.0 0 ≡ b → Splits w (e ∷ es) v
    cases later true is = record {
      boot = e ∷ [];
      rest = es;
      over = run.0;
      is = refl;
      boots = record { run = (run.0, run.1, refl); alone = (alone, tt); over = is };
      runs = run.2;
    }
    cases later false is =
        let more : Splits run.0 es v = later is in
        record {
          boot = e ∷ more.boot;
          rest = more.rest;
          over = more.over;
          is = ap (λ (l : List Event). e ∷ l) more.is;
          boots = record { run = (run.0, run.1, more.boots.run); alone = (alone, more.boots.alone); over = more.boots.over };
          runs = more.runs;
        }

boots_first : (s : Setup) → has_ended (opening s) 0 ≡ false
unfolding opening
boots_first s = refl

same_setup : (s : Setup) (h : List Event) (v : World) → Run (opening s) h v → v.setup ≡ s
unfolding opening
same_setup s h v run = run_setup (opening s) h v run

pub begins : (s : Setup) (h : List Event) (v : World) → Run (opening s) h v → has_ended v 0 ≡ true → BeginsWithBoot h v
begins s h v run over =
    let parts : Splits (opening s) h v = splits (opening s) h v run (boots_first s) over in
    (parts.boot, parts.rest, parts.over, parts.is, subst (λ (x : Setup). Boot (opening x) parts.boot parts.over) (sym (same_setup s h v run)) parts.boots, parts.runs)
