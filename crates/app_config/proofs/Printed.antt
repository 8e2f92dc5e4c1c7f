-- What was printed is taken as its history.
use Rattle.std.proofs.Common.{◌≡◌, ◌≤◌, ◌++◌, ◌∷◌, ℕ, List, [], refl, sym, ◌∙◌, subst, append_assoc, length, arith}
use Rattle.std.specs.Prelude.{All}
use Rattle.std.proofs.lemmas.List.{append-nil}
use Rattle.std.proofs.lemmas.List.Elements.{All-nil}
use Rattle.cf_types.specs.declared.machine.Command.{Command}
use Rattle.cf_types.specs.declared.machine.Machine.{Machine}
use Rattle.cf_types.specs.declared.tables.Tables.{Tables}
use Rattle.config_rules.specs.Formed.{FittingMachine, FormedTables}
use Rattle.config_rules.specs.Listing.{listing}
use Rattle.config_rules.specs.ScriptText.{FormedScript}
use Rattle.run_rules.specs.declared.deed.Choice.{Choice}
use Rattle.run_rules.specs.declared.deed.Choice.TheVariants.{Does, Ended, Waits}
use Rattle.run_rules.specs.declared.event.Event.{Event}
use Rattle.run_rules.specs.declared.event.Format.TheVariants as format
use Rattle.run_rules.specs.declared.world.Setup.{Setup}
use Rattle.run_rules.specs.After.{after}
use Rattle.run_rules.specs.Next.{next}
use Rattle.run_rules.specs.Run.{Run, event_of, played, taken}
use Rattle.run_rules.specs.World.{World, opening, setup_of}
use Rattle.run_rules.proofs.Runs.{run_on}
use Rattle.replay_laws.specs.Taken.{MayPlay, Takes, history_in}
use Rattle.replay_laws.proofs.Meant.{meant_taken}
use Rattle.replay_laws.proofs.Taken.{history_taken, runs_taken}
use Rattle.history_replay.proofs.Told.{may_replay}
use Rattle.app_output.specs.RunText.{run_text}
use Rattle.app_config.specs.Laws.{TakesBooted, TakesPlayed, TakesUpgraded}

-- the parts of the text
text_parts : (tables : Tables) (h : List Event) (w : World) → run_text tables h w ≡ listing tables ++ history_in format.Second h w
unfolding run_text
text_parts tables h w = refl

may_play : (tables : Tables) (machine : Machine) (scripts : List (List Command)) → FormedTables tables → FittingMachine tables machine → length scripts ≤ 16 → All FormedScript scripts
    → MayPlay (setup_of tables machine scripts)
may_play tables machine scripts formed fits few each = record { may = may_replay tables machine scripts formed fits few each; scripts = each }

-- the turns of an order go on with a run
turn_on : (w : World) (h : List Event) (v : World) (k : ℕ) (ks : List ℕ) → Run w h v → ((g : List Event) (u : World) → Run w g u → Run w (g ++ (played u ks).0) (played u ks).1)
    → (c : Choice) → next v k ≡ c → Run w (h ++ ((taken v k c).0 ++ (played (taken v k c).1 ks).0)) (played (taken v k c).1 ks).1
turn_on w h v k ks run more (Does d) is =
    let rest = played (after v k d) ks in
    subst (λ (g : List Event). Run w g rest.1) (append_assoc h (event_of v k d ∷ []) rest.0) (more (h ++ event_of v k d ∷ []) (after v k d) (run_on w h v k d run is))
turn_on w h v k ks run more (Waits why) is = more h v run
turn_on w h v k ks run more Ended is = more h v run

run_played : (w : World) (h : List Event) (v : World) (order : List ℕ) → Run w h v → Run w (h ++ (played v order).0) (played v order).1
unfolding played
run_played w h v [] run = subst (λ (g : List Event). Run w g v) (sym (append-nil h)) run
run_played w h v (k ∷ ks) run = turn_on w h v k ks run (λ g u so. run_played w g u ks so) (next v k) refl

pub booted_taken : TakesBooted
booted_taken files name tables machine text meant one (formed, fits) (h, w, boot, reliable, thorough, is) =
    let s : Setup = setup_of tables machine [] in (
      h,
      w,
      is,
      subst (λ (t : List ℕ). Takes s t h w) (sym (is ∙ text_parts tables h w))
          (meant_taken files name s format.Second h w meant one (may_play tables machine [] formed fits (omega arith) (All-nil FormedScript)) boot.run),
    )

pub played_taken : TakesPlayed
played_taken files name tables machine scripts order text meant one (formed, fits, run) (h, w, (before, at, boot, events, world), reliable, thorough, is) =
    let s : Setup = setup_of tables machine scripts in
    let whole : Run (opening s) h w = subst (λ (x : List Event × World). Run (opening s) x.0 x.1) (λ i. (sym events i, sym world i)) (run_played (opening s) before at order boot.run) in (
      h,
      w,
      is,
      subst (λ (t : List ℕ). Takes s t h w) (sym (is ∙ text_parts tables h w))
          (meant_taken files name s format.Second h w meant one (may_play tables machine scripts formed fits run.few run.scripts) whole),
    )

pub upgraded_taken : TakesUpgraded
upgraded_taken tables machine scripts history text (formed, fits, run) (h, w, takes, reliable, thorough, is) =
    let s : Setup = setup_of tables machine scripts in
    let may : MayPlay s = may_play tables machine scripts formed fits run.few run.scripts in (
      h,
      w,
      takes,
      is,
      subst (λ (t : List ℕ). Takes s t h w) (sym is) (history_taken s format.Second h w may (runs_taken s history h w may.may takes).0),
    )
