-- What is printed of a run is taken as its history.
use Rattle.std.proofs.Common.{◌≡◌, ◌++◌, ℕ, List, refl, sym, subst}
use Rattle.cf_types.specs.declared.machine.Command.{Command}
use Rattle.cf_types.specs.declared.machine.Machine.{Machine}
use Rattle.cf_types.specs.declared.machine.Ticket.{Ticket}
use Rattle.cf_types.specs.declared.tables.Tables.{Tables}
use Rattle.config_rules.specs.Listing.{listing}
use Rattle.run_rules.specs.declared.event.Event.{Event}
use Rattle.run_rules.specs.declared.event.Format.TheVariants as format
use Rattle.run_rules.specs.World.{World, setup_of}
use Rattle.replay_laws.specs.Taken.{MayPlay, Takes, history_in}
use Rattle.replay_laws.proofs.Meant.{meant_taken}
use Rattle.history_replay.proofs.Told.{may_replay}
use Rattle.app_input.specs.Inputs.{FormedInputs}
use Rattle.app_input.specs.declared.inputs.Inputs.TheVariants.{Run}
use Rattle.app_output.specs.RunText.{run_text}
use Rattle.app_run.specs.Laws.{TakesPrinted}

-- the parts of the text
text_parts : (tables : Tables) (h : List Event) (w : World) → run_text tables h w ≡ listing tables ++ history_in format.Second h w
unfolding run_text
text_parts tables h w = refl

may_play : (tables : Tables) (machine : Machine) (scripts : List (List Command)) → FormedInputs (Run tables machine scripts) → MayPlay (setup_of tables machine scripts)
may_play tables machine scripts (formed, fits, all) = record { may = may_replay tables machine scripts formed fits all.few all.each; scripts = all.each }

pub printed_taken : (P : Ticket → Type 0) → TakesPrinted P
printed_taken P files name tables machine scripts h w meant one formed ran =
    let s = setup_of tables machine scripts in
    subst (λ (t : List ℕ). Takes s t h w) (sym (text_parts tables h w)) (meant_taken files name s format.Second h w meant one (may_play tables machine scripts formed) ran.run)
