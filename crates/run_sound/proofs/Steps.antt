-- Each step of a run keeps a world sound and in its ranges, whoever makes it and whatever it does.
use Rattle.std.proofs.Common.{◌≡◌, ℕ, Some, None}
use Rattle.run_rules.specs.World.{World}
use Rattle.run_rules.specs.declared.deed.Deed.{Deed}
use Rattle.run_rules.specs.declared.deed.Deed.TheVariants.{Search, EndScan, BeginInterrupts, Finalise, EndCaller, Drop, Refuse, Open, Close, Start, Done, Detach, Free, Rescan, BeginPower, Sleep, Wake, EndPower, Plug, Unplug, Tell}
use Rattle.run_rules.specs.declared.deed.Choice.TheVariants.{Does}
use Rattle.run_rules.specs.Next.{next}
use Rattle.run_rules.specs.After.{after}
use Rattle.run_rules.specs.Sound.{Sound}
use Rattle.run_sound.specs.Kept.{MayRun, Kept}
use Rattle.run_sound.proofs.Plain.{sound_refused, sound_tell, sound_plug, sound_pull, sound_refused}
use Rattle.run_sound.proofs.References.{sound_drop, sound_open, sound_close, sound_start, sound_done}
use Rattle.run_sound.proofs.Condemning.{sound_detach, sound_unplug}
use Rattle.run_sound.proofs.Freeing.{sound_free}
use Rattle.run_sound.proofs.Power.{sound_begin_power, sound_sleep, sound_wake, sound_end_power}
use Rattle.run_sound.proofs.FrameDeeds.{sound_search, sound_end_scan, sound_interrupts, sound_finalise, sound_end, sound_rescan}
use Rattle.run_sound.proofs.Ranges.{ranges_after}

pub sound_after : (w : World) (k : ℕ) (d : Deed) → MayRun w.setup → Kept w → next w k ≡ Does d → Sound (after w k d)
sound_after w k (Search p spot to got) may kept e = sound_search w k p spot to got may kept e
sound_after w k (EndScan p) may kept e = sound_end_scan w k p kept.sound e
sound_after w k BeginInterrupts may kept e = sound_interrupts w k kept.sound e
sound_after w k (Finalise s shown got listed anew) may kept e = sound_finalise w k s shown got listed anew may kept e
sound_after w k EndCaller may kept e = sound_end w k kept.sound e
sound_after w k (Drop s) may kept e = sound_drop w k s kept.sound e
sound_after w k (Refuse why) may kept e = sound_refused w k why kept.sound e
sound_after w k (Open s sole) may kept e = sound_open w k s sole kept.sound e
sound_after w k (Close s) may kept e = sound_close w k s kept.sound e
sound_after w k (Start ticket) may kept e = sound_start w k ticket kept.sound e
sound_after w k (Done ticket) may kept e = sound_done w k ticket kept e
sound_after w k (Detach s) may kept e = sound_detach w k s kept.sound e
sound_after w k (Free s) may kept e = sound_free w k s kept e
sound_after w k (Rescan s only) may kept e = sound_rescan w k s only kept.sound e
sound_after w k (BeginPower kind s) may kept e = sound_begin_power w k kind s kept.sound e
sound_after w k (Sleep s) may kept e = sound_sleep w k s kept e
sound_after w k (Wake s) may kept e = sound_wake w k s kept e
sound_after w k (EndPower end) may kept e = sound_end_power w k end kept e
sound_after w k (Plug x) may kept e = sound_plug w k x kept.sound e
sound_after w k (Unplug x None) may kept e = sound_pull w k x kept.sound e
sound_after w k (Unplug x (Some s)) may kept e = sound_unplug w k x s kept.sound e
sound_after w k Tell may kept e = sound_tell w k kept.sound e

pub kept_after : (w : World) (k : ℕ) (d : Deed) → MayRun w.setup → Kept w → next w k ≡ Does d → Kept (after w k d)
kept_after w k d may kept e = record { sound = sound_after w k d may kept e; ranges = ranges_after w k d may kept e }
