-- A run whose transfers were carried out.
use Rattle.std.specs.Prelude.{◌≡◌, ℕ, List, [], ◌∷◌}
use Rattle.cf_types.specs.declared.machine.Ticket.{Ticket}
use Rattle.run_rules.specs.declared.event.Event.{Event}
use Rattle.run_rules.specs.declared.deed.Deed.TheVariants.{Done}
use Rattle.run_rules.specs.declared.deed.Choice.TheVariants.{Does}
use Rattle.run_rules.specs.Next.{next}
use Rattle.run_rules.specs.Run.{Step}
use Rattle.run_rules.specs.World.{World}

-- a step of a run; where it ends a transfer, that one was carried out
pub record CarriedStep (carried : Ticket → Type 0) (w : World) (k : ℕ) (e : Event) (v : World) : Type 0 where
  pub step : Step w k e v
  pub transfer : (ticket : Ticket) → next w k ≡ Does (Done ticket) → carried ticket

-- the events lead from w to v, and each transfer that ends by one of them was carried out
abbrev pub CarriedRun : (Ticket → Type 0) → World → List Event → World → Type 0
CarriedRun carried w [] v = w ≡ v
CarriedRun carried w (e ∷ es) v = (m : World) × CarriedStep carried w e.caller e m × CarriedRun carried m es v

-- what was carried out by the one was carried out by the other
abbrev pub CarriesFor : (Ticket → Type 0) → (Ticket → Type 0) → Type 0
CarriesFor one other = (ticket : Ticket) → one ticket → other ticket
