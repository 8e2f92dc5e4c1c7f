-- What holds by one reader holds by one that goes by the same rules and format.
use Rattle.std.proofs.Common.{◌∙◌, ℕ, List, Option, refl, sym, subst}
use Rattle.run_rules.specs.declared.event.Event.{Event}
use Rattle.run_rules.specs.declared.event.Format.{Format}
use Rattle.plain_world.specs.declared.rules.Rules.{Rules}
use Rattle.plain_world.specs.declared.world.Plain.{Plain}
use Rattle.history_replay.specs.declared.means.Reader.{Reader}
use Rattle.history_replay.specs.Going.{IsGoing}
use Rattle.history_replay.specs.Readers.{IsSame, setup_in}
use Rattle.history_replay.specs.Steps.{TellsStep}

pub same_first : (r : Reader) → IsSame r r
same_first r = record { rules = refl; format = refl }

pub same_later : (r q p : Reader) → IsSame r q → IsSame q p → IsSame r p
same_later r q p a b = record { rules = b.rules ∙ a.rules; format = b.format ∙ a.format }

pub going_still : (r q : Reader) (p : Plain) → IsSame r q → IsGoing (setup_in r) p → IsGoing (setup_in q) p
going_still r q p same going = subst (λ (x : Rules). IsGoing x p) (sym same.rules) going

-- the event that a line tells by one of them
pub step_still : (r q : Reader) (p : Plain) (line : List ℕ) (v : Plain) (e : Option Event) → IsSame r q → TellsStep (setup_in q) q.format p line v e → TellsStep (setup_in r) r.format p line v e
step_still r q p line v e same tells =
    subst (λ (f : Format). TellsStep (setup_in r) f p line v e) same.format
    (subst (λ (x : Rules). TellsStep x q.format p line v e) same.rules tells)
