-- A spot to which no search came has a reason.
use Rattle.std.proofs.Common.{◌≡◌, ◌<◌, ℕ, Bool, true, false, [], ◌∷◌, length, Option, Some, None, IsSome, refl, sym, ap, ◌∙◌, slice_get}
use Rattle.std.specs.Prelude.{if◌then◌else◌, option_and_then}
use Rattle.std.specs.Option.{option_map_or}
use Rattle.cf_types.specs.declared.machine.Spot.{Spot}
use Rattle.cf_types.proofs.ListLemmas.{slice_get_some}
use Rattle.run_rules.specs.declared.world.Dev.{Dev}
use Rattle.run_rules.specs.declared.world.Setup.{Setup}
use Rattle.run_rules.specs.World.{World, device_on, has}
use Rattle.run_sound.specs.Kept.{MayRun}
use Rattle.plain_world.specs.Plain.{world_of}
use Rattle.match_reasons.specs.Reasons.{first_of}
use Rattle.boot_looks.specs.declared.boot.BootLooks.{BootLooks}
use Rattle.boot_looks.specs.declared.visit.Look.{Look}
use Rattle.boot_looks.specs.Laws.{is_below_bus}
use Rattle.boot_looks.specs.Looks.{AreBootLooks, is_on_bus, look_at}
use Rattle.boot_looks.proofs.Missed.{none_missed}
use Rattle.why_answers.specs.declared.unsearched.Unsearched.{Unsearched}
use Rattle.why_answers.specs.declared.unsearched.Unsearched.TheVariants.{NoDevice, NotOffered, Absent, Late}
use Rattle.why_answers.specs.Answers.{below_spot, unsearched, without_bus}

-- a spot that is below no bus is told so
below_bus : (w : World) (x : ℕ) (spot : Spot) → slice_get w.setup.machine.spots x ≡ Some spot → without_bus w.setup w.live x ≡ None → is_below_bus w x ≡ true
below_bus w x spot there none =
    ap (λ (o : Option Spot). option_map_or (λ z. is_on z.parent) o false) there
    ∙ above spot.parent (sym (ap (λ (o : Option Spot). option_and_then (λ z. option_and_then (below_spot w.setup w.live x) z.parent) o) there) ∙ none)
  where
    is_on : Option ℕ → Bool
    is_on o = option_map_or (λ y. option_map_or (λ d. is_on_bus w.setup d x) (device_on w.live y) false) o true

    above : (o : Option ℕ) → option_and_then (below_spot w.setup w.live x) o ≡ None → is_on o ≡ true
    above None k = refl
    above (Some y) k = on (device_on w.live y) k
      where
        offers : (d : Dev) (b : Bool) → (if b then None else Some (NotOffered d.serial)) ≡ None → b ≡ true
        offers d true j = refl
        offers d false j = absurd cc

        on : (o : Option Dev) → option_map_or (λ d. if is_on_bus w.setup d x then None else Some (NotOffered d.serial)) o (Some (NoDevice y)) ≡ None → option_map_or (λ d. is_on_bus w.setup d x) o false ≡ true
        on None j = absurd cc
        on (Some d) j = offers d (is_on_bus w.setup d x) j

pub has_reason : (s : Setup) (b : BootLooks) (x : ℕ) → MayRun s → AreBootLooks s b → x < length s.machine.spots → look_at b.looks x ≡ None → IsSome (unsearched (world_of s b.end) x)
has_reason s b x may are lt unseen = cases (without_bus s w.live x) refl (has w.absent x) refl (has w.hidden x) refl
  where
    w : World
    w = world_of s b.end

    never : (o : Option Look) → o ≡ None → IsSome o → ⊥
    never None e h = cc
    never (Some look) e h = cc

    cases : (o : Option Unsearched) → without_bus s w.live x ≡ o → (absent : Bool) → has w.absent x ≡ absent → (hidden : Bool) → has w.hidden x ≡ hidden
        → IsSome (first_of (o ∷ (if absent then Some Absent else None) ∷ (if hidden then Some Late else None) ∷ []))
    cases (Some why) bus absent present hidden seen = refl
    cases None bus true present hidden seen = refl
    cases None bus false present true seen = refl
    cases None bus false present false seen =
        let spot = slice_get_some s.machine.spots x lt in
        absurd (never (look_at b.looks x) unseen (none_missed s b x may are (below_bus w x spot.0 spot.1 bus) present seen))
