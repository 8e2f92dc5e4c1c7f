-- What is counted on the lines of a history is what the world has that the history leads to.
use Rattle.std.specs.Prelude.{◌≡◌, ℕ, ◌+◌, Bool, true, false, ◌&&◌, ◌==◌, List, length, count_by, Option, Some, is_some}
use Rattle.std.specs.Option.{option_map_or}
use Rattle.run_rules.specs.declared.event.Event.{Event}
use Rattle.run_rules.specs.declared.event.Act.{Act}
use Rattle.run_rules.specs.declared.event.Act.TheVariants as act
use Rattle.run_rules.specs.declared.world.Dev.{Dev}
use Rattle.run_rules.specs.declared.world.Ref.{Ref}
use Rattle.run_rules.specs.declared.world.Setup.{Setup}
use Rattle.run_rules.specs.World.{World, device_named, has, holds_in, parent_name}
use Rattle.run_rules.specs.References.{count_in}
use Rattle.run_rules.specs.Laws.{lives, parent_in, is_asleep_in, is_ok, opens, returns, sole_in}

-- how often caller k was granted X, and how often it gave X back
unfoldable pub granted : List Event → ℕ → List ℕ → ℕ
granted h k x = count_by (λ e. e.caller == k && opens e.act x) h

unfoldable pub returned : List Event → ℕ → List ℕ → ℕ
returned h k x = count_by (λ e. e.caller == k && returns e.act x) h

-- a reference is granted, or comes back, to whatever device
abbrev pub grants : Act → Bool
grants (act.OpenDev device r) = is_ok r
grants (act.OpenSole device r) = is_ok r
grants _ = false

abbrev pub gives_back : Act → Bool
gives_back (act.CloseDev device r) = is_ok r
gives_back (act.DropRef device) = true
gives_back _ = false

-- how often a caller holds a device, if there is one, and whether it holds it solely
abbrev pub held_of : List Ref → ℕ → Option Dev → ℕ
held_of refs k d = option_map_or (λ d. count_in refs k d.serial) d 0

abbrev pub is_sole_of : List Ref → List ℕ → ℕ → Option Dev → Bool
is_sole_of refs sole k d = option_map_or (λ d. has sole d.serial && holds_in refs k d.serial) d false

-- what the lines tell of a name is what the world has of the device of that name, if there is one
pub record IsTold (h : List Event) (s : Setup) (live : List Dev) (refs : List Ref) (sole : List ℕ) (x : List ℕ) (o : Option Dev) : Type 0 where
  pub lives : lives h x ≡ is_some o
  pub parent : (d : Dev) → o ≡ Some d → parent_in h x ≡ Some (parent_name s live d.parent)
  pub asleep : (d : Dev) → o ≡ Some d → is_asleep_in h x ≡ d.asleep
  pub held : (k : ℕ) → granted h k x ≡ held_of refs k o + returned h k x
  pub solely : (k : ℕ) → sole_in h k x ≡ is_sole_of refs sole k o

-- references granted, less those that came back, are those that are held: of each caller, and in all
pub record AreAllCounted (h : List Event) (refs : List Ref) : Type 0 where
  pub each : (k : ℕ) → count_by (λ e. e.caller == k && grants e.act) h ≡ count_by (λ r. r.caller == k) refs + count_by (λ e. e.caller == k && gives_back e.act) h
  pub all : count_by (λ e. grants e.act) h ≡ length refs + count_by (λ e. gives_back e.act) h

-- so of each name, and of the references
pub record Counted (h : List Event) (w : World) : Type 0 where
  pub names : (x : List ℕ) → IsTold h w.setup w.live w.refs w.sole x (device_named w.setup w.live x)
  pub refs : AreAllCounted h w.refs
