-- What follows from an answer that may be a refusal, and which devices pass a test.
use Rattle.std.specs.Prelude.{◌≡◌, ℕ, Bool, not, ◌&&◌, ◌||◌, List, map, filter}
use Rattle.std.specs.declared.result.Result.{Result}
use Rattle.std.specs.declared.result.Result.TheVariants.{Ok, Err}
use Rattle.run_rules.specs.declared.deed.Deed.{Deed}
use Rattle.run_rules.specs.declared.deed.Deed.TheVariants.{Refuse}
use Rattle.run_rules.specs.declared.deed.CommandRefusal.{CommandRefusal}
use Rattle.run_rules.specs.declared.world.Dev.{Dev}
use Rattle.run_rules.specs.Next.{next, on_top}
use Rattle.run_rules.specs.World.{World, caller_at, is_condemned, is_held, is_pinned, policy_of}

-- the deed that follows from an answer, or the refusal
abbrev pub or_refused : {A : Type 0} → (A → Deed) → Result A CommandRefusal → Deed
or_refused deed (Ok x) = deed x
or_refused deed (Err why) = Refuse why

-- the caller goes on by its frames
abbrev pub GoesByFrames : World → ℕ → Type 0
GoesByFrames w k = next w k ≡ on_top w k (caller_at w k).stack

-- the serials of the devices that pass
abbrev pub serials_where : (Dev → Bool) → List Dev → List ℕ
serials_where test live = map (λ d. d.serial) (filter test live)

-- what keeps a device from going: its driver, unless that is forced, a scan, another freeing or a reference of the caller
abbrev pub keeps : World → ℕ → Bool → Dev → Bool
keeps w k forced d = (not forced && (policy_of w.setup d.row).nodetach) || is_pinned w d.serial || is_condemned d || is_held w k d.serial
