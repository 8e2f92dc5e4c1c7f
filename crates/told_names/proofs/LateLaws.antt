-- The name of a live device.
use Rattle.std.proofs.Common.{◌≡◌, ℕ, Bool, true, false, ◌||◌, ◌==◌, cond, List, [], ◌∷◌, find, Option, Some, None, refl}
use Rattle.std.specs.Option.{option_map_or}
use Rattle.std.specs.List.{list_any}
use Rattle.run_rules.specs.declared.world.Setup.{Setup}
use Rattle.run_rules.specs.declared.world.Dev.{Dev}
use Rattle.run_rules.specs.World.{device_at, parent_name, name_of, root_name}
use Rattle.run_world.specs.Events.{IsLive, name_live}

pub any_found : (p : Dev → Bool) (xs : List Dev) → list_any p xs ≡ true → find p xs ≡ None → ⊥
any_found p [] h e = cc
any_found p (x ∷ xs) h e = cases (λ k l. any_found p xs k l) (p x) h e
  where
    cases : (list_any p xs ≡ true → find p xs ≡ None → ⊥) → (b : Bool) → (b || list_any p xs) ≡ true → cond b (Some x) (find p xs) ≡ None → ⊥
    cases more true h e = cc
    cases more false h e = more h e

pub live_named : (s : Setup) (live : List Dev) (x : ℕ) → IsLive live x → parent_name s live x ≡ name_live s live x
unfolding parent_name
live_named s live x h = cases (device_at live x) refl
  where
    cases : (o : Option Dev) → device_at live x ≡ o → option_map_or (name_of s) o root_name ≡ option_map_or (name_of s) o []
    cases None e = absurd (any_found (λ d. d.serial == x) live h e)
    cases (Some d) e = refl
