-- The names that events print are of one line.
use Rattle.std.proofs.Common.{◌≡◌, ℕ, ◌-◌, List, [], ◌∷◌, decimal, Option, Some, None, refl, arith}
use Rattle.std.specs.Prelude.{All, slice_get, codes, map, true}
use Rattle.std.specs.List.{slice_index_or}
use Rattle.std.specs.Option.{option_map_or}
use Rattle.std.proofs.lemmas.Bool.{and_parts}
use Rattle.std.proofs.lemmas.List.Elements.{All-cons, All-head, All-nil, All-tail, recursion_from_All}
use Rattle.cf_text.specs.Shapes.{is_name}
use Rattle.cf_types.proofs.ListLemmas.{all_at}
use Rattle.cf_types.specs.declared.machine.Command.{Command}
use Rattle.config_rules.specs.MachineText.{is_free_name}
use Rattle.config_rules.specs.ScriptText.{FormedCommand, FormedScript, is_operand}
use Rattle.run_rules.specs.declared.world.Dev.{Dev}
use Rattle.run_rules.specs.declared.world.Setup.{Setup}
use Rattle.run_rules.specs.Next.{command_of, name_at}
use Rattle.run_rules.specs.Run.{spot_name}
use Rattle.run_rules.specs.World.{World, device_at, driver_name, driver_of, name_of, parent_name, root_name, unit_name}
use Rattle.run_sound.specs.Kept.{MayRun}
use Rattle.run_sound.proofs.Callers.{all_or}
use Rattle.replay_laws.specs.OneLine.{IsOneLine}
use Rattle.replay_laws.proofs.OneLine.{decimal_line, free_line, joined, name_line, of_option}

-- the name at a place of named things
pub named_line : {A : Type 0} (f : A → List ℕ) (xs : List A) (i : ℕ) → All (λ x. IsOneLine (f x)) xs → IsOneLine (option_map_or f (slice_get xs i) [])
named_line f xs i all = of_option f (slice_get xs i) (λ x is. all_at (λ x. IsOneLine (f x)) xs i x all is)

-- each of these names is
pub names_line : {A : Type 0} (f : A → List ℕ) (xs : List A) → All (λ name. is_free_name name ≡ true) (map f xs) → All (λ x. IsOneLine (f x)) xs
names_line f [] all = All-nil (λ x. IsOneLine (f x))
names_line f (x ∷ xs) all =
    All-cons (λ x. IsOneLine (f x)) x xs (free_line (f x) (All-head (λ name. is_free_name name ≡ true) (f x) (map f xs) all))
    (names_line f xs (All-tail (λ name. is_free_name name ≡ true) (f x) (map f xs) all))

pub driver_line : (s : Setup) (d : ℕ) → MayRun s → IsOneLine (driver_name s d)
driver_line s d may = named_line (λ x. x.name) s.tables.devices d (names_line (λ x. x.name) s.tables.devices may.tables.device_names.shaped)

pub spot_line : (s : Setup) (x : ℕ) → MayRun s → IsOneLine (spot_name s x)
spot_line s x may = named_line (λ spot. spot.name) s.machine.spots x (names_line (λ spot. spot.name) s.machine.spots may.machine.spot_names.shaped)

pub unit_line : (s : Setup) (r u : ℕ) → MayRun s → IsOneLine (unit_name s r u)
unfolding unit_name
unit_line s r u may = joined (driver_name s (driver_of s r)) (decimal u) (driver_line s (driver_of s r) may) (decimal_line u)

pub live_line : (w : World) (x : ℕ) → MayRun w.setup → IsOneLine (name_at w x)
live_line w x may = of_option (name_of w.setup) (device_at w.live x) (λ d is. unit_line w.setup d.row d.unit may)

pub parent_line : (s : Setup) (live : List Dev) (p : ℕ) → MayRun s → IsOneLine (parent_name s live p)
unfolding parent_name root_name
parent_line s live p may = by (device_at live p)
  where
    by : (o : Option Dev) → IsOneLine (option_map_or (name_of s) o (codes "root"))
    by None = refl
    by (Some d) = unit_line s d.row d.unit may

-- ---- commands

pub operand_line : (name : List ℕ) → is_operand name ≡ true → IsOneLine name
operand_line name h = name_line name (and_parts (is_name name) _ h).0

no_commands : FormedScript []
no_commands = record { few = omega arith; commands = All-nil FormedCommand }

-- the command that a caller is at is formed
pub command_formed : (w : World) (k : ℕ) (said : Command) → All FormedScript w.setup.scripts → command_of w k ≡ Some said → FormedCommand said
command_formed w k said scripts is =
    let script = all_or FormedScript w.setup.scripts (k - 1) [] (recursion_from_All FormedScript w.setup.scripts scripts) no_commands in
    all_at FormedCommand (slice_index_or w.setup.scripts (k - 1) []) _ said script.commands is
