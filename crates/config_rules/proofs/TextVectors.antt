-- Small machine files, scripts and order files, and what the definitions say of them.
use Rattle.std.proofs.Common.{◌≡◌, ℕ, Some, None, Ok, Err, List, Result, [], ◌∷◌, ◌++◌, refl, codes, true, false}
use Rattle.std.specs.Prelude.{pos, negsuc}
use Rattle.cf_types.specs.declared.machine.Command.{Command}
use Rattle.cf_types.specs.declared.machine.Command.TheVariants as command
use Rattle.cf_types.specs.declared.machine.Machine.{Machine}
use Rattle.cf_types.specs.declared.tables.Tables.{Tables}
use Rattle.cf_types.specs.declared.tables.Place.TheVariants.{Root, At}
use Rattle.config_rules.specs.MachineText.{machine_of}
use Rattle.cf_types.specs.Policies.{no_policy}
use Rattle.config_rules.specs.ScriptText.{code_after, commands, commands_of, order_of}

-- an attribute `isa` with two locators, and an attachment `com`
abbrev small : Tables
small = record {
  attrs = record { name = codes "isa"; iface = true; class = false; pseudo = false; locs = record { name = codes "port"; default = Some (pos 5); optional = true } ∷ record { name = codes "irq"; default = None; optional = false } ∷ []; needs = [] } ∷ [];
  devices = [];
  attaches = record { name = codes "com"; device = 0; places = At 0 ∷ []; needs = [] } ∷ [];
  rows = [];
  pseudos = [];
  options = [];
  makeoptions = [];
  file_systems = [];
  warnings = [];
}

-- a parent has to stand in an earlier line
machine_parent : machine_of small (codes "spot a b root") ≡ Err (1, 3)
unfolding machine_of
machine_parent = refl

-- each kind of line but a style
machine_whole : machine_of small (codes "spot a root root" ++ 10 ∷ codes "spot b a isa port=0x3f8 absent # c" ++ 10 ∷ codes "match com b 7" ++ 10 ∷ codes "driver com final defer") ≡ Ok (record {
  spots = record { name = codes "a"; parent = None; place = Root; found = []; late = false; absent = false; bad = false }
      ∷ record { name = codes "b"; parent = Some 0; place = At 0; found = pos 1016 ∷ negsuc 0 ∷ []; late = false; absent = true; bad = false } ∷ [];
  matches = record { attach = 0; spot = Some 1; value = 7 } ∷ [];
  styles = [];
  policies = record no_policy { defer = true; finaliser = true } ∷ [];
})
unfolding machine_of
machine_whole = refl

-- no locator is given twice
machine_twice : machine_of small (codes "spot a root root" ++ 10 ∷ codes "spot b a isa port=1 port=2") ≡ Err (2, 1)
unfolding machine_of
machine_twice = refl

-- a match value is at most 65535
machine_range : machine_of small (codes "match com * 65536") ≡ Err (1, 7)
unfolding machine_of
machine_range = refl

-- the name of a locator is what stands before the first `=`: there has to be one, and the rest is a number
machine_locator_names : (machine_of small (codes "spot a root root =5") ≡ Err (1, 1))
    × (machine_of small (codes "spot a root root 9=5") ≡ Err (1, 5))
    × (machine_of small (codes "spot a root root a=b=5") ≡ Err (1, 1))
unfolding machine_of
machine_locator_names = (refl, refl, refl)

-- only the name of the spot itself is judged by its shape; other names are looked up
machine_other_names : (machine_of small (codes "spot 9x root root") ≡ Err (1, 1))
    × (machine_of small (codes "spot a 9x isa") ≡ Err (1, 3))
    × (machine_of small (codes "match 9x * 1") ≡ Err (1, 6))
    × (machine_of small (codes "style com ? direct") ≡ Err (1, 4))
unfolding machine_of
machine_other_names = (refl, refl, refl, refl)

-- a policy may be written twice
machine_policy_twice : machine_of small (codes "driver com final final") ≡ Ok (record {
  spots = [];
  matches = [];
  styles = [];
  policies = record no_policy { finaliser = true } ∷ [];
})
unfolding machine_of
machine_policy_twice = refl

-- a byte that is not allowed comes before all other faults of the file
machine_bytes_first : machine_of small (codes "fly" ++ 10 ∷ codes "spot " ++ 1 ∷ []) ≡ Err (2, 1)
unfolding machine_of
machine_bytes_first = refl

-- two faults in one line: what the second line says after `spot a root root`
abbrev second : List ℕ → Result Machine (ℕ × ℕ)
second line = machine_of small (codes "spot a root root" ++ 10 ∷ line)

-- the form of a line comes before all that it means
machine_form_first : (second (codes "spot a root root late late") ≡ Err (2, 1))
    × (second (codes "spot b x root late late") ≡ Err (2, 1))
    × (second (codes "spot b a nosuch late late") ≡ Err (2, 1))
    × (second (codes "spot b a isa z=1 z=1") ≡ Err (2, 1))
    × (second (codes "spot b a isa port=4294967296 port=1") ≡ Err (2, 1))
    × (second (codes "match nosuch a x") ≡ Err (2, 1))
    × (second (codes "match com x y") ≡ Err (2, 1))
    × (second (codes "style nosuch isa straight") ≡ Err (2, 1))
    × (second (codes "style com nosuch straight") ≡ Err (2, 1))
    × (second (codes "driver nosuch straight") ≡ Err (2, 1))
unfolding machine_of
machine_form_first = (refl, refl, refl, refl, refl, refl, refl, refl, refl, refl)

-- a name that was given comes before the parent, the parent before the attribute, and the attribute before the values
machine_spot_order : (second (codes "spot a x root") ≡ Err (2, 2))
    × (second (codes "spot a root isa") ≡ Err (2, 2))
    × (second (codes "spot a root root z=1") ≡ Err (2, 2))
    × (second (codes "spot a a isa port=4294967296") ≡ Err (2, 2))
    × (second (codes "spot b x root") ≡ Err (2, 3))
    × (second (codes "spot b x isa z=1") ≡ Err (2, 3))
    × (second (codes "spot b x isa port=4294967296") ≡ Err (2, 3))
    × (second (codes "spot b a nosuch z=1") ≡ Err (2, 4))
    × (second (codes "spot b root isa port=4294967296") ≡ Err (2, 4))
unfolding machine_of
machine_spot_order = (refl, refl, refl, refl, refl, refl, refl, refl, refl)

-- the values in their order, each first by its name and then by its number
machine_value_order : (second (codes "spot b a isa z=4294967296") ≡ Err (2, 5))
    × (second (codes "spot b a isa z=1 port=4294967296") ≡ Err (2, 5))
    × (second (codes "spot b a isa port=4294967296 z=1") ≡ Err (2, 7))
unfolding machine_of
machine_value_order = (refl, refl, refl)

-- match and style lines begin with the attachment
machine_match_order : (second (codes "match nosuch x 65536") ≡ Err (2, 6))
    × (second (codes "match nosuch a 65536") ≡ Err (2, 6))
    × (second (codes "match com x 65536") ≡ Err (2, 3))
    × (second (codes "match com root 1") ≡ Err (2, 3))
    × (second (codes "style nosuch nosuch direct") ≡ Err (2, 6))
unfolding machine_of
machine_match_order = (refl, refl, refl, refl, refl)

-- what a script means
abbrev script : List ℕ → Result (List Command) (ℕ × ℕ)
script text = commands_of text

-- each command, with its operands
script_kinds : script (codes "open com0" ++ 10 ∷ codes "close com0" ++ 10 ∷ codes "detach com0" ++ 10 ∷ codes "suspend a0" ++ 10 ∷ codes "resume a0" ++ 10 ∷ codes "resumetree a0" ++ 10 ∷ codes "plug u0" ++ 10 ∷ codes "unplug u0")
    ≡ Ok (command.OpenDev (codes "com0") ∷ command.CloseDev (codes "com0") ∷ command.Detach (codes "com0") ∷ command.Suspend (codes "a0") ∷ command.Resume (codes "a0")
    ∷ command.ResumeTree (codes "a0") ∷ command.Plug (codes "u0") ∷ command.Unplug (codes "u0") ∷ [])
unfolding commands_of commands
script_kinds = refl

-- sole use is asked for by the word `-x` before the device, and by no other
script_sole : (script (codes "open -x com0") ≡ Ok (command.OpenSole (codes "com0") ∷ []))
    × (script (codes "open -x") ≡ Err (1, 2))
    × (script (codes "open -y com0") ≡ Err (1, 2))
    × (script (codes "open com0 -x") ≡ Err (1, 2))
    × (script (codes "open -x com0 com1") ≡ Err (1, 2))
    × (script (codes "close -x com0") ≡ Err (1, 2))
unfolding commands_of commands
script_sole = (refl, refl, refl, refl, refl, refl)

-- the operands that may be left out
script_short : script (codes "list" ++ 10 ∷ codes "list a0" ++ 10 ∷ codes "tree" ++ 10 ∷ codes "tree a0" ++ 10 ∷ codes "rescan a0" ++ 10 ∷ codes "rescan a0 isa")
    ≡ Ok (command.ListDev None ∷ command.ListDev (Some (codes "a0")) ∷ command.TreeDev None ∷ command.TreeDev (Some (codes "a0"))
    ∷ command.Rescan (codes "a0") None [] ∷ command.Rescan (codes "a0") (Some (codes "isa")) [] ∷ [])
unfolding commands_of commands
script_short = refl

-- the values of a rescan, in any spelling
script_rescan : script (codes "rescan isa0 isa port 0x3f8 irq -017 # the first")
    ≡ Ok (command.Rescan (codes "isa0") (Some (codes "isa")) (record { name = codes "port"; value = pos 1016 } ∷ record { name = codes "irq"; value = negsuc 14 } ∷ []) ∷ [])
unfolding commands_of commands
script_rescan = refl

-- blank lines and octal numbers
script_whole : script (codes "open com0" ++ 10 ∷ 10 ∷ codes "io com0 010" ++ 10 ∷ codes " # nothing") ≡ Ok (command.OpenDev (codes "com0") ∷ command.Io (codes "com0") 8 ∷ [])
unfolding commands_of commands
script_whole = refl

-- a comment may begin within a word
script_comment : script (codes "open com0#1") ≡ Ok (command.OpenDev (codes "com0") ∷ [])
unfolding commands_of commands
script_comment = refl

-- an empty script has no commands
script_empty : script [] ≡ Ok []
unfolding commands_of commands
script_empty = refl

-- a first word that is no command
script_word : (script (codes "fly com0") ≡ Err (1, 1)) × (script (codes "Open com0") ≡ Err (1, 1)) × (script (codes "fly") ≡ Err (1, 1))
unfolding commands_of commands
script_word = (refl, refl, refl)

-- other words than the command's form has
script_form : (script (codes "open") ≡ Err (1, 2)) × (script (codes "open a b") ≡ Err (1, 2)) × (script (codes "open 9a") ≡ Err (1, 2)) × (script (codes "list a b") ≡ Err (1, 2))
    × (script (codes "io com0") ≡ Err (1, 2)) × (script (codes "io com0 x") ≡ Err (1, 2)) × (script (codes "rescan") ≡ Err (1, 2))
    × (script (codes "rescan isa0 isa port") ≡ Err (1, 2)) × (script (codes "rescan isa0 isa port x") ≡ Err (1, 2)) × (script (codes "rescan isa0 isa 9 1") ≡ Err (1, 2))
unfolding commands_of commands
script_form = (refl, refl, refl, refl, refl, refl, refl, refl, refl, refl)

-- a value of `io` is not negative and has 32 bits; one of a rescan is in the range of all numbers
script_range : (script (codes "io com0 -1") ≡ Err (1, 3)) × (script (codes "io com0 4294967296") ≡ Err (1, 3)) × (script (codes "io com0 4294967295") ≡ Ok (command.Io (codes "com0") 4294967295 ∷ []))
    × (script (codes "rescan isa0 isa port 4294967296") ≡ Err (1, 3)) × (script (codes "rescan isa0 isa port -2147483649") ≡ Err (1, 3))
unfolding commands_of commands
script_range = (refl, refl, refl, refl, refl)

-- in one line the words come before the ranges
script_form_first : (script (codes "io 9 -1") ≡ Err (1, 2)) × (script (codes "rescan isa0 isa port 4294967296 irq x") ≡ Err (1, 2)) × (script (codes "fly 9 -1") ≡ Err (1, 1))
unfolding commands_of commands
script_form_first = (refl, refl, refl)

-- a byte that is not allowed comes in a script before the other faults of its line alone
script_bytes : (script (codes "fly " ++ 1 ∷ []) ≡ Err (1, 2)) × (script (codes "fly" ++ 10 ∷ 1 ∷ []) ≡ Err (1, 1)) × (script (codes "list" ++ 13 ∷ []) ≡ Err (1, 2)) × (script (codes "list #" ++ 1 ∷ []) ≡ Ok (command.ListDev None ∷ []))
unfolding commands_of commands
script_bytes = (refl, refl, refl, refl)

-- the command that would be the 501st, and its other faults, which come before
script_many : (script (codes "list") ≡ Ok (command.ListDev None ∷ [])) × (code_after 499 (Ok (command.ListDev None)) ≡ None) × (code_after 500 (Ok (command.ListDev None)) ≡ Some 4) × (code_after 500 (Err 3) ≡ Some 3)
unfolding commands_of commands
script_many = (refl, refl, refl, refl)

-- there are two callers
order_range : (order_of 2 (codes "1 3") ≡ Err (1, 3)) × (order_of 2 (codes "0") ≡ Err (1, 3)) × (order_of 2 (codes "-1") ≡ Err (1, 3)) × (order_of 2 (codes "99999999999") ≡ Err (1, 3))
unfolding order_of
order_range = (refl, refl, refl, refl)

-- turns over several lines
order_whole : order_of 2 (codes "1 2 2 1 # x" ++ 10 ∷ codes "0x2") ≡ Ok (1 ∷ 2 ∷ 2 ∷ 1 ∷ 2 ∷ [])
unfolding order_of
order_whole = refl

-- an empty order file
order_empty : order_of 2 [] ≡ Ok []
unfolding order_of
order_empty = refl

-- in one line the shape of each word is looked at before any value
order_shape_first : (order_of 2 (codes "9 x") ≡ Err (1, 2)) × (order_of 2 (codes "9" ++ 10 ∷ codes "x") ≡ Err (1, 3)) × (order_of 2 (codes "9 " ++ 1 ∷ []) ≡ Err (1, 2))
unfolding order_of
order_shape_first = (refl, refl, refl)
