-- Includes, prefixes and conditions of small configurations.
use Rattle.std.proofs.Common.{◌≡◌, true, Some, [], ◌∷◌, map, refl, codes}
use Rattle.config_rules.specs.Cut.{parts_within}
use Rattle.config_rules.specs.Form.{table, form_of, form_fault, is_left_out}
use Rattle.config_rules.specs.Reading.{reader, reading, nothing_read, refused, include, under_prefix}
use Rattle.config_rules.specs.Declared.{declared}
use Rattle.cf_types.specs.Offers.{walk, firsts, interfaces_of, interfaces, offers}
use Rattle.config_rules.specs.Joined.{fill_fault, fill, join}
use Rattle.config_rules.specs.Fault.{fault_of, fault_in, first_fault}
use Rattle.config_rules.proofs.VectorWords.{text, files, Refused, Taken, RefusedIn, refusal_at}

-- a condition word wants an open condition, and nothing branches behind `else`
condition_words_alone : (Refused (codes "endif" ∷ []) 1 21)
    × (Taken (codes "ifdef a" ∷ codes "else" ∷ codes "endif" ∷ []))
    × (Refused (codes "ifdef a" ∷ codes "else" ∷ codes "elifdef b" ∷ codes "endif" ∷ []) 3 21)
unfolding parts_within table form_of is_left_out form_fault reader reading declared walk firsts interfaces_of interfaces offers fill_fault fill join fault_of fault_in first_fault
condition_words_alone = (refl, refl, refl)

-- a condition that is open at the end is named by its opening, the innermost one, after all other faults
open_condition : (Refused (codes "ifndef a" ∷ codes "ifndef b" ∷ codes "define c" ∷ []) 2 21)
    × (Refused (codes "ifndef a" ∷ codes "prefix" ∷ []) 2 22)
unfolding parts_within table form_of is_left_out form_fault reader reading declared walk firsts interfaces_of interfaces offers fill_fault fill join fault_of fault_in first_fault
open_condition = (refl, refl)

-- a line that continues is no statement of its own
continued_condition : Refused (codes "ifdef a" ∷ codes " endif" ∷ []) 1 6
unfolding parts_within table form_of is_left_out form_fault reader reading declared walk firsts interfaces_of interfaces offers fill_fault fill join fault_of fault_in first_fault
continued_condition = refl

-- the word that ends a part that is left out is placed, and its form is looked at
closing_word : Refused (codes "ifdef a" ∷ codes "endif x" ∷ []) 2 6
unfolding parts_within table form_of is_left_out form_fault reader reading declared walk firsts interfaces_of interfaces offers fill_fault fill join fault_of fault_in first_fault
closing_word = refl

-- in a part that is left out no form is looked at, but the nesting is
part_left_out : (Taken (codes "ifdef a" ∷ codes "(" ∷ codes "endif" ∷ []))
    × (Refused (codes "ifdef a" ∷ codes "ifdef b" ∷ codes "else" ∷ codes "else" ∷ []) 4 21)
    × (Refused (codes "ifdef a" ∷ codes "ifdef b" ∷ []) 2 21)
unfolding parts_within table form_of is_left_out form_fault reader reading declared walk firsts interfaces_of interfaces offers fill_fault fill join fault_of fault_in first_fault
part_left_out = (refl, refl, refl)

-- a condition knows attributes and devices, and no attachments or options
what_is_declared : (Taken (codes "define a" ∷ codes "ifndef a" ∷ codes "(" ∷ codes "endif" ∷ []))
    × (Taken (codes "devclass a" ∷ codes "ifndef a" ∷ codes "(" ∷ codes "endif" ∷ []))
    × (Taken (codes "defpseudo a" ∷ codes "ifndef a" ∷ codes "(" ∷ codes "endif" ∷ []))
    × (Taken (codes "device a" ∷ codes "ifndef a" ∷ codes "(" ∷ codes "endif" ∷ []))
    × (Taken (codes "device d" ∷ codes "attach d at root with a" ∷ codes "options a" ∷ codes "ifdef a" ∷ codes "(" ∷ codes "endif" ∷ []))
unfolding parts_within table form_of is_left_out form_fault reader reading declared walk firsts interfaces_of interfaces offers fill_fault fill join fault_of fault_in first_fault
what_is_declared = (refl, refl, refl, refl, refl)

-- it also knows what is declared with a fault that is judged later
fault_by_name : (reading (files ((codes "conf", text (codes "device d: x" ∷ codes "ifdef d" ∷ codes "include \"y\"" ∷ codes "endif" ∷ [])) ∷ [])) (codes "conf")).fault ≡ Some (refusal_at (codes "conf") 3 1)
unfolding parts_within table form_of is_left_out form_fault reader reading
fault_by_name = refl

-- conditions balance within one file
own_conditions : (RefusedIn ((codes "conf", text (codes "ifndef a" ∷ codes "include \"x\"" ∷ codes "endif" ∷ [])) ∷ (codes "x", text (codes "endif" ∷ [])) ∷ []) (codes "x") 1 21)
    × (RefusedIn ((codes "conf", text (codes "include \"x\"" ∷ codes "endif" ∷ [])) ∷ (codes "x", text (codes "ifndef a" ∷ [])) ∷ []) (codes "x") 1 21)
unfolding parts_within table form_of is_left_out form_fault reader reading declared walk firsts interfaces_of interfaces offers fill_fault fill join fault_of fault_in first_fault
own_conditions = (refl, refl)

-- but levels are counted over all files: within 15 open conditions an included file opens one more
depth_over_files : RefusedIn ((codes "conf", text (codes "ifndef a" ∷ codes "ifndef a" ∷ codes "ifndef a" ∷ codes "ifndef a" ∷ codes "ifndef a" ∷ codes "ifndef a" ∷ codes "ifndef a" ∷ codes "ifndef a" ∷ codes "ifndef a" ∷ codes "ifndef a" ∷ codes "ifndef a" ∷ codes "ifndef a" ∷ codes "ifndef a" ∷ codes "ifndef a" ∷ codes "ifndef a" ∷ codes "include \"x\"" ∷ [])) ∷ (codes "x", text (codes "ifndef b" ∷ codes "ifndef b" ∷ [])) ∷ []) (codes "x") 2 21
unfolding parts_within table form_of is_left_out form_fault reader reading declared walk firsts interfaces_of interfaces offers fill_fault fill join fault_of fault_in first_fault
depth_over_files = refl

-- a path stands behind the top prefix and one `/`, byte by byte, unless it begins with `/`
paths_and_prefixes : (under_prefix (codes "a/" ∷ []) (codes "b") ≡ codes "a//b")
    × (under_prefix (codes "a" ∷ codes "c" ∷ []) (codes "../b") ≡ codes "a/../b")
    × (under_prefix (codes "a" ∷ []) (codes "/b") ≡ codes "/b")
    × (under_prefix [] (codes "b") ≡ codes "b")
paths_and_prefixes = (refl, refl, refl, refl)

-- the prefixes are one stack for all files, and a fault names a file as it was loaded
prefix_over_files : (Refused (codes "prefix" ∷ []) 1 22)
    × (RefusedIn ((codes "conf", text (codes "include \"x\"" ∷ codes "include \"y\"" ∷ [])) ∷ (codes "x", text (codes "prefix p" ∷ [])) ∷ (codes "p/y", text (codes "endif" ∷ [])) ∷ []) (codes "p/y") 1 21)
unfolding parts_within table form_of is_left_out form_fault reader reading declared walk firsts interfaces_of interfaces offers fill_fault fill join fault_of fault_in first_fault
prefix_over_files = (refl, refl)

-- an absent file is a fault of `include` alone, and counts for nothing
absent_files : (Refused (codes "cinclude \"local\"" ∷ codes "include \"missing\"" ∷ []) 2 1)
    × ((reading (files ((codes "conf", text (codes "cinclude \"x\"" ∷ [])) ∷ [])) (codes "conf")).files ≡ codes "conf" ∷ [])
unfolding parts_within table form_of is_left_out form_fault reader reading declared walk firsts interfaces_of interfaces offers fill_fault fill join fault_of fault_in first_fault
absent_files = (refl, refl)

-- each file is asked for where its include stands, under its prefix, and nothing in a part that is left out or behind a fault
asked_in_order : ((reading (files ((codes "conf", text (codes "cinclude \"local\"" ∷ codes "prefix p" ∷ codes "include \"x\"" ∷ codes "include \"y\"" ∷ codes "include \"z\"" ∷ [])) ∷ (codes "p/x", text (codes "define a" ∷ codes "cinclude \"w\"" ∷ [])) ∷ [])) (codes "conf")).asked ≡ codes "conf" ∷ codes "local" ∷ codes "p/x" ∷ codes "p/w" ∷ codes "p/y" ∷ [])
    × ((reading (files ((codes "conf", text (codes "ifdef a" ∷ codes "include \"x\"" ∷ codes "endif" ∷ codes "endif" ∷ codes "include \"y\"" ∷ [])) ∷ [])) (codes "conf")).asked ≡ codes "conf" ∷ [])
    × ((reading (files []) (codes "conf")).asked ≡ codes "conf" ∷ [])
unfolding parts_within table form_of is_left_out form_fault reader reading
asked_in_order = (refl, refl, refl)

-- at the greatest depth no file is asked for, also for `cinclude`
too_deep : include (files []) (λ around name bytes r. r) (record { file = codes "conf"; number = 0; around = 0; deepest = true }) (record { line = 1; pieces = [] }) (codes "x") true nothing_read ≡ refused (codes "conf") 1 20 nothing_read
too_deep = refl

-- an include stands before the statements of its file, also where that can not be cut
include_is_placed : (map (λ p. p.file) (reading (files ((codes "conf", text (codes "include \"x\"" ∷ codes "define b" ∷ [])) ∷ (codes "x", text (codes "define a" ∷ [])) ∷ [])) (codes "conf")).placed ≡ 0 ∷ 1 ∷ 0 ∷ [])
    × (map (λ p. p.line) (reading (files ((codes "conf", text (codes "define b" ∷ codes "include \"x\"" ∷ [])) ∷ (codes "x", text (codes "define a" ∷ codes "+" ∷ [])) ∷ [])) (codes "conf")).placed ≡ 1 ∷ 2 ∷ [])
    × (map (λ p. p.line) (reading (files ((codes "conf", text (codes "define b" ∷ codes "include \"x\"" ∷ [])) ∷ [])) (codes "conf")).placed ≡ 1 ∷ [])
unfolding parts_within table form_of is_left_out form_fault reader reading
include_is_placed = (refl, refl, refl)

-- a file is cut whole before its statements, and a fault by name counts only before the fault of reading
reading_comes_first : (Refused (codes "x0 at root" ∷ codes "endif" ∷ []) 1 10)
    × (Refused (codes "x0 at root" ∷ codes "+" ∷ []) 2 3)
    × (RefusedIn ((codes "conf", text (codes "x0 at root" ∷ codes "include \"x\"" ∷ [])) ∷ (codes "x", text (codes "define a" ∷ codes "+" ∷ [])) ∷ []) (codes "conf") 1 10)
    × (RefusedIn ((codes "conf", text (codes "include \"x\"" ∷ codes "endif" ∷ [])) ∷ (codes "x", text (codes "define a" ∷ codes "+" ∷ [])) ∷ []) (codes "x") 2 3)
unfolding parts_within table form_of is_left_out form_fault reader reading declared walk firsts interfaces_of interfaces offers fill_fault fill join fault_of fault_in first_fault
reading_comes_first = (refl, refl, refl, refl)
