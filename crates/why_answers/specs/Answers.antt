-- What is said of a spot, or of the device on it, and of a name that is neither.
use Rattle.std.specs.Prelude.{◌≡◌, ℕ, Bool, true, false, if◌then◌else◌, List, [], ◌∷◌, ◌++◌, slice_get, Option, Some, None, option_map, option_and_then, codes, decimal}
use Rattle.std.specs.Option.{option_map_or, option_or}
use Rattle.cf_types.specs.Lookups.{spot_number}
use Rattle.config_rules.specs.Listing.{place_name}
use Rattle.run_rules.specs.declared.world.Dev.{Dev}
use Rattle.run_rules.specs.declared.world.Setup.{Setup}
use Rattle.run_rules.specs.World.{World, device_at, device_named, device_on, has, name_of, parent_name}
use Rattle.plain_world.specs.Plain.{world_of}
use Rattle.match_reasons.specs.Reasons.{first_of, spot_place}
use Rattle.why_text.specs.WhyText.{reason_lines, spot_text}
use Rattle.boot_looks.specs.declared.boot.BootLooks.{BootLooks}
use Rattle.boot_looks.specs.declared.visit.Look.{Look}
use Rattle.boot_looks.specs.Looks.{AreBootLooks, is_on_bus, look_at}
use Rattle.gone_rows.specs.Gone.{Stated}
use Rattle.why_answers.specs.Near.{near_answer}
use Rattle.why_answers.specs.Takes.{takes_text}
use Rattle.why_answers.specs.declared.unsearched.Unsearched.{Unsearched}
use Rattle.why_answers.specs.declared.unsearched.Unsearched.TheVariants.{NoDevice, NotOffered, Absent, Late}

-- ---- why no search came to a spot

-- no device is on the spot above it, or it does not offer the attribute
abbrev pub below_spot : Setup → List Dev → ℕ → ℕ → Option Unsearched
below_spot s live x above = option_map_or (λ d. if is_on_bus s d x then None else Some (NotOffered d.serial)) (device_on live above) (Some (NoDevice above))

abbrev pub without_bus : Setup → List Dev → ℕ → Option Unsearched
without_bus s live x = option_and_then (λ spot. option_and_then (below_spot s live x) spot.parent) (slice_get s.machine.spots x)

-- the first reason that applies when the boot has ended
abbrev pub unsearched : World → ℕ → Option Unsearched
unsearched w x =
    first_of (without_bus w.setup w.live x
    ∷ (if has w.absent x then Some Absent else None)
    ∷ (if has w.hidden x then Some Late else None) ∷ [])

abbrev pub device_text : Setup → List Dev → ℕ → List ℕ
device_text s live serial = option_map_or (name_of s) (device_at live serial) []

abbrev pub not_offered_text : Setup → List Dev → ℕ → ℕ → List ℕ
not_offered_text s live serial x = device_text s live serial ++ codes " does not offer " ++ place_name s.tables (spot_place s.machine x)

abbrev pub no_device_text : Setup → ℕ → List ℕ
no_device_text s above = codes "no device is on its parent spot " ++ spot_text s.machine above

abbrev pub unsearched_text : Setup → List Dev → ℕ → Unsearched → List ℕ
unsearched_text s live x (NoDevice above) = no_device_text s above
unsearched_text s live x (NotOffered serial) = not_offered_text s live serial x
unsearched_text s live x Absent = codes "it is absent"
unsearched_text s live x Late = codes "it is late, and no finalizer has shown it"

-- ---- the first line

-- the reason, behind a colon
abbrev pub reason_text : World → ℕ → List ℕ
reason_text w x = option_map_or (λ why. codes ": " ++ unsearched_text w.setup w.live x why) (unsearched w x) []

-- that no search came to it, and why
abbrev pub never_text : World → ℕ → List ℕ
never_text w x = codes ": never searched" ++ reason_text w x

-- the device on a spot, with its row
abbrev pub came_text : Setup → List Dev → ℕ → List ℕ
came_text s live x = option_map_or (λ d. name_of s d ++ codes " row " ++ decimal d.row) (device_on live x) (codes "not configured")

-- at the end of a search row by row, that it was one
abbrev pub passing_text : Bool → List ℕ
passing_text false = codes ": "
passing_text true = codes ", row by row: "

-- where it was searched last
abbrev pub searched_text : Setup → Look → List ℕ
searched_text s look = codes " below " ++ parent_name s look.live.devices look.visit.parent ++ passing_text look.visit.passed

abbrev pub seen_text : Setup → ℕ → World → Look → List ℕ
seen_text s x end look = searched_text s look ++ came_text s end.live x

abbrev pub head_text : Setup → ℕ → World → Option Look → List ℕ
head_text s x end look = codes "spot " ++ spot_text s.machine x ++ option_map_or (seen_text s x end) look (never_text end x)

-- ---- the answer

-- the rows, with the devices that were live then
abbrev pub look_lines : Setup → ℕ → Look → List (List ℕ)
look_lines s x look = reason_lines (takes_text look.visit.passed) s look.live.devices look.visit.parent x

-- the lines of the last search of the boot that came to the spot, or why none did
abbrev pub spot_answer : Setup → ℕ → World → Option Look → List (List ℕ)
spot_answer s x end look = head_text s x end look ∷ option_map_or (look_lines s x) look []

-- the spot that has the name, or else the one of the device that has it when the boot has ended
abbrev pub spot_by : Setup → World → List ℕ → Option ℕ
spot_by s end name = option_or (spot_number s.machine.spots name) (option_map (λ d. d.spot) (device_named s end.live name))

-- the lines for the spot of the name, or if there is none those for the rows of the name
abbrev pub answer_by : Setup → List (Option Look) → World → Stated → List ℕ → Option (List (List ℕ))
answer_by s looks end stated name = option_map_or (λ x. Some (spot_answer s x end (look_at looks x))) (spot_by s end name) (near_answer s looks stated name)

-- they are those of a boot
abbrev pub IsAnswer : Setup → Stated → List ℕ → Option (List (List ℕ)) → Type 0
IsAnswer s stated name answer = (b : BootLooks) × AreBootLooks s b × (answer ≡ answer_by s b.looks (world_of s b.end) stated name)
