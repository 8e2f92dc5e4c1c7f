-- The spelling of an event, one line for each: this project's profile. No two different formed events have one spelling
-- (proofs/Spelling of dev_event).
use Rattle.std.specs.Prelude.{◌≤◌, ◌<◌, ◌^◌, ℕ, Bool, not, ◌&&◌, IsTrue, List, ◌∷◌, ◌++◌, length, map, flat_map, Option, Some, None, ⊤, IfSome, IsSome, bytes_eq, nat_le, decimal, codes}
use Rattle.std.specs.List.{AllByRecursion}
use Rattle.cf_text.specs.Shapes.{is_name, is_written, ends_with_digit}
use Rattle.run_rules.specs.declared.event.Event.{Event}
use Rattle.run_rules.specs.declared.event.Act.{Act}
use Rattle.run_rules.specs.declared.event.Act.TheVariants as act
use Rattle.run_rules.specs.declared.event.Got.{Got}
use Rattle.run_rules.specs.declared.event.Shown.{Shown}
use Rattle.run_rules.specs.declared.event.Reply.{Reply}
use Rattle.run_rules.specs.declared.event.Reply.TheVariants as reply
use Rattle.run_rules.specs.declared.event.IoAnswer.{IoAnswer}
use Rattle.run_rules.specs.declared.event.IoAnswer.TheVariants as answer
use Rattle.run_rules.specs.declared.event.DepthName.{DepthName}
use Rattle.run_rules.specs.declared.event.PowerKind.{PowerKind}
use Rattle.run_rules.specs.declared.event.PowerKind.TheVariants as kind
use Rattle.run_rules.specs.World.{root_name}
use Rattle.cf_types.specs.Lines.{text_of}

-- ---- the spelling

abbrev pub reply_text : Reply → List ℕ
reply_text reply.Ok = codes "ok"
reply_text reply.NoDevice = codes "no device"
reply_text reply.Gone = codes "gone"
reply_text reply.Exclusive = codes "exclusive"
reply_text reply.TooMany = codes "too many"
reply_text reply.Shared = codes "shared"
reply_text reply.NotHeld = codes "not held"
reply_text reply.Asleep = codes "asleep"
reply_text (reply.Busy name) = codes "busy " ++ name
reply_text (reply.NotSupported name) = codes "not supported " ++ name
reply_text (reply.SuspendFailed name) = codes "suspend failed " ++ name
reply_text reply.NoRescan = codes "no rescan"
reply_text reply.BadAttribute = codes "bad attribute"
reply_text reply.BadLocator = codes "bad locator"
reply_text reply.NoSpot = codes "no spot"

-- the reply to a transfer that begins
abbrev pub started_text : Reply → List ℕ
started_text reply.Ok = codes "started"
started_text r = reply_text r

abbrev pub answer_text : IoAnswer → List ℕ
answer_text (answer.Number n) = decimal n
answer_text answer.DeviceError = codes "error"

-- the device that was attached, and its row
abbrev pub got_text : Option Got → List ℕ
got_text None = codes "not configured"
got_text (Some got) = got.name ++ codes " row " ++ decimal got.row

-- what a finaliser answered: 1 and the spot that it showed, or 0
abbrev pub shown_text : Option Shown → List ℕ
shown_text None = codes "0"
shown_text (Some shown) = codes "1 on " ++ shown.spot ++ codes ": " ++ got_text shown.got

-- the device that a list or a tree is of, if it is not the root
abbrev pub of_text : Option (List ℕ) → List ℕ
of_text None = codes ":"
of_text (Some name) = codes " " ++ name ++ codes ":"

abbrev pub names_text : Option (List (List ℕ)) → List ℕ
names_text None = codes " no device"
names_text (Some names) = flat_map (λ name. codes " " ++ name) names

abbrev pub depth_names_text : Option (List DepthName) → List ℕ
depth_names_text None = codes " no device"
depth_names_text (Some names) = flat_map (λ d. codes " " ++ decimal d.depth ++ codes " " ++ d.name) names

abbrev pub power_word : PowerKind → List ℕ
power_word kind.Suspend = codes "suspend "
power_word kind.Resume = codes "resume "
power_word kind.ResumeTree = codes "resumetree "

abbrev pub said_of : List ℕ → List ℕ → List ℕ → List ℕ
said_of word name text = word ++ name ++ codes ": " ++ text

unfoldable pub act_text : Act → List ℕ
act_text (act.Found parent spot got) = said_of (codes "found ") (parent ++ codes " on " ++ spot) (got_text got)
act_text (act.ScanEnd device) = said_of (codes "scan ") device (codes "done")
act_text act.Interrupts = codes "interrupts"
act_text (act.Final device shown) = said_of (codes "final ") device (shown_text shown)
act_text act.End = codes "end"
act_text (act.DropRef device) = codes "drop " ++ device
act_text (act.OpenDev device r) = said_of (codes "open ") device (reply_text r)
act_text (act.OpenSole device r) = said_of (codes "open -x ") device (reply_text r)
act_text (act.CloseDev device r) = said_of (codes "close ") device (reply_text r)
act_text (act.IoStart device value r) = codes "io " ++ device ++ codes " " ++ decimal value ++ codes ": " ++ started_text r
act_text (act.IoDone device answer) = said_of (codes "done ") device (answer_text answer)
act_text (act.Detach device r) = said_of (codes "detach ") device (reply_text r)
act_text (act.Free device) = codes "free " ++ device
act_text (act.Rescan device r) = said_of (codes "rescan ") device (reply_text r)
act_text (act.ListDev device names) = codes "list" ++ of_text device ++ names_text names
act_text (act.TreeDev device names) = codes "tree" ++ of_text device ++ depth_names_text names
act_text (act.Power kind device r) = said_of (power_word kind) device (reply_text r)
act_text (act.Sleep device) = codes "sleep " ++ device
act_text (act.Wake device) = codes "wake " ++ device
act_text (act.PowerEnd device r) = said_of (codes "power ") device (reply_text r)
act_text (act.Plug spot r) = said_of (codes "plug ") spot (reply_text r)
act_text (act.Unplug spot r) = said_of (codes "unplug ") spot (reply_text r)

-- the caller, the number of its command, and the act
unfoldable pub line_of : Event → List ℕ
line_of e = decimal e.caller ++ codes "." ++ decimal e.number ++ codes " " ++ act_text e.act

-- a whole history
unfoldable pub lines : List Event → List ℕ
lines h = text_of (codes "history 2" ∷ map line_of h)

-- ---- format 1, as histories were written before: a search tells no spot, and an attachment no row

abbrev pub got_text_1 : Option Got → List ℕ
got_text_1 None = codes "not configured"
got_text_1 (Some got) = got.name

abbrev pub shown_text_1 : Option Shown → List ℕ
shown_text_1 None = codes "0"
shown_text_1 (Some shown) = codes "1 " ++ got_text_1 shown.got

unfoldable pub act_text_1 : Act → List ℕ
act_text_1 (act.Found parent spot got) = said_of (codes "found ") parent (got_text_1 got)
act_text_1 (act.Final device shown) = said_of (codes "final ") device (shown_text_1 shown)
act_text_1 a = act_text a

unfoldable pub line_of_1 : Event → List ℕ
line_of_1 e = decimal e.caller ++ codes "." ++ decimal e.number ++ codes " " ++ act_text_1 e.act

unfoldable pub lines_1 : List Event → List ℕ
lines_1 h = text_of (codes "history 1" ∷ map line_of_1 h)

-- ---- formed events

-- the shape of a name, at most 80 bytes
abbrev pub is_known_name : List ℕ → Bool
is_known_name name = is_name name && nat_le (length name) 80

-- and that of a live device, which ends with its unit
abbrev pub is_device_name : List ℕ → Bool
is_device_name name = is_known_name name && ends_with_digit name

-- and that of a spot, which the machine writes
abbrev pub is_spot_name : List ℕ → Bool
is_spot_name name = is_written name && not (bytes_eq name root_name)

abbrev pub IsFormedName : List ℕ → Type 0
IsFormedName name = IsTrue (is_known_name name)

abbrev pub IsDeviceName : List ℕ → Type 0
IsDeviceName name = IsTrue (is_device_name name)

-- the replies of each kind of act
abbrev pub MayOpen : Reply → Type 0
MayOpen reply.Ok = ⊤
MayOpen reply.NoDevice = ⊤
MayOpen reply.Gone = ⊤
MayOpen reply.Exclusive = ⊤
MayOpen reply.TooMany = ⊤
MayOpen _ = ⊥

abbrev pub MayOpenSole : Reply → Type 0
MayOpenSole reply.Ok = ⊤
MayOpenSole reply.NoDevice = ⊤
MayOpenSole reply.Gone = ⊤
MayOpenSole reply.Shared = ⊤
MayOpenSole _ = ⊥

abbrev pub MayClose : Reply → Type 0
MayClose reply.Ok = ⊤
MayClose reply.NotHeld = ⊤
MayClose _ = ⊥

abbrev pub MayStart : Reply → Type 0
MayStart reply.Ok = ⊤
MayStart reply.NotHeld = ⊤
MayStart reply.Asleep = ⊤
MayStart _ = ⊥

abbrev pub MayDetach : Reply → Type 0
MayDetach reply.Ok = ⊤
MayDetach reply.NoDevice = ⊤
MayDetach reply.Gone = ⊤
MayDetach (reply.Busy name) = IsDeviceName name
MayDetach _ = ⊥

abbrev pub MayRescan : Reply → Type 0
MayRescan reply.Ok = ⊤
MayRescan reply.NoDevice = ⊤
MayRescan reply.Gone = ⊤
MayRescan (reply.Busy name) = IsDeviceName name
MayRescan reply.Asleep = ⊤
MayRescan reply.NoRescan = ⊤
MayRescan reply.BadAttribute = ⊤
MayRescan reply.BadLocator = ⊤
MayRescan _ = ⊥

abbrev pub MayPower : Reply → Type 0
MayPower reply.Ok = ⊤
MayPower reply.NoDevice = ⊤
MayPower reply.Gone = ⊤
MayPower _ = ⊥

abbrev pub MayEndPower : Reply → Type 0
MayEndPower reply.Ok = ⊤
MayEndPower reply.Gone = ⊤
MayEndPower (reply.NotSupported name) = IsDeviceName name
MayEndPower (reply.SuspendFailed name) = IsDeviceName name
MayEndPower _ = ⊥

abbrev pub MayPlug : Reply → Type 0
MayPlug reply.Ok = ⊤
MayPlug reply.NoSpot = ⊤
MayPlug _ = ⊥

abbrev pub MayUnplug : Reply → Type 0
MayUnplug reply.Ok = ⊤
MayUnplug reply.NoSpot = ⊤
MayUnplug (reply.Busy name) = IsDeviceName name
MayUnplug _ = ⊥

abbrev pub IsSpotName : List ℕ → Type 0
IsSpotName name = IsTrue (is_spot_name name)

-- a device that comes has a device's name, and a row of the tables
abbrev pub IsFormedGot : Got → Type 0
IsFormedGot got = IsDeviceName got.name × (got.row ≤ 8191)

abbrev pub IsFormedShown : Shown → Type 0
IsFormedShown shown = IsSpotName shown.spot × IfSome shown.got IsFormedGot

abbrev pub IsFormedAnswer : IoAnswer → Type 0
IsFormedAnswer (answer.Number n) = n < 2 ^ 32
IsFormedAnswer answer.DeviceError = ⊤

abbrev pub IsFormedDepthName : DepthName → Type 0
IsFormedDepthName d = IsDeviceName d.name × (d.depth < 2 ^ 32)

-- a list that is not of one device always has its names
abbrev pub MayTell : {A : Type 0} → (A → Type 0) → Option (List ℕ) → Option (List A) → Type 0
MayTell P None names = IsSome names × IfSome names (AllByRecursion P)
MayTell P (Some name) names = IsFormedName name × IfSome names (AllByRecursion P)

abbrev pub IsFormedAct : Act → Type 0
IsFormedAct (act.Found parent spot got) = IsFormedName parent × IsSpotName spot × IfSome got IsFormedGot
IsFormedAct (act.ScanEnd device) = IsFormedName device
IsFormedAct act.Interrupts = ⊤
IsFormedAct (act.Final device shown) = IsFormedName device × IfSome shown IsFormedShown
IsFormedAct act.End = ⊤
IsFormedAct (act.DropRef device) = IsFormedName device
IsFormedAct (act.OpenDev device r) = IsFormedName device × MayOpen r
IsFormedAct (act.OpenSole device r) = IsFormedName device × MayOpenSole r
IsFormedAct (act.CloseDev device r) = IsFormedName device × MayClose r
IsFormedAct (act.IoStart device value r) = IsFormedName device × MayStart r × (value < 2 ^ 32)
IsFormedAct (act.IoDone device answer) = IsFormedName device × IsFormedAnswer answer
IsFormedAct (act.Detach device r) = IsFormedName device × MayDetach r
IsFormedAct (act.Free device) = IsFormedName device
IsFormedAct (act.Rescan device r) = IsFormedName device × MayRescan r
IsFormedAct (act.ListDev device names) = MayTell IsDeviceName device names
IsFormedAct (act.TreeDev device names) = MayTell IsFormedDepthName device names
IsFormedAct (act.Power kind device r) = IsFormedName device × MayPower r
IsFormedAct (act.Sleep device) = IsFormedName device
IsFormedAct (act.Wake device) = IsFormedName device
IsFormedAct (act.PowerEnd device r) = IsFormedName device × MayEndPower r
IsFormedAct (act.Plug spot r) = IsFormedName spot × MayPlug r
IsFormedAct (act.Unplug spot r) = IsFormedName spot × MayUnplug r

-- an event that a line may spell
pub record IsFormed (e : Event) : Type 0 where
  pub caller : e.caller ≤ 16
  pub number : e.number < 2 ^ 32
  pub act : IsFormedAct e.act
