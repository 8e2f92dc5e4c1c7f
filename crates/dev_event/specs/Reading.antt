-- The one event that a line may spell: what it is made of is cut out at blanks, colons and the first dot. A line that spells
-- no event gives none, or an event with another spelling.
use Rattle.std.specs.Prelude.{ℕ, ◌+◌, ◌*◌, ◌%◌, ◌^◌, ◌==◌, if◌then◌else◌, List, [], ◌∷◌, find, bytes_eq, codes, Option, Some, None, option_map, option_and_then}
use Rattle.std.specs.List.{fold}
use Rattle.run_rules.specs.declared.event.Event.{Event}
use Rattle.run_rules.specs.declared.event.Act.{Act}
use Rattle.run_rules.specs.declared.event.Act.TheVariants as act
use Rattle.run_rules.specs.declared.event.Got.{Got}
use Rattle.run_rules.specs.declared.event.Shown.{Shown}
use Rattle.run_rules.specs.declared.event.Reply.{Reply}
use Rattle.run_rules.specs.declared.event.Reply.TheVariants as reply
use Rattle.run_rules.specs.declared.event.IoAnswer.{IoAnswer}
use Rattle.run_rules.specs.declared.event.IoAnswer.TheVariants as answer
use Rattle.run_rules.specs.declared.event.DepthName.{DepthName}
use Rattle.run_rules.specs.declared.event.PowerKind.TheVariants as kind
use Rattle.run_rules.specs.Lines.{is_known_name}
use Rattle.dev_event.specs.declared.word.ActWord.{ActWord}
use Rattle.dev_event.specs.declared.word.ActWord.TheVariants as word
use Rattle.dev_event.specs.declared.word.Named.{Named}
use Rattle.dev_event.specs.declared.word.Named.TheVariants as named
use Rattle.dev_event.specs.declared.word.Said.{Said}
use Rattle.dev_event.specs.declared.word.Said.TheVariants as said
use Rattle.dev_event.specs.declared.word.TheConstants.{ACT_WORDS}
use Rattle.dev_event.specs.Words.{spelling_of}

-- ---- cutting

-- what stands before the first such byte: all, where there is none
abbrev pub before : ℕ → List ℕ → List ℕ
before mark [] = []
before mark (c ∷ cs) = if c == mark then [] else c ∷ before mark cs

-- what stands behind the first such byte: nothing, where there is none
abbrev pub behind : ℕ → List ℕ → List ℕ
behind mark [] = []
behind mark (c ∷ cs) = if c == mark then cs else behind mark cs

-- the text of which a byte is the first
abbrev pub onto_first : ℕ → List (List ℕ) → List (List ℕ)
onto_first c [] = []
onto_first c (piece ∷ pieces) = (c ∷ piece) ∷ pieces

-- the pieces between blanks
abbrev pub pieces : List ℕ → List (List ℕ)
pieces [] = [] ∷ []
pieces (c ∷ cs) = if c == 32 then [] ∷ pieces cs else onto_first c (pieces cs)

-- the number that digits spell, modulo 2^32
abbrev pub number_in : List ℕ → ℕ
number_in digits = fold (λ n c. (n * 10 + c % 16) % 2 ^ 32) 0 digits

abbrev pub name_in : List ℕ → Option (List ℕ)
name_in text = if is_known_name text then Some text else None

-- ---- replies and answers

abbrev pub plain_reply : List ℕ → Option Reply
plain_reply text =
    if bytes_eq text (codes "ok") then Some reply.Ok
    else (if bytes_eq text (codes "no device") then Some reply.NoDevice
    else (if bytes_eq text (codes "gone") then Some reply.Gone
    else (if bytes_eq text (codes "exclusive") then Some reply.Exclusive
    else (if bytes_eq text (codes "too many") then Some reply.TooMany
    else (if bytes_eq text (codes "shared") then Some reply.Shared
    else (if bytes_eq text (codes "not held") then Some reply.NotHeld
    else (if bytes_eq text (codes "asleep") then Some reply.Asleep
    else (if bytes_eq text (codes "no rescan") then Some reply.NoRescan
    else (if bytes_eq text (codes "bad attribute") then Some reply.BadAttribute
    else (if bytes_eq text (codes "bad locator") then Some reply.BadLocator
    else (if bytes_eq text (codes "no spot") then Some reply.NoSpot
    else None)))))))))))

-- the replies that name a device, by their first words
abbrev pub named_reply : List ℕ → Option Reply
named_reply text =
    if bytes_eq (before 32 text) (codes "busy") then option_map reply.Busy (name_in (behind 32 text))
    else (if bytes_eq (before 32 text) (codes "not") then option_map reply.NotSupported (name_in (behind 32 (behind 32 text)))
    else option_map reply.SuspendFailed (name_in (behind 32 (behind 32 text))))

abbrev pub or_named : Option Reply → List ℕ → Option Reply
or_named (Some r) text = Some r
or_named None text = named_reply text

abbrev pub reply_in : List ℕ → Option Reply
reply_in text = or_named (plain_reply text) text

abbrev pub started_in : List ℕ → Option Reply
started_in text = if bytes_eq text (codes "started") then Some reply.Ok else reply_in text

abbrev pub answer_in : List ℕ → IoAnswer
answer_in text = if bytes_eq text (codes "error") then answer.DeviceError else answer.Number (number_in text)

-- ---- what was attached

-- `NAME row R`
abbrev pub got_in : List ℕ → Option (Option Got)
got_in text =
    if bytes_eq text (codes "not configured") then Some None
    else option_map (λ name. Some (record { name = name; row = number_in (behind 32 (behind 32 text)) })) (name_in (before 32 text))

-- `SPOT: NAME row R`
abbrev pub placed_in : List ℕ → Option Shown
placed_in text =
    option_and_then (λ spot. option_map (λ got. record { spot = spot; got = got }) (got_in (behind 32 text))) (name_in (before 58 text))

-- `1 on SPOT: NAME row R`
abbrev pub shown_in : List ℕ → Option (Option Shown)
shown_in text = if bytes_eq text (codes "0") then Some None else option_map Some (placed_in (behind 32 (behind 32 text)))

-- ---- lists and trees

abbrev pub all_named : List (List ℕ) → Option (List (List ℕ))
all_named [] = Some []
all_named (piece ∷ pieces) = option_and_then (λ name. option_map (λ names. name ∷ names) (all_named pieces)) (name_in piece)

-- depths and names take turns
abbrev pub all_deep : List (List ℕ) → Option (List DepthName)
all_deep [] = Some []
all_deep (depth ∷ []) = None
all_deep (depth ∷ piece ∷ pieces) =
    option_and_then (λ name. option_map (λ names. record { depth = number_in depth; name = name } ∷ names) (all_deep pieces)) (name_in piece)

-- what is listed: nothing, names, or that there is no device
abbrev pub listed_by : {A : Type 0} → (List (List ℕ) → Option (List A)) → List ℕ → Option (Option (List A))
listed_by all [] = Some (Some [])
listed_by all (c ∷ cs) = if bytes_eq (c ∷ cs) (codes "no device") then Some None else option_map Some (all (pieces (c ∷ cs)))

-- ---- acts, by what stands behind their first word

-- `DEVICE: TEXT`
abbrev pub told_in : List ℕ → Option (List ℕ × Reply)
told_in rest = option_and_then (λ device. option_map (λ r. (device, r)) (reply_in (behind 32 rest))) (name_in (before 58 rest))

abbrev pub said_in : (List ℕ → Reply → Act) → List ℕ → Option Act
said_in make rest = option_map (λ told. make told.0 told.1) (told_in rest)

abbrev pub found_in : List ℕ → Option Act
found_in rest =
    option_and_then (λ parent. option_map (λ at. act.Found parent at.spot at.got) (placed_in (behind 32 (behind 32 rest)))) (name_in (before 32 rest))

abbrev pub final_in : List ℕ → Option Act
final_in rest = option_and_then (λ device. option_map (act.Final device) (shown_in (behind 32 rest))) (name_in (before 58 rest))

-- `-x DEVICE: TEXT` asks for sole use
abbrev pub open_in : List ℕ → Option Act
open_in rest = if bytes_eq (before 32 rest) (codes "-x") then said_in act.OpenSole (behind 32 rest) else said_in act.OpenDev rest

-- `DEVICE VALUE: TEXT`
abbrev pub io_in : List ℕ → Option Act
io_in rest =
    option_and_then (λ device. option_map (act.IoStart device (number_in (before 58 (behind 32 rest)))) (started_in (behind 32 (behind 32 rest))))
    (name_in (before 32 rest))

abbrev pub done_in : List ℕ → Option Act
done_in rest = option_map (λ device. act.IoDone device (answer_in (behind 32 rest))) (name_in (before 58 rest))

abbrev pub list_in : List ℕ → Option Act
list_in rest =
    option_and_then (λ device. option_map (act.ListDev (Some device)) (listed_by all_named (behind 32 (behind 58 rest)))) (name_in (before 58 rest))

abbrev pub tree_in : List ℕ → Option Act
tree_in rest =
    option_and_then (λ device. option_map (act.TreeDev (Some device)) (listed_by all_deep (behind 32 (behind 58 rest)))) (name_in (before 58 rest))

abbrev pub named_act : Named → List ℕ → Act
named_act named.Drop device = act.DropRef device
named_act named.Free device = act.Free device
named_act named.Sleep device = act.Sleep device
named_act named.Wake device = act.Wake device

abbrev pub said_act : Said → List ℕ → Reply → Act
said_act said.Close device r = act.CloseDev device r
said_act said.Detach device r = act.Detach device r
said_act said.Rescan device r = act.Rescan device r
said_act said.Suspend device r = act.Power kind.Suspend device r
said_act said.Resume device r = act.Power kind.Resume device r
said_act said.ResumeTree device r = act.Power kind.ResumeTree device r
said_act said.Power device r = act.PowerEnd device r
said_act said.Plug spot r = act.Plug spot r
said_act said.Unplug spot r = act.Unplug spot r

abbrev pub act_by : ActWord → List ℕ → Option Act
act_by word.Found rest = found_in rest
act_by word.Scan rest = option_map act.ScanEnd (name_in (before 58 rest))
act_by word.Interrupts rest = Some act.Interrupts
act_by word.Final rest = final_in rest
act_by word.End rest = Some act.End
act_by word.Open rest = open_in rest
act_by word.Io rest = io_in rest
act_by word.Done rest = done_in rest
act_by word.List rest = list_in rest
act_by word.ListAll rest = option_map (act.ListDev None) (listed_by all_named rest)
act_by word.Tree rest = tree_in rest
act_by word.TreeAll rest = option_map (act.TreeDev None) (listed_by all_deep rest)
act_by (word.Names which) rest = option_map (named_act which) (name_in rest)
act_by (word.Says which) rest = said_in (said_act which) rest

abbrev pub word_in : List ℕ → Option ActWord
word_in text = find (λ w. bytes_eq (spelling_of w) text) ACT_WORDS

unfoldable pub act_in : List ℕ → Option Act
act_in text = option_and_then (λ w. act_by w (behind 32 text)) (word_in (before 32 text))

-- `CALLER.NUMBER ACT`
unfoldable pub event_in : List ℕ → Option Event
event_in line =
    option_map (λ a. record { caller = number_in (before 46 line) % 256; number = number_in (before 32 (behind 46 line)); act = a })
    (act_in (behind 32 (behind 46 line)))
