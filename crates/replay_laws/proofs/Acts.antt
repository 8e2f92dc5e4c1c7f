-- The text of an act whose names are of one line is of one line.
use Rattle.std.proofs.Common.{ℕ, List, [], ◌∷◌, ◌++◌, decimal, Option, Some, None, refl}
use Rattle.std.specs.Prelude.{⊤, IfSome, codes}
use Rattle.std.specs.List.{AllByRecursion}
use Rattle.run_rules.specs.declared.event.Act.{Act}
use Rattle.run_rules.specs.declared.event.Act.TheVariants as act
use Rattle.run_rules.specs.declared.event.DepthName.{DepthName}
use Rattle.run_rules.specs.declared.event.Got.{Got}
use Rattle.run_rules.specs.declared.event.IoAnswer.{IoAnswer}
use Rattle.run_rules.specs.declared.event.IoAnswer.TheVariants as answer
use Rattle.run_rules.specs.declared.event.PowerKind.{PowerKind}
use Rattle.run_rules.specs.declared.event.PowerKind.TheVariants as kind
use Rattle.run_rules.specs.declared.event.Reply.{Reply}
use Rattle.run_rules.specs.declared.event.Reply.TheVariants as reply
use Rattle.run_rules.specs.declared.event.Shown.{Shown}
use Rattle.run_rules.specs.Lines.{act_text, act_text_1, answer_text, depth_names_text, got_text, got_text_1, names_text, of_text, power_word, reply_text, said_of, shown_text, shown_text_1, started_text}
use Rattle.replay_laws.specs.OneLine.{IsOneLine}
use Rattle.replay_laws.proofs.OneLine.{all_joined, decimal_line, joined, joined_3, joined_4}

-- the names in a reply, in what came, in what a finaliser showed, and in an act
abbrev pub PlainReply : Reply → Type 0
PlainReply (reply.Busy name) = IsOneLine name
PlainReply (reply.NotSupported name) = IsOneLine name
PlainReply (reply.SuspendFailed name) = IsOneLine name
PlainReply _ = ⊤

abbrev pub PlainGot : Option Got → Type 0
PlainGot got = IfSome got (λ g. IsOneLine g.name)

abbrev pub PlainShown : Option Shown → Type 0
PlainShown shown = IfSome shown (λ x. IsOneLine x.spot × PlainGot x.got)

abbrev pub PlainAct : Act → Type 0
PlainAct (act.Found parent spot got) = IsOneLine parent × IsOneLine spot × PlainGot got
PlainAct (act.ScanEnd device) = IsOneLine device
PlainAct act.Interrupts = ⊤
PlainAct (act.Final device shown) = IsOneLine device × PlainShown shown
PlainAct act.End = ⊤
PlainAct (act.DropRef device) = IsOneLine device
PlainAct (act.OpenDev device r) = IsOneLine device × PlainReply r
PlainAct (act.OpenSole device r) = IsOneLine device × PlainReply r
PlainAct (act.CloseDev device r) = IsOneLine device × PlainReply r
PlainAct (act.IoStart device value r) = IsOneLine device × PlainReply r
PlainAct (act.IoDone device answer) = IsOneLine device
PlainAct (act.Detach device r) = IsOneLine device × PlainReply r
PlainAct (act.Free device) = IsOneLine device
PlainAct (act.Rescan device r) = IsOneLine device × PlainReply r
PlainAct (act.ListDev device names) = IfSome device IsOneLine × IfSome names (AllByRecursion IsOneLine)
PlainAct (act.TreeDev device names) = IfSome device IsOneLine × IfSome names (AllByRecursion (λ d. IsOneLine d.name))
PlainAct (act.Power kind device r) = IsOneLine device × PlainReply r
PlainAct (act.Sleep device) = IsOneLine device
PlainAct (act.Wake device) = IsOneLine device
PlainAct (act.PowerEnd device r) = IsOneLine device × PlainReply r
PlainAct (act.Plug spot r) = IsOneLine spot × PlainReply r
PlainAct (act.Unplug spot r) = IsOneLine spot × PlainReply r

-- ---- the parts of an act

reply_line : (r : Reply) → PlainReply r → IsOneLine (reply_text r)
reply_line reply.Ok h = refl
reply_line reply.NoDevice h = refl
reply_line reply.Gone h = refl
reply_line reply.Exclusive h = refl
reply_line reply.TooMany h = refl
reply_line reply.Shared h = refl
reply_line reply.NotHeld h = refl
reply_line reply.Asleep h = refl
reply_line (reply.Busy name) h = joined (codes "busy ") name refl h
reply_line (reply.NotSupported name) h = joined (codes "not supported ") name refl h
reply_line (reply.SuspendFailed name) h = joined (codes "suspend failed ") name refl h
reply_line reply.NoRescan h = refl
reply_line reply.BadAttribute h = refl
reply_line reply.BadLocator h = refl
reply_line reply.NoSpot h = refl

started_line : (r : Reply) → PlainReply r → IsOneLine (started_text r)
started_line reply.Ok h = refl
started_line r h = reply_line r h

answer_line : (a : IoAnswer) → IsOneLine (answer_text a)
answer_line (answer.Number n) = decimal_line n
answer_line answer.DeviceError = refl

got_line : (g : Option Got) → PlainGot g → IsOneLine (got_text g)
got_line None h = refl
got_line (Some g) h = joined_3 g.name (codes " row ") (decimal g.row) h refl (decimal_line g.row)

got_line_1 : (g : Option Got) → PlainGot g → IsOneLine (got_text_1 g)
got_line_1 None h = refl
got_line_1 (Some g) h = h

shown_line : (x : Option Shown) → PlainShown x → IsOneLine (shown_text x)
shown_line None h = refl
shown_line (Some x) h = joined_4 (codes "1 on ") x.spot (codes ": ") (got_text x.got) refl h.0 refl (got_line x.got h.1)

shown_line_1 : (x : Option Shown) → PlainShown x → IsOneLine (shown_text_1 x)
shown_line_1 None h = refl
shown_line_1 (Some x) h = joined (codes "1 ") (got_text_1 x.got) refl (got_line_1 x.got h.1)

of_line : (name : Option (List ℕ)) → IfSome name IsOneLine → IsOneLine (of_text name)
of_line None h = refl
of_line (Some name) h = joined_3 (codes " ") name (codes ":") refl h refl

each_line : (names : List (List ℕ)) → AllByRecursion IsOneLine names → AllByRecursion (λ name. IsOneLine (codes " " ++ name)) names
each_line [] h = tt
each_line (name ∷ names) h = (joined (codes " ") name refl h.0, each_line names h.1)

names_line : (names : Option (List (List ℕ))) → IfSome names (AllByRecursion IsOneLine) → IsOneLine (names_text names)
names_line None h = refl
names_line (Some names) h = all_joined (λ name. codes " " ++ name) names (each_line names h)

each_depth : (names : List DepthName) → AllByRecursion (λ d. IsOneLine d.name) names → AllByRecursion (λ d. IsOneLine (codes " " ++ decimal d.depth ++ codes " " ++ d.name)) names
each_depth [] h = tt
each_depth (d ∷ names) h = (joined_4 (codes " ") (decimal d.depth) (codes " ") d.name refl (decimal_line d.depth) refl h.0, each_depth names h.1)

depths_line : (names : Option (List DepthName)) → IfSome names (AllByRecursion (λ d. IsOneLine d.name)) → IsOneLine (depth_names_text names)
depths_line None h = refl
depths_line (Some names) h = all_joined (λ d. codes " " ++ decimal d.depth ++ codes " " ++ d.name) names (each_depth names h)

word_line : (k : PowerKind) → IsOneLine (power_word k)
word_line kind.Suspend = refl
word_line kind.Resume = refl
word_line kind.ResumeTree = refl

said_line : (word name text : List ℕ) → IsOneLine word → IsOneLine name → IsOneLine text → IsOneLine (said_of word name text)
said_line word name text p q r = joined_4 word name (codes ": ") text p q refl r

replied_line : (word name : List ℕ) (r : Reply) → IsOneLine word → IsOneLine name × PlainReply r → IsOneLine (said_of word name (reply_text r))
replied_line word name r p h = said_line word name (reply_text r) p h.0 (reply_line r h.1)

-- ---- acts

pub act_line : (a : Act) → PlainAct a → IsOneLine (act_text a)
unfolding act_text
act_line (act.Found parent spot got) h =
    said_line (codes "found ") (parent ++ codes " on " ++ spot) (got_text got) refl (joined_3 parent (codes " on ") spot h.0 refl h.1) (got_line got h.2)
act_line (act.ScanEnd device) h = said_line (codes "scan ") device (codes "done") refl h refl
act_line act.Interrupts h = refl
act_line (act.Final device shown) h = said_line (codes "final ") device (shown_text shown) refl h.0 (shown_line shown h.1)
act_line act.End h = refl
act_line (act.DropRef device) h = joined (codes "drop ") device refl h
act_line (act.OpenDev device r) h = replied_line (codes "open ") device r refl h
act_line (act.OpenSole device r) h = replied_line (codes "open -x ") device r refl h
act_line (act.CloseDev device r) h = replied_line (codes "close ") device r refl h
act_line (act.IoStart device value r) h =
    joined (codes "io " ++ device ++ codes " " ++ decimal value ++ codes ": ") (started_text r)
    (joined (codes "io " ++ device ++ codes " " ++ decimal value) (codes ": ") (joined_4 (codes "io ") device (codes " ") (decimal value) refl h.0 refl (decimal_line value)) refl) (started_line r h.1)
act_line (act.IoDone device answer) h = said_line (codes "done ") device (answer_text answer) refl h (answer_line answer)
act_line (act.Detach device r) h = replied_line (codes "detach ") device r refl h
act_line (act.Free device) h = joined (codes "free ") device refl h
act_line (act.Rescan device r) h = replied_line (codes "rescan ") device r refl h
act_line (act.ListDev device names) h = joined_3 (codes "list") (of_text device) (names_text names) refl (of_line device h.0) (names_line names h.1)
act_line (act.TreeDev device names) h = joined_3 (codes "tree") (of_text device) (depth_names_text names) refl (of_line device h.0) (depths_line names h.1)
act_line (act.Power kind device r) h = replied_line (power_word kind) device r (word_line kind) h
act_line (act.Sleep device) h = joined (codes "sleep ") device refl h
act_line (act.Wake device) h = joined (codes "wake ") device refl h
act_line (act.PowerEnd device r) h = replied_line (codes "power ") device r refl h
act_line (act.Plug spot r) h = replied_line (codes "plug ") spot r refl h
act_line (act.Unplug spot r) h = replied_line (codes "unplug ") spot r refl h

pub act_line_1 : (a : Act) → PlainAct a → IsOneLine (act_text_1 a)
unfolding act_text_1
act_line_1 (act.Found parent spot got) h = said_line (codes "found ") parent (got_text_1 got) refl h.0 (got_line_1 got h.2)
act_line_1 (act.Final device shown) h = said_line (codes "final ") device (shown_text_1 shown) refl h.0 (shown_line_1 shown h.1)
act_line_1 a h = act_line a h
