-- A script that ran to its end, on the lines of its history.
use Rattle.std.specs.Prelude.{◌≡◌, ⊤, ℕ, ◌+◌, Bool, true, false, ◌&&◌, ◌==◌, ◌<◌, List, [], ◌∷◌, ◌++◌, filter, length}
use Rattle.cf_types.specs.declared.machine.Command.{Command}
use Rattle.run_rules.specs.declared.event.Event.{Event}
use Rattle.run_rules.specs.declared.event.Act.{Act}
use Rattle.run_rules.specs.declared.event.Act.TheVariants as act
use Rattle.run_rules.specs.declared.event.Reply.{Reply}
use Rattle.run_rules.specs.Counts.{ends_of}
use Rattle.run_rules.specs.Run.{Boot, Run, told}
use Rattle.run_rules.specs.World.{World, has_ended, opening}
use Rattle.run_sound.specs.Scripts.{IsOfScript, script_of}

-- a line that answers a command: what else a command does is told in lines of other kinds
abbrev pub is_answer : Act → Bool
is_answer (act.OpenDev device r) = true
is_answer (act.OpenSole device r) = true
is_answer (act.CloseDev device r) = true
is_answer (act.IoStart device value r) = true
is_answer (act.Detach device r) = true
is_answer (act.Rescan device r) = true
is_answer (act.ListDev device names) = true
is_answer (act.TreeDev device names) = true
is_answer (act.Power kind device r) = true
is_answer (act.Plug spot r) = true
is_answer (act.Unplug spot r) = true
is_answer _ = false

-- the lines that answer the commands of caller k
abbrev pub answers_to : ℕ → List Event → List Event
answers_to k h = filter (λ e. e.caller == k && is_answer e.act) h

-- the line of this command, of this number, in some world and with some reply
pub record Answers (n : ℕ) (said : Command) (e : Event) : Type 0 where
  pub number : e.number ≡ n
  pub world : World
  pub reply : Reply
  pub line : e.act ≡ told world said reply

-- each line answers its command, in their order; they are numbered from n on
abbrev pub AnswerEach : ℕ → List Command → List Event → Type 0
AnswerEach n [] [] = ⊤
AnswerEach n [] (e ∷ es) = ⊥
AnswerEach n (c ∷ cs) [] = ⊥
AnswerEach n (c ∷ cs) (e ∷ es) = Answers n c e × AnswerEach (n + 1) cs es

-- the caller of the script has ended, and each command of the script was answered once, in their order
pub record RanWhole (h : List Event) (w : World) (k : ℕ) : Type 0 where
  pub ended : has_ended w k ≡ true
  pub answers : AnswerEach 1 (script_of w.setup k) (answers_to k h)

-- so it is where that caller has ended
abbrev pub WholeOnceEnded : List Event → World → Type 0
WholeOnceEnded h w = (k : ℕ) → IsOfScript w.setup k → has_ended w k ≡ true → RanWhole h w k

-- a history begins with the boot
abbrev pub BeginsWithBoot : List Event → World → Type 0
BeginsWithBoot h w = (boot rest : List Event) × (m : World) × (h ≡ boot ++ rest) × Boot (opening w.setup) boot m × Run m rest w

-- it begins with the boot, and every script ran to its end
pub record AllRanWhole (h : List Event) (w : World) : Type 0 where
  pub boot : BeginsWithBoot h w
  pub scripts : (k : ℕ) → IsOfScript w.setup k → RanWhole h w k

-- so it is where as many scripts have ended as there are, and there is one
abbrev pub WholeWhereAllEnded : List Event → World → Type 0
WholeWhereAllEnded h w = 0 < length w.setup.scripts → ends_of h ≡ length w.setup.scripts → AllRanWhole h w
