-- Why a program ends so whose scripts may stand still.
use Rattle.std.proofs.Common.{inl, inr, ◌≡◌, ℕ, Option, Some, None, List, refl, sym, subst}
use Rattle.std.specs.Prelude.{◌⊎◌, IfSome, Result}
use Rattle.std.specs.Prelude as std
use Rattle.cf_io.specs.Faults.{Rose}
use Rattle.cf_io.specs.Told.{Told}
use Rattle.config_rules.specs.Reading.{Files}
use Rattle.app_words.specs.declared.status.Status.{Status}
use Rattle.app_words.specs.declared.status.Status.TheVariants.{Ok, ConfigRefused, Usage, MachineRefused, ScriptRefused, HistoryRefused, Absent, TooLong, ReadFault, WriteFault, Memory, Stuck, Worlds, Unknown}
use Rattle.app_output.specs.Ended.{Faults, OrMemory}
use Rattle.app_output.specs.Output.{Writes}
use Rattle.app_output.specs.Still.{AsksBy, AsksEither, EndsWith, Explains, FindsText, IsDueStatus, written_as}
use Rattle.app_output.specs.declared.stop.OutputStop.{OutputStop}
use Rattle.app_output.specs.declared.stop.OutputStop.TheVariants as stops
use Rattle.app_output.proofs.Ended.{explains_told, explains_written, faults_told, faults_written}

either : (Whole : List ℕ → Type 0) (Still : List ℕ → List ℕ → Type 0) (AllEnded : Type 0) (waits text : List ℕ) → FindsText Whole Still AllEnded waits text → AsksEither Whole Still text
either Whole Still AllEnded waits text (inl (all, asks)) = inl asks
either Whole Still AllEnded waits text (inr (some, asks)) = inr (waits, asks)

by_status : (Whole : List ℕ → Type 0) (Still : List ℕ → List ℕ → Type 0) (text : List ℕ) (status : Status) → AsksBy Whole Still status text → AsksEither Whole Still text
by_status Whole Still text Ok asks = inl asks
by_status Whole Still text (Stuck waits) asks = inr (waits, asks)
by_status Whole Still text (ConfigRefused file line code) asks = asks
by_status Whole Still text Usage asks = asks
by_status Whole Still text (MachineRefused line code) asks = asks
by_status Whole Still text (ScriptRefused which line code) asks = asks
by_status Whole Still text (HistoryRefused line) asks = asks
by_status Whole Still text (Absent name) asks = asks
by_status Whole Still text (TooLong name) asks = asks
by_status Whole Still text ReadFault asks = asks
by_status Whole Still text WriteFault asks = asks
by_status Whole Still text Memory asks = asks
by_status Whole Still text (Worlds most) asks = asks
by_status Whole Still text (Unknown name) asks = asks

-- telling of the status wanted memory
wanted : (Whole : List ℕ → Type 0) (Still : List ℕ → List ℕ → Type 0) (IsRefused : Status → Type 0) (old new : Told) (status : Status)
    → Explains Whole Still IsRefused old new status → Explains Whole Still IsRefused old new Memory
wanted Whole Still IsRefused old new status h =
    elim (explains_told (AsksBy Whole Still status) IsRefused old new (written_as status) Memory h (inr refl)) [
      | inl none ↦ inl none
      | inr some ↦ inr (some.0, by_status Whole Still some.0 status some.1, some.2)
    ]

pub told_so : (Whole : List ℕ → Type 0) (Still : List ℕ → List ℕ → Type 0) (IsRefused : Status → Type 0) (old new : Told) (status result : Status)
    → Explains Whole Still IsRefused old new status → (result ≡ status) ⊎ (result ≡ Memory) → Explains Whole Still IsRefused old new result
told_so Whole Still IsRefused old new status result h (inl e) = subst (Explains Whole Still IsRefused old new) (sym e) h
told_so Whole Still IsRefused old new status result h (inr e) = subst (Explains Whole Still IsRefused old new) (sym e) (wanted Whole Still IsRefused old new status h)

-- the words or the files are refused: never so that all was written, nor that writing failed
pub refused_so : (Whole : List ℕ → Type 0) (Still : List ℕ → List ℕ → Type 0) (IsRefused : Status → Type 0) (old : Told) (status : Status)
    → (IsRefused Ok → ⊥) → (IsRefused WriteFault → ⊥) → ((waits : List ℕ) → IsRefused (Stuck waits) → ⊥) → IsRefused status → Explains Whole Still IsRefused old old status
refused_so Whole Still IsRefused old Ok found written stuck refused = absurd (found refused)
refused_so Whole Still IsRefused old (Stuck waits) found written stuck refused = absurd (stuck waits refused)
refused_so Whole Still IsRefused old WriteFault found written stuck refused = absurd (written refused)
refused_so Whole Still IsRefused old Memory found written stuck refused = inl refl
refused_so Whole Still IsRefused old (ConfigRefused file line code) found written stuck refused = (refused, refl)
refused_so Whole Still IsRefused old Usage found written stuck refused = (refused, refl)
refused_so Whole Still IsRefused old (MachineRefused line code) found written stuck refused = (refused, refl)
refused_so Whole Still IsRefused old (ScriptRefused which line code) found written stuck refused = (refused, refl)
refused_so Whole Still IsRefused old (HistoryRefused line) found written stuck refused = (refused, refl)
refused_so Whole Still IsRefused old (Absent name) found written stuck refused = (refused, refl)
refused_so Whole Still IsRefused old (TooLong name) found written stuck refused = (refused, refl)
refused_so Whole Still IsRefused old ReadFault found written stuck refused = (refused, refl)
refused_so Whole Still IsRefused old (Worlds most) found written stuck refused = (refused, refl)
refused_so Whole Still IsRefused old (Unknown name) found written stuck refused = (refused, refl)

-- a text was found, and it was written or not
pub left_so : {A : Type 0} (Whole : List ℕ → Type 0) (Still : List ℕ → List ℕ → Type 0) (IsRefused : Status → Type 0) (AllEnded : Type 0) (waits text : List ℕ) (old new : Told)
    (written : Result A OutputStop) (status : Status) → FindsText Whole Still AllEnded waits text → Writes text old new written → EndsWith AllEnded waits written status
    → Explains Whole Still IsRefused old new status
left_so Whole Still IsRefused AllEnded waits text old new (std.Ok done) status found put (inl (all, e)) = subst (Explains Whole Still IsRefused old new) (sym e) (to_end found)
  where
    to_end : FindsText Whole Still AllEnded waits text → Explains Whole Still IsRefused old new Ok
    to_end (inl (over, asks)) = (text, asks, put.0)
    to_end (inr (some, asks)) = absurd (some all)
left_so Whole Still IsRefused AllEnded waits text old new (std.Ok done) status found put (inr (some, inr e)) = subst (Explains Whole Still IsRefused old new) (sym e) (to_stand found)
  where
    to_stand : FindsText Whole Still AllEnded waits text → Explains Whole Still IsRefused old new (Stuck waits)
    to_stand (inl (over, asks)) = absurd (some over)
    to_stand (inr (more, asks)) = (text, asks, put.0)
left_so Whole Still IsRefused AllEnded waits text old new (std.Ok done) status found put (inr (some, inl e)) =
    subst (Explains Whole Still IsRefused old new) (sym e)
    (explains_told (AsksEither Whole Still) IsRefused old new Ok Memory (text, either Whole Still AllEnded waits text found, put.0) (inr refl))
left_so {A} Whole Still IsRefused AllEnded waits text old new (std.Err stops.WriteFault) status found put e =
    subst (Explains Whole Still IsRefused old new) (sym e)
    (explains_written {A = A} (AsksEither Whole Still) IsRefused text old new (std.Err stops.WriteFault) (either Whole Still AllEnded waits text found) put)
left_so {A} Whole Still IsRefused AllEnded waits text old new (std.Err stops.Memory) status found put e =
    subst (Explains Whole Still IsRefused old new) (sym e)
    (explains_written {A = A} (AsksEither Whole Still) IsRefused text old new (std.Err stops.Memory) (either Whole Still AllEnded waits text found) put)

-- ---- faults

pub faults_left : {A : Type 0} (AllEnded : Type 0) (waits text : List ℕ) (reads reads' : ℕ) (old new : Told) (written : Result A OutputStop) (status : Status)
    → reads' ≡ reads → Writes text old new written → EndsWith AllEnded waits written status → Faults reads reads' old.faults new.faults status
faults_left AllEnded waits text reads reads' old new (std.Ok done) status same put (inl (all, e)) = subst (Faults reads reads' old.faults new.faults) (sym e) (same, put.1)
faults_left AllEnded waits text reads reads' old new (std.Ok done) status same put (inr (some, inr e)) = subst (Faults reads reads' old.faults new.faults) (sym e) (same, put.1)
faults_left AllEnded waits text reads reads' old new (std.Ok done) status same put (inr (some, inl e)) =
    subst (Faults reads reads' old.faults new.faults) (sym e) (faults_told reads reads' old.faults new.faults Ok Memory (same, put.1) (inr refl))
faults_left {A} AllEnded waits text reads reads' old new (std.Err stops.WriteFault) status same put e =
    subst (Faults reads reads' old.faults new.faults) (sym e) (faults_written {A = A} text reads reads' old new (std.Err stops.WriteFault) same put)
faults_left {A} AllEnded waits text reads reads' old new (std.Err stops.Memory) status same put e =
    subst (Faults reads reads' old.faults new.faults) (sym e) (faults_written {A = A} text reads reads' old new (std.Err stops.Memory) same put)

-- ---- the status that is due, where scripts that stand still may come later

called_for : (IsLater CallsFor : Status → Type 0) → (IsLater Ok → ⊥) → IsDueStatus IsLater CallsFor Ok → CallsFor Ok
called_for IsLater CallsFor never (inl calls) = calls
called_for IsLater CallsFor never (inr (later, calls)) = absurd (never later)

due_over : {A : Type 0} (IsLater CallsFor : Status → Type 0) (AllEnded : Type 0) (waits text : List ℕ) (old new : Told) (written : Result A OutputStop) (status : Status)
    → (IsLater Ok → ⊥) → IsLater (Stuck waits) → OrMemory (IsDueStatus IsLater CallsFor) Ok → Writes text old new written → EndsWith AllEnded waits written status
    → ¬ Rose old.faults new.faults → OrMemory (IsDueStatus IsLater CallsFor) status
due_over IsLater CallsFor AllEnded waits text old new (std.Ok done) status never later due put (inl (all, e)) quiet = subst (OrMemory (IsDueStatus IsLater CallsFor)) (sym e) due
due_over IsLater CallsFor AllEnded waits text old new (std.Ok done) status never later (inr due) put (inr (some, inr e)) quiet =
    subst (OrMemory (IsDueStatus IsLater CallsFor)) (sym e) (inr (inr (later, called_for IsLater CallsFor never due)))
due_over IsLater CallsFor AllEnded waits text old new (std.Ok done) status never later (inl memory) put (inr (some, inr e)) quiet = absurd cc
due_over IsLater CallsFor AllEnded waits text old new (std.Ok done) status never later due put (inr (some, inl e)) quiet = inl e
due_over IsLater CallsFor AllEnded waits text old new (std.Err stops.WriteFault) status never later due put e quiet = absurd (quiet put.1.1)
due_over IsLater CallsFor AllEnded waits text old new (std.Err stops.Memory) status never later due put e quiet = inl e

pub due_left : {A : Type 0} (told : Option Files) (IsLater : Status → Type 0) (CallsFor : Files → Status → Type 0) (AllEnded : Type 0) (waits text : List ℕ) (before after : ℕ) (old new : Told)
    (written : Result A OutputStop) (status : Status) → (IsLater Ok → ⊥) → IsLater (Stuck waits)
    → IfSome told (λ files. ¬ Rose before after → OrMemory (IsDueStatus IsLater (CallsFor files)) Ok) → Writes text old new written → EndsWith AllEnded waits written status
    → IfSome told (λ files. ¬ Rose before after → ¬ Rose old.faults new.faults → OrMemory (IsDueStatus IsLater (CallsFor files)) status)
due_left None IsLater CallsFor AllEnded waits text before after old new written status never later due put ends = due
due_left (Some files) IsLater CallsFor AllEnded waits text before after old new written status never later due put ends =
    λ unread unwritten. due_over IsLater (CallsFor files) AllEnded waits text old new written status never later (due unread) put ends unwritten
