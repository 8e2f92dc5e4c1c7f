-- Why a program ends so, by what was found and written.
use Rattle.std.proofs.Common.{inl, inr, ◌≡◌, ℕ, ◌≤◌, Option, Some, None, List, [], ◌++◌, refl, sym, ap, ◌∙◌, subst, append-nil, arith}
use Rattle.std.specs.Prelude.{◌⊎◌, IfSome, IsErrAnd, Result}
use Rattle.std.specs.Prelude as std
use Rattle.cf_io.specs.Faults.{Rises, Rose}
use Rattle.cf_io.specs.Told.{Delivers, Grows, Takes, TakesFront, Told}
use Rattle.cf_io.proofs.GrowsLemmas.{part_flushed, whole_flushed}
use Rattle.config_rules.specs.Reading.{Files}
use Rattle.app_words.specs.Status.{Counts}
use Rattle.app_words.specs.declared.status.Status.{Status}
use Rattle.app_words.specs.declared.status.Status.TheVariants.{Ok, ConfigRefused, Usage, MachineRefused, ScriptRefused, HistoryRefused, Absent, TooLong, ReadFault, WriteFault, Memory, Stuck, Worlds, Unknown}
use Rattle.app_output.specs.Ended.{Explains, Faults, OrMemory, status_after}
use Rattle.app_output.specs.Output.{IsFlushed, Stops, Writes}
use Rattle.app_output.specs.declared.stop.OutputStop.{OutputStop}
use Rattle.app_output.specs.declared.stop.OutputStop.TheVariants as stops

-- ---- writing

-- a text was put, and then the output was flushed
pub wrote : {A : Type 0} (text : List ℕ) (old mid new : Told) (result : Result A OutputStop)
    → Grows text old mid × (mid.faults ≡ old.faults) → IsFlushed mid new result → Writes text old new result
wrote text old mid new (std.Ok done) puts flushed = (whole_flushed text old mid new puts.0 flushed.0 flushed.1, flushed.2 ∙ puts.1)
wrote text old mid new (std.Err stops.WriteFault) puts flushed =
    (part_flushed text old mid new puts.0 flushed.0, subst (λ (n : ℕ). Rises n new.faults) puts.1 flushed.1)
wrote text old mid new (std.Err stops.Memory) puts flushed = absurd flushed

-- why a text was not put is passed on
pub stopped : {A : Type 0} (text : List ℕ) (old new : Told) (result : Result A OutputStop) (stop : OutputStop)
    → IsErrAnd result (λ e. e ≡ stop) → Stops text old new stop → Writes text old new result
stopped text old new (std.Ok done) stop is h = absurd is
stopped text old new (std.Err e) stop is h = subst (Stops text old new) (sym is) h

-- ---- where something was found

pub explains_written : {A : Type 0} (IsAsked : List ℕ → Type 0) (IsRefused : Status → Type 0) (text : List ℕ) (old new : Told) (result : Result A OutputStop)
    → IsAsked text → Writes text old new result → Explains IsAsked IsRefused old new (status_after result)
explains_written IsAsked IsRefused text old new (std.Ok done) asked put = (text, asked, put.0)
explains_written IsAsked IsRefused text old new (std.Err stops.WriteFault) asked put = (text, asked, put.0)
explains_written IsAsked IsRefused text old new (std.Err stops.Memory) asked put = inr (text, asked, put.0)

pub faults_written : {A : Type 0} (text : List ℕ) (reads reads' : ℕ) (old new : Told) (result : Result A OutputStop)
    → reads' ≡ reads → Writes text old new result → Faults reads reads' old.faults new.faults (status_after result)
faults_written text reads reads' old new (std.Ok done) same put = (same, put.1)
faults_written text reads reads' old new (std.Err stops.WriteFault) same put = (same, put.1.0, put.1.1)
faults_written text reads reads' old new (std.Err stops.Memory) same put = let e : new.faults ≡ old.faults = put.1 in (omega arith, omega arith)

-- ---- where the words or the files are refused: never so that all was written, nor that writing failed

pub explains_refused : (IsAsked : List ℕ → Type 0) (IsRefused : Status → Type 0) (old : Told) (status : Status) → (IsRefused Ok → ⊥) → (IsRefused WriteFault → ⊥) → IsRefused status
    → Explains IsAsked IsRefused old old status
explains_refused IsAsked IsRefused old Ok found written refused = absurd (found refused)
explains_refused IsAsked IsRefused old WriteFault found written refused = absurd (written refused)
explains_refused IsAsked IsRefused old Memory found written refused = inl refl
explains_refused IsAsked IsRefused old (ConfigRefused file line code) found written refused = (refused, refl)
explains_refused IsAsked IsRefused old Usage found written refused = (refused, refl)
explains_refused IsAsked IsRefused old (MachineRefused line code) found written refused = (refused, refl)
explains_refused IsAsked IsRefused old (ScriptRefused which line code) found written refused = (refused, refl)
explains_refused IsAsked IsRefused old (HistoryRefused line) found written refused = (refused, refl)
explains_refused IsAsked IsRefused old (Stuck waits) found written refused = (refused, refl)
explains_refused IsAsked IsRefused old (Worlds most) found written refused = (refused, refl)
explains_refused IsAsked IsRefused old (Unknown name) found written refused = (refused, refl)
explains_refused IsAsked IsRefused old (Absent name) found written refused = (refused, refl)
explains_refused IsAsked IsRefused old (TooLong name) found written refused = (refused, refl)
explains_refused IsAsked IsRefused old ReadFault found written refused = (refused, refl)

pub faults_refused : (A : Type 0) (reads reads' writes : ℕ) (status : Status) → ¬ (status ≡ WriteFault) → Counts {A = A} reads reads' (std.Err status) → Faults reads reads' writes writes status
faults_refused A reads reads' writes Ok written counts = (counts, refl)
faults_refused A reads reads' writes WriteFault written counts = absurd (written refl)
faults_refused A reads reads' writes Memory written counts = (omega arith, omega arith)
faults_refused A reads reads' writes (ConfigRefused file line code) written counts = (counts, refl)
faults_refused A reads reads' writes Usage written counts = (counts, refl)
faults_refused A reads reads' writes (MachineRefused line code) written counts = (counts, refl)
faults_refused A reads reads' writes (ScriptRefused which line code) written counts = (counts, refl)
faults_refused A reads reads' writes (HistoryRefused line) written counts = (counts, refl)
faults_refused A reads reads' writes (Stuck waits) written counts = (counts, refl)
faults_refused A reads reads' writes (Worlds most) written counts = (counts, refl)
faults_refused A reads reads' writes (Unknown name) written counts = (counts, refl)
faults_refused A reads reads' writes (Absent name) written counts = (counts, refl)
faults_refused A reads reads' writes (TooLong name) written counts = (counts, refl)
faults_refused A reads reads' writes ReadFault written counts = (counts.0, counts.1, refl)

-- ---- where telling of the status wanted memory

-- what got the text took a front of it
delivers_front : (text : List ℕ) (old new : Told) → Delivers text old new → TakesFront text old new
delivers_front text old new all = record {
  front = text;
  rest = [];
  parts = sym (append-nil text);
  taken = record { sent = old.held ++ text; moved = sym (append-nil (old.held ++ text)) ∙ ap (λ x. (old.held ++ text) ++ x) (sym all.empty); grew = all.grew };
}

explains_want : (IsAsked : List ℕ → Type 0) (IsRefused : Status → Type 0) (old new : Told) (status : Status) → Explains IsAsked IsRefused old new status
    → Explains IsAsked IsRefused old new Memory
explains_want IsAsked IsRefused old new Ok h = inr (h.0, h.1, delivers_front h.0 old new h.2)
explains_want IsAsked IsRefused old new WriteFault h = inr h
explains_want IsAsked IsRefused old new Memory h = h
explains_want IsAsked IsRefused old new (ConfigRefused file line code) h = inl h.1
explains_want IsAsked IsRefused old new Usage h = inl h.1
explains_want IsAsked IsRefused old new (MachineRefused line code) h = inl h.1
explains_want IsAsked IsRefused old new (ScriptRefused which line code) h = inl h.1
explains_want IsAsked IsRefused old new (HistoryRefused line) h = inl h.1
explains_want IsAsked IsRefused old new (Stuck waits) h = inl h.1
explains_want IsAsked IsRefused old new (Worlds most) h = inl h.1
explains_want IsAsked IsRefused old new (Unknown name) h = inl h.1
explains_want IsAsked IsRefused old new (Absent name) h = inl h.1
explains_want IsAsked IsRefused old new (TooLong name) h = inl h.1
explains_want IsAsked IsRefused old new ReadFault h = inl h.1

pub explains_told : (IsAsked : List ℕ → Type 0) (IsRefused : Status → Type 0) (old new : Told) (status result : Status)
    → Explains IsAsked IsRefused old new status → (result ≡ status) ⊎ (result ≡ Memory) → Explains IsAsked IsRefused old new result
explains_told IsAsked IsRefused old new status result h (inl e) = subst (Explains IsAsked IsRefused old new) (sym e) h
explains_told IsAsked IsRefused old new status result h (inr e) = subst (Explains IsAsked IsRefused old new) (sym e) (explains_want IsAsked IsRefused old new status h)

faults_want : (reads reads' writes writes' : ℕ) (status : Status) → Faults reads reads' writes writes' status → Faults reads reads' writes writes' Memory
faults_want reads reads' writes writes' Ok h = (omega arith, omega arith)
faults_want reads reads' writes writes' WriteFault h = (omega arith, h.1)
faults_want reads reads' writes writes' Memory h = h
faults_want reads reads' writes writes' (ConfigRefused file line code) h = (omega arith, omega arith)
faults_want reads reads' writes writes' Usage h = (omega arith, omega arith)
faults_want reads reads' writes writes' (MachineRefused line code) h = (omega arith, omega arith)
faults_want reads reads' writes writes' (ScriptRefused which line code) h = (omega arith, omega arith)
faults_want reads reads' writes writes' (HistoryRefused line) h = (omega arith, omega arith)
faults_want reads reads' writes writes' (Stuck waits) h = (omega arith, omega arith)
faults_want reads reads' writes writes' (Worlds most) h = (omega arith, omega arith)
faults_want reads reads' writes writes' (Unknown name) h = (omega arith, omega arith)
faults_want reads reads' writes writes' (Absent name) h = (omega arith, omega arith)
faults_want reads reads' writes writes' (TooLong name) h = (omega arith, omega arith)
faults_want reads reads' writes writes' ReadFault h = (h.0, omega arith)

pub faults_told : (reads reads' writes writes' : ℕ) (status result : Status)
    → Faults reads reads' writes writes' status → (result ≡ status) ⊎ (result ≡ Memory) → Faults reads reads' writes writes' result
faults_told reads reads' writes writes' status result h (inl e) = subst (Faults reads reads' writes writes') (sym e) h
faults_told reads reads' writes writes' status result h (inr e) = subst (Faults reads reads' writes writes') (sym e) (faults_want reads reads' writes writes' status h)

-- ---- standard error

pub err_rises : (text : List ℕ) (old new : Told) → Takes text old new → old.faults ≤ new.faults
err_rises text old new (inl h) = omega (arith, h.1)
err_rises text old new (inr h) = h.1.0

-- ---- the status that is due

due_written : {A : Type 0} (IsDue : Status → Type 0) (text : List ℕ) (old new : Told) (result : Result A OutputStop)
    → OrMemory IsDue Ok → Writes text old new result → ¬ Rose old.faults new.faults → OrMemory IsDue (status_after result)
due_written IsDue text old new (std.Ok done) due put quiet = due
due_written IsDue text old new (std.Err stops.WriteFault) due put quiet = absurd (quiet put.1.1)
due_written IsDue text old new (std.Err stops.Memory) due put quiet = inl refl

-- where something was found
pub due_put : {A : Type 0} (told : Option Files) (IsDue : Files → Status → Type 0) (text : List ℕ) (before after : ℕ) (old new : Told) (result : Result A OutputStop)
    → IfSome told (λ files. ¬ Rose before after → OrMemory (IsDue files) Ok) → Writes text old new result
    → IfSome told (λ files. ¬ Rose before after → ¬ Rose old.faults new.faults → OrMemory (IsDue files) (status_after result))
due_put None IsDue text before after old new result due put = due
due_put (Some files) IsDue text before after old new result due put = λ unread unwritten. due_written (IsDue files) text old new result (due unread) put unwritten

-- where nothing was found
pub due_unfound : (told : Option Files) (IsDue : Files → Status → Type 0) (before after writes writes' : ℕ) (status : Status)
    → IfSome told (λ files. ¬ Rose before after → OrMemory (IsDue files) status)
    → IfSome told (λ files. ¬ Rose before after → ¬ Rose writes writes' → OrMemory (IsDue files) status)
due_unfound None IsDue before after writes writes' status due = due
due_unfound (Some files) IsDue before after writes writes' status due = λ unread unwritten. due unread

told_due : (IsDue : Status → Type 0) (status result : Status) → OrMemory IsDue status → (result ≡ status) ⊎ (result ≡ Memory) → OrMemory IsDue result
told_due IsDue status result due (inl e) = subst (OrMemory IsDue) (sym e) due
told_due IsDue status result due (inr e) = inl e

-- where the status was told, or its telling wanted memory
pub due_told : (told : Option Files) (IsDue : Files → Status → Type 0) (reads reads' writes writes' : ℕ) (status result : Status)
    → IfSome told (λ files. ¬ Rose reads reads' → ¬ Rose writes writes' → OrMemory (IsDue files) status) → (result ≡ status) ⊎ (result ≡ Memory)
    → IfSome told (λ files. ¬ Rose reads reads' → ¬ Rose writes writes' → OrMemory (IsDue files) result)
due_told None IsDue reads reads' writes writes' status result due is = due
due_told (Some files) IsDue reads reads' writes writes' status result due is = λ unread unwritten. told_due (IsDue files) status result (due unread unwritten) is
