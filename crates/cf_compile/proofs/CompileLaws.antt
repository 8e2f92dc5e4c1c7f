-- What compiling a configuration finds, by what reading it gave.
use Rattle.std.proofs.Common.{◌≡◌, ℕ, Option, Some, None, List, refl, ap, sym, ◌∙◌, subst}
use Rattle.std.specs.Prelude.{IfSome, IsErrAnd, Result, Ok, Err, IfOk}
use Rattle.cf_types.specs.declared.declared.Declared.{Declared}
use Rattle.cf_types.specs.declared.stmt.Expanded.{Expanded}
use Rattle.cf_types.specs.declared.stmt.Placed.{Placed}
use Rattle.cf_types.specs.declared.tables.Tables.{Tables}
use Rattle.attr_graph.specs.Graphs.{IsGraphOf, declared_by}
use Rattle.attr_graph.specs.Reach.{Shape}
use Rattle.config_rules.specs.Declared.{declared}
use Rattle.config_rules.specs.Fault.{fault_in, first_fault, stmts_of}
use Rattle.config_rules.specs.Formed.{FormedTables}
use Rattle.config_rules.specs.Meaning.{Means}
use Rattle.config_rules.specs.Reading.{Files, Reading, reading}
use Rattle.cf_expand.specs.Steps.{expanded}
use Rattle.cf_expand.specs.declared.stop.ExpandStop.{ExpandStop}
use Rattle.cf_expand.specs.declared.stop.ExpandStop.TheVariants as read
use Rattle.cf_io.specs.Asked.{AsksFront}
use Rattle.cf_io.specs.Load.{asked_behind}
use Rattle.cf_io.proofs.AskedLemmas.{front_all}
use Rattle.cf_compile.specs.Compiles.{AsksDue, Compiles, stop_of}
use Rattle.cf_compile.specs.Meant.{Finds, IsMeant, reading_of}
use Rattle.cf_compile.specs.declared.stop.CompileStop.{CompileStop}
use Rattle.cf_compile.specs.declared.stop.CompileStop.TheVariants.{Refused, ReadFault, Memory}

-- the first fault looks at no prefixes
same_fault : (r : Reading) → fault_in (reading_of (expanded r)) ≡ fault_in r
unfolding fault_in
same_fault r = refl

pub means_read : (files : Files) (name : List ℕ) (read : Expanded) (tables : Tables) → read ≡ expanded (reading files name) → Finds (reading_of read) (Ok tables) → Means files name tables
unfolding first_fault
means_read files name read tables is found =
    let here = subst (λ (e : Expanded). Finds (reading_of e) (Ok tables)) is found in
    record {
      accepted = sym (same_fault (reading files name)) ∙ here.0;
      marks = here.1.marks;
      rooted = here.1.rooted;
      shown = here.1.shown;
    }

pub fault_read : (files : Files) (name : List ℕ) (read : Expanded) (refusal : _) → read ≡ expanded (reading files name) → fault_in (reading_of read) ≡ Some refusal → first_fault files name ≡ Some refusal
unfolding first_fault
fault_read files name read refusal is found =
    sym (same_fault (reading files name)) ∙ ap (λ (e : Expanded). fault_in (reading_of e)) (sym is) ∙ found

pub if_told : (told : Option Files) (P Q : Files → Type 0) → ((files : Files) → P files → Q files) → IfSome told P → IfSome told Q
if_told None P Q f h = h
if_told (Some files) P Q f h = f files h

-- what was found in what was read is how compiling ends
pub compiles_read : (told : Option Files) (name : List ℕ) (before after : ℕ) (read : Expanded) (result : Result Tables CompileStop)
    → IfSome told (λ files. read ≡ expanded (reading files name)) → after ≡ before → Finds (reading_of read) result → Compiles told name before after result
compiles_read told name before after read (Ok tables) is same found =
    (if_told told _ (λ files. Means files name tables) (λ files e. means_read files name read tables e found) is, same)
compiles_read told name before after read (Err (Refused refusal)) is same found =
    (if_told told _ (λ files. first_fault files name ≡ Some refusal) (λ files e. fault_read files name read refusal e found) is, same)
compiles_read told name before after read (Err ReadFault) is same found = absurd found
compiles_read told name before after read (Err Memory) is same found = same

-- the tables that are found are formed
pub found_formed : (r : Reading) (result : Result Tables CompileStop) → Finds r result → IfOk result FormedTables
found_formed r (Ok tables) found = found.1.formed
found_formed r (Err stop) found = tt

-- the graph of what is declared is that of the tables
pub graph_of_meant : (files : List (List ℕ)) (placed : List Placed) (d : Declared) (g : Shape) (tables : Tables)
    → d ≡ declared (stmts_of placed) → IsGraphOf d g → IsMeant files placed tables → IsGraphOf (declared_by tables) g
graph_of_meant files placed d g tables is graph meant = subst (λ (e : Declared). IsGraphOf e g) (is ∙ sym (ap declared_by meant.shown)) graph

-- all that is due was asked for
pub asks_all : {A : Type 0} (due : List (List ℕ)) (result : Result A CompileStop) (old new : Option (List (List ℕ))) → new ≡ asked_behind old due → AsksDue due result old new
asks_all due (Ok done) old new asked = asked
asks_all due (Err (Refused refusal)) old new asked = asked
asks_all due (Err ReadFault) old new asked = front_all due old new asked
asks_all due (Err Memory) old new asked = front_all due old new asked

-- all that reading asks for was asked for, whatever was found in it
pub asks_read : {A : Type 0} (told : Option Files) (name : List ℕ) (result : Result A CompileStop) (old new : Option (List (List ℕ)))
    → IfSome told (λ files. new ≡ asked_behind old (reading files name).asked) → IfSome told (λ files. AsksDue (reading files name).asked result old new)
asks_read told name result old new = if_told told (λ files. new ≡ asked_behind old (reading files name).asked) (λ files. AsksDue (reading files name).asked result old new)
    (λ files asked. asks_all (reading files name).asked result old new asked)

-- where reading stopped, a front of what is due was asked for
pub asks_front : {A : Type 0} (due : List (List ℕ)) (stop : ExpandStop) (result : Result A CompileStop) (old new : Option (List (List ℕ))) → IsErrAnd result (λ e. e ≡ stop_of stop) → AsksFront due old new → AsksDue due result old new
asks_front {A = A} due stop (Ok done) old new is front = absurd is
asks_front {A = A} due read.ReadFault (Err e) old new is front = subst (λ (e : CompileStop). AsksDue {A = A} due (Err e) old new) (sym is) front
asks_front {A = A} due read.Memory (Err e) old new is front = subst (λ (e : CompileStop). AsksDue {A = A} due (Err e) old new) (sym is) front

-- the same of a configuration whose files are told
pub asks_stopped : {A : Type 0} (told : Option Files) (name : List ℕ) (stop : ExpandStop) (result : Result A CompileStop) (old new : Option (List (List ℕ))) → IsErrAnd result (λ e. e ≡ stop_of stop)
    → IfSome told (λ files. AsksFront (reading files name).asked old new) → IfSome told (λ files. AsksDue (reading files name).asked result old new)
asks_stopped told name stop result old new is = if_told told (λ files. AsksFront (reading files name).asked old new) (λ files. AsksDue (reading files name).asked result old new)
    (λ files front. asks_front (reading files name).asked stop result old new is front)
