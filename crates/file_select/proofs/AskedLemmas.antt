-- Which files are asked for where a configuration is compiled and then read again.
use Rattle.std.proofs.Common.{◌≡◌, ℕ, ◌∙◌, Bool, true, false, cond, Option, Some, None, List, ◌++◌, ap, sym, subst}
use Rattle.std.specs.Prelude.{IfSome, IsErrAnd, Result, Ok, Err, is_some}
use Rattle.cf_compile.specs.Compiles.{AsksDue, Compiles, stop_of}
use Rattle.cf_compile.specs.declared.stop.CompileStop.{CompileStop}
use Rattle.cf_compile.specs.declared.stop.CompileStop.TheVariants.{Refused, ReadFault, Memory}
use Rattle.cf_compile.proofs.CompileLaws.{asks_all, asks_front}
use Rattle.cf_expand.specs.declared.stop.ExpandStop.{ExpandStop}
use Rattle.cf_io.specs.Asked.{AsksFront}
use Rattle.cf_io.specs.Load.{asked_behind}
use Rattle.cf_io.proofs.AskedLemmas.{asked_then, front_behind, front_more}
use Rattle.cf_types.specs.declared.tables.Tables.{Tables}
use Rattle.config_rules.specs.Fault.{first_fault}
use Rattle.config_rules.specs.Meaning.{Means}
use Rattle.config_rules.specs.Reading.{Files, reading}
use Rattle.file_select.specs.Answers.{asked_for}

front_once : (b : Bool) (once : List (List ℕ)) (old new : Option (List (List ℕ))) → AsksFront once old new → AsksFront (cond b once (once ++ once)) old new
front_once true once old new front = front
front_once false once old new front = front_more once once old new front

asked_once : (files : Files) (name : List ℕ) (fault : _) → first_fault files name ≡ Some fault → asked_for files name ≡ (reading files name).asked
asked_once files name fault is = ap (λ o. cond (is_some o) (reading files name).asked ((reading files name).asked ++ (reading files name).asked)) is

asked_twice : (files : Files) (name : List ℕ) → first_fault files name ≡ None → asked_for files name ≡ (reading files name).asked ++ (reading files name).asked
asked_twice files name is = ap (λ o. cond (is_some o) (reading files name).asked ((reading files name).asked ++ (reading files name).asked)) is

-- a configuration that was refused, or could not be read whole
pub asks_first : {A : Type 0} (told : Option Files) (name : List ℕ) (before after : ℕ) (stop : CompileStop) (result : Result A CompileStop) (old new : Option (List (List ℕ)))
    → IsErrAnd result (λ e. e ≡ stop) → Compiles told name before after (Err stop) → IfSome told (λ files. AsksDue {A = Tables} (reading files name).asked (Err stop) old new)
    → IfSome told (λ files. AsksDue (asked_for files name) result old new)
asks_first {A = A} None name before after stop result old new is compiles asks = asks
asks_first {A = A} (Some files) name before after stop (Ok done) old new is compiles asks = absurd is
asks_first {A = A} (Some files) name before after (Refused fault) (Err e) old new is compiles asks =
    subst (λ (e : CompileStop). AsksDue {A = A} (asked_for files name) (Err e) old new) (sym is)
    (subst (λ (due : List (List ℕ)). new ≡ asked_behind old due) (sym (asked_once files name fault compiles.0)) asks)
asks_first {A = A} (Some files) name before after ReadFault (Err e) old new is compiles asks =
    subst (λ (e : CompileStop). AsksDue {A = A} (asked_for files name) (Err e) old new) (sym is) (front_once (is_some (first_fault files name)) (reading files name).asked old new asks)
asks_first {A = A} (Some files) name before after Memory (Err e) old new is compiles asks =
    subst (λ (e : CompileStop). AsksDue {A = A} (asked_for files name) (Err e) old new) (sym is) (front_once (is_some (first_fault files name)) (reading files name).asked old new asks)

-- one that was accepted, and read again in part
pub asks_again : {A : Type 0} (told : Option Files) (name : List ℕ) (tables : Tables) (stop : ExpandStop) (result : Result A CompileStop) (old mid new : Option (List (List ℕ))) → IsErrAnd result (λ e. e ≡ stop_of stop)
    → IfSome told (λ files. Means files name tables) → IfSome told (λ files. mid ≡ asked_behind old (reading files name).asked) → IfSome told (λ files. AsksFront (reading files name).asked mid new)
    → IfSome told (λ files. AsksDue (asked_for files name) result old new)
asks_again None name tables stop result old mid new is means first second = second
asks_again (Some files) name tables stop result old mid new is means first second =
    let once = (reading files name).asked in
    asks_front (asked_for files name) stop result old new is
    (subst (λ (due : List (List ℕ)). AsksFront due old new) (sym (asked_twice files name means.accepted)) (front_behind once once old mid new first second))

-- or whole
pub asks_twice : {A : Type 0} (told : Option Files) (name : List ℕ) (tables : Tables) (result : Result A CompileStop) (old mid new : Option (List (List ℕ)))
    → IfSome told (λ files. Means files name tables) → IfSome told (λ files. mid ≡ asked_behind old (reading files name).asked) → IfSome told (λ files. new ≡ asked_behind mid (reading files name).asked)
    → IfSome told (λ files. AsksDue (asked_for files name) result old new)
asks_twice None name tables result old mid new means first second = second
asks_twice (Some files) name tables result old mid new means first second =
    let once = (reading files name).asked in
    subst (λ (due : List (List ℕ)). AsksDue due result old new) (sym (asked_twice files name means.accepted))
    (asks_all (once ++ once) result old new (second ∙ ap (λ o. asked_behind o once) first ∙ asked_then old once once))
