-- A device is listed, or what was taken for it is given back.
use Rattle.std.proofs.Common.{◌≡◌, ℕ, Bool, true, false, ◌&&◌, ◌||◌, ◌==◌, List, [], ◌∷◌, ◌++◌, map, Option, Some, None, refl, sym, ◌∙◌, ap, subst}
use Rattle.std.specs.Prelude.{MatchOption, OnOk, OnErr, is_err}
use Rattle.std.specs.declared.result.Result.{Result}
use Rattle.std.specs.declared.result.Result.TheVariants.{Ok, Err}
use Rattle.std.specs.List.{list_any, zip}
use Rattle.std.proofs.lemmas.Bool.{eq-eqb}
use Rattle.std.proofs.lemmas.List.Elements.{filter-append}
use Rattle.run_rules.specs.declared.world.Setup.{Setup}
use Rattle.run_rules.specs.declared.world.Dev.{Dev}
use Rattle.run_rules.specs.declared.world.Deferred.{Deferred}
use Rattle.run_rules.specs.declared.world.Key.{Key}
use Rattle.run_rules.specs.World.{driver_of}
use Rattle.run_rules.specs.Search.{is_taken}
use Rattle.run_rules.specs.After.{same_key}
use Rattle.defer_queue.specs.Queue.{TakesLast, entry_of, entries_of}
use Rattle.defer_queue.proofs.Queues.{key_itself, put_undone}
use Rattle.unit_alloc.specs.Taken as alloc
use Rattle.unit_alloc.specs.Taken.{TakenToo}

-- a name is there exactly where its unit is taken
pub named_is : (s : Setup) (live : List Dev) (device unit : ℕ)
    → list_any (λ (p : Dev × ℕ). p.1 == device && p.0.unit == unit) (zip live (map (λ d. driver_of s d.row) live)) ≡ is_taken s live device unit
named_is s [] device unit = refl
named_is s (d ∷ ds) device unit = ap (λ b. (driver_of s d.row == device && d.unit == unit) || b) (named_is s ds device unit)

or_true : (b : Bool) → (b || true) ≡ true
or_true true = refl
or_true false = refl

-- a unit that was taken just now is taken
pub own_taken : (old new : List (List ℕ)) (device unit : ℕ) → TakenToo old new device unit → alloc.is_taken new device unit ≡ true
own_taken old new device unit more = more.taken device unit ∙ rw (eq-eqb device device refl, eq-eqb unit unit refl) (or_true (alloc.is_taken old device unit))

on_ok : {A B : Type 0} (P : Type 0) (r : Result A B) → is_err r ≡ false → OnOk r P → P
on_ok P (Ok x) e h = h
on_ok P (Err x) e h = absurd cc

pub ok_of : {A B : Type 0} (P : Type 0) (r : Result A B) (b : Bool) → b ≡ is_err r → b ≡ false → OnOk r P → P
ok_of P r b is e h = on_ok P r (sym is ∙ e) h

on_err : {A B : Type 0} (P : Type 0) (r : Result A B) → is_err r ≡ true → OnErr r P → P
on_err P (Err x) e h = h
on_err P (Ok x) e h = absurd cc

pub err_of : {A B : Type 0} (P : Type 0) (r : Result A B) (b : Bool) → b ≡ is_err r → b ≡ true → OnErr r P → P
err_of P r b is e h = on_err P r (sym is ∙ e) h

-- what was put off last and taken back leaves what was put off before
pub taken_back : (es old new : List Deferred) (key : Key) (serial : ℕ) (r : Option ℕ) → old ≡ es ++ entry_of key serial ∷ []
    → MatchOption r ((entries_of old key ≡ []) × (new ≡ old)) (λ child. TakesLast old key child new) → new ≡ es
taken_back es old new key serial (Some child) was took = (put_undone es new key serial child (subst (λ (q : List Deferred). TakesLast q key child new) was took)).0
taken_back es old new key serial None was took = absurd (clash (entries_of es key) (sym (more (entries_of es key) refl) ∙ ap (λ (q : List Deferred). entries_of q key) (sym was) ∙ took.0))
  where
    clash : (xs : List Deferred) → xs ++ entry_of key serial ∷ [] ≡ [] → ⊥
    clash [] e = cc
    clash (x ∷ xs) e = cc

    more : (xs : List Deferred) → xs ≡ entries_of es key → entries_of (es ++ entry_of key serial ∷ []) key ≡ xs ++ entry_of key serial ∷ []
    more xs e = rw (filter-append (λ e. same_key e.key key) es (entry_of key serial ∷ []), key_itself key, e) refl
