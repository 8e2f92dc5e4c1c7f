-- What a deed changes of its caller's references.
use Rattle.std.proofs.Common.{◌≡◌, ◌≢◌, ℕ, ◌==◌, ◌&&◌, ◌||◌, Bool, true, false, List, [], ◌∷◌, ◌++◌, Some, None, refl, sym, ap, ◌∙◌, subst, eqb-true, eq-eqb, ◌+◌, nat_lt, arith}
use Rattle.std.proofs.lemmas.Option.{same_Some}
use Rattle.std.specs.Prelude.{if◌then◌else◌}
use Rattle.std.proofs.lemmas.Bool.Decides.{nat_tests}
use Rattle.std.proofs.lemmas.Bool.{and_parts, ne_eqb}
use Rattle.std.proofs.lemmas.List.Folds.{list_any-append}
use Rattle.run_rules.proofs.Devices.{or_false}
use Rattle.run_rules.specs.declared.world.Ref.{Ref}
use Rattle.run_rules.specs.declared.world.Arrival.{Arrival}
use Rattle.run_rules.specs.World.{World, caller_at, holds_in, is_held, refers_to}
use Rattle.run_rules.specs.declared.deed.Deed.{Deed}
use Rattle.run_rules.specs.declared.deed.Deed.TheVariants.{Search, EndScan, BeginInterrupts, Finalise, EndCaller, Drop, Refuse, Open, Close, Start, Done, Detach, Free, Rescan, BeginPower, Sleep, Wake, EndPower, Plug, Unplug, Tell}
use Rattle.run_rules.specs.declared.deed.Choice.TheVariants.{Does}
use Rattle.run_rules.specs.Next.{next}
use Rattle.run_rules.specs.References.{count_in, given_back, is_of}
use Rattle.run_rules.proofs.References.{any_left, count_granted, count_other, count_returned, held_is_counted}
use Rattle.run_rules.specs.After.{after, freed, freeing_target, listed, over, released}
use Rattle.run_sound.proofs.Commands.{ClosesHeld, FreesLast, OpensFree, ReturnsFirst}
use Rattle.run_sound.specs.Holding.{GoesUnheld, HoldsLess, HoldsMore, opened_by, returned_by}
use Rattle.run_sound.proofs.Beside.{IsBeside, call_part, search_part}
use Rattle.run_sound.proofs.Reasons.{has_command_reason}
use Rattle.run_sound.proofs.References.{not_mine}

-- ---- most deeds leave the references

refs_beside : IsBeside (λ (w : World). w.refs)
refs_beside = record { callers = λ w cs. refl; finalisers = λ w xs. refl; deferred = λ w es. refl; place = λ w n b. refl; hidden = λ w xs. refl }

come_refs : (w : World) (a : Arrival) → (listed w a).refs ≡ w.refs
unfolding listed
come_refs w a = refl

freed_refs : (w : World) (k s : ℕ) (last : Bool) → (if last then over (freed w s) k else freed w s).refs ≡ w.refs
freed_refs w k s true = refl
freed_refs w k s false = refl

pub refs_same : (w : World) (k : ℕ) (d : Deed) → opened_by d ≡ None → returned_by d ≡ None → (after w k d).refs ≡ w.refs
unfolding after released
refs_same w k (Search p spot to got) a b = search_part (λ (w : World). w.refs) refs_beside come_refs w k p spot to got
refs_same w k (Finalise s shown got place anew) a b = call_part (λ (w : World). w.refs) refs_beside come_refs w k s shown got place anew
refs_same w k (Drop s) a b = absurd cc
refs_same w k (Open s sole) a b = absurd cc
refs_same w k (Close s) a b = absurd cc
refs_same w k (Free s) a b = freed_refs w k s (freeing_target (caller_at w k).doing s)
refs_same w k (Unplug x None) a b = refl
refs_same w k (Unplug x (Some s)) a b = refl
refs_same w k d a b = refl

-- so each caller holds what it held
pub holds_same : (w : World) (k : ℕ) (d : Deed) → opened_by d ≡ None → returned_by d ≡ None → (j s : ℕ) → is_held (after w k d) j s ≡ is_held w j s
holds_same w k d a b j s = ap (λ (refs : List Ref). holds_in refs j s) (refs_same w k d a b)

-- ---- one is given

-- one reference at the end is one more
last_ref : (held same own : Bool) → own ≡ true → (held || (same && own || false)) ≡ (same || held)
last_ref true true own e = refl
last_ref true false own e = refl
last_ref false true own e = rw e refl
last_ref false false own e = refl

one_more : (refs : List Ref) (k s x : ℕ) → holds_in (refs ++ record { serial = s; caller = k } ∷ []) k x ≡ (s == x || holds_in refs k x)
one_more refs k s x = list_any-append (λ r. r.serial == x && r.caller == k) refs (record { serial = s; caller = k } ∷ []) ∙ last_ref (holds_in refs k x) (s == x) (k == k) (eq-eqb k k refl)

abbrev own_one : Bool → ℕ
own_one b = if b then 1 else 0

-- a caller's reference counts for it
count_more : (refs : List Ref) (k s x : ℕ) → count_in (refs ++ record { serial = s; caller = k } ∷ []) k x ≡ count_in refs k x + (if s == x then 1 else 0)
count_more refs k s x = count_granted refs (record { serial = s; caller = k }) k x ∙ ap (λ n. count_in refs k x + n) (own (s == x) (k == k) (eq-eqb k k refl))
  where
    own : (a b : Bool) → b ≡ true → own_one (a && b) ≡ own_one a
    own true b e = rw e refl
    own false b e = refl

pub holds_opened : (w : World) (k s : ℕ) (sole : Bool) → next w k ≡ Does (Open s sole) → HoldsMore w k (Open s sole) s
unfolding after
holds_opened w k s sole e =
    let why : OpensFree w k s sole = has_command_reason w k (Open s sole) e in
    record { live = why.named.live; count = count_more w.refs k s; holds = one_more w.refs k s }

-- ---- one is given back

count_less : (refs : List Ref) (k s x : ℕ) → holds_in refs k s ≡ true → count_in (given_back refs k s) k x + (if s == x then 1 else 0) ≡ count_in refs k x
count_less refs k s x held = cases (s == x) refl
  where
    cases : (b : Bool) → (s == x) ≡ b → count_in (given_back refs k s) k x + (if b then 1 else 0) ≡ count_in refs k x
    cases true h = subst (λ y. count_in (given_back refs k s) k y + 1 ≡ count_in refs k y) (eqb-true s x h) (count_returned refs k s held)
    cases false h = let same : count_in (given_back refs k s) k x ≡ count_in refs k x = count_other refs k s k x (λ r own. rw (eqb-true r.serial s (and_parts (r.serial == s) (r.caller == k) own).0, h) refl) in omega (arith, same)

one_less : (refs : List Ref) (k s x : ℕ) → holds_in refs k s ≡ true → holds_in (given_back refs k s) k x ≡ (if s == x then nat_lt 1 (count_in refs k s) else holds_in refs k x)
one_less refs k s x held = held_is_counted (given_back refs k s) k x ∙ cases (s == x) refl (count_less refs k s x held)
  where
    cases : (b : Bool) → (s == x) ≡ b → count_in (given_back refs k s) k x + (if b then 1 else 0) ≡ count_in refs k x
        → nat_lt 0 (count_in (given_back refs k s) k x) ≡ (if b then nat_lt 1 (count_in refs k s) else holds_in refs k x)
    cases true h e =
        let here : count_in refs k s ≡ count_in refs k x = ap (count_in refs k) (eqb-true s x h) in
        rw here (grind (arith, nat_tests, e))
    cases false h e = let same : count_in (given_back refs k s) k x ≡ count_in refs k x = omega (arith, e) in ap (nat_lt 0) same ∙ sym (held_is_counted refs k x)

pub holds_returned : (w : World) (k s : ℕ) (d : Deed) → next w k ≡ Does d → returned_by d ≡ Some s → HoldsLess w k d s
unfolding after
holds_returned w k s (Close t) e is =
    let why : ClosesHeld w k t = has_command_reason w k (Close t) e in
    let same : t ≡ s = same_Some t s is in
    rw (← same) (record { live = why.named.live; held = why.held; count = λ x. count_less w.refs k t x why.held; holds = λ x. one_less w.refs k t x why.held })
holds_returned w k s (Drop t) e is =
    let why : ReturnsFirst w k t = has_command_reason w k (Drop t) e in
    let same : t ≡ s = same_Some t s is in
    rw (← same) (record { live = why.live; held = why.held; count = λ x. count_less w.refs k t x why.held; holds = λ x. one_less w.refs k t x why.held })
holds_returned w k s (Search p spot to got) e is = absurd cc
holds_returned w k s (EndScan p) e is = absurd cc
holds_returned w k s BeginInterrupts e is = absurd cc
holds_returned w k s (Finalise t shown got place anew) e is = absurd cc
holds_returned w k s EndCaller e is = absurd cc
holds_returned w k s (Refuse why) e is = absurd cc
holds_returned w k s (Open t sole) e is = absurd cc
holds_returned w k s (Start ticket) e is = absurd cc
holds_returned w k s (Done ticket) e is = absurd cc
holds_returned w k s (Detach t) e is = absurd cc
holds_returned w k s (Free t) e is = absurd cc
holds_returned w k s (Rescan t only) e is = absurd cc
holds_returned w k s (BeginPower kind t) e is = absurd cc
holds_returned w k s (Sleep t) e is = absurd cc
holds_returned w k s (Wake t) e is = absurd cc
holds_returned w k s (EndPower end) e is = absurd cc
holds_returned w k s (Plug x) e is = absurd cc
holds_returned w k s (Unplug x of) e is = absurd cc
holds_returned w k s Tell e is = absurd cc

-- ---- other callers

others_more : (refs : List Ref) (k j s x : ℕ) → j ≢ k → holds_in (refs ++ record { serial = s; caller = k } ∷ []) j x ≡ holds_in refs j x
others_more refs k j s x other =
    list_any-append (λ r. r.serial == x && r.caller == j) refs (record { serial = s; caller = k } ∷ []) ∙ last_ref_other (holds_in refs j x) (s == x) (k == j) (ne_eqb k j (λ e. other (sym e)))
  where
    last_ref_other : (held same own : Bool) → own ≡ false → (held || (same && own || false)) ≡ held
    last_ref_other true same own e = refl
    last_ref_other false true own e = rw e refl
    last_ref_other false false own e = refl

others_less : (refs : List Ref) (k j s x : ℕ) → j ≢ k → holds_in (given_back refs k s) j x ≡ holds_in refs j x
others_less refs k j s x other =
    any_left (is_of k s) (is_of j x) refs (λ r. not_mine r s x k j other)

-- a deed changes its own caller's references alone
pub holds_others : (w : World) (k j : ℕ) (d : Deed) → j ≢ k → (s : ℕ) → is_held (after w k d) j s ≡ is_held w j s
unfolding after
holds_others w k j (Open t sole) other s = others_more w.refs k j t s other
holds_others w k j (Close t) other s = others_less w.refs k j t s other
holds_others w k j (Drop t) other s = others_less w.refs k j t s other
holds_others w k j (Search p spot to got) other s = holds_same w k (Search p spot to got) refl refl j s
holds_others w k j (EndScan p) other s = holds_same w k (EndScan p) refl refl j s
holds_others w k j BeginInterrupts other s = holds_same w k BeginInterrupts refl refl j s
holds_others w k j (Finalise t shown got place anew) other s = holds_same w k (Finalise t shown got place anew) refl refl j s
holds_others w k j EndCaller other s = holds_same w k EndCaller refl refl j s
holds_others w k j (Refuse why) other s = holds_same w k (Refuse why) refl refl j s
holds_others w k j (Start ticket) other s = holds_same w k (Start ticket) refl refl j s
holds_others w k j (Done ticket) other s = holds_same w k (Done ticket) refl refl j s
holds_others w k j (Detach t) other s = holds_same w k (Detach t) refl refl j s
holds_others w k j (Free t) other s = holds_same w k (Free t) refl refl j s
holds_others w k j (Rescan t only) other s = holds_same w k (Rescan t only) refl refl j s
holds_others w k j (BeginPower kind t) other s = holds_same w k (BeginPower kind t) refl refl j s
holds_others w k j (Sleep t) other s = holds_same w k (Sleep t) refl refl j s
holds_others w k j (Wake t) other s = holds_same w k (Wake t) refl refl j s
holds_others w k j (EndPower end) other s = holds_same w k (EndPower end) refl refl j s
holds_others w k j (Plug x) other s = holds_same w k (Plug x) refl refl j s
holds_others w k j (Unplug x of) other s = holds_same w k (Unplug x of) refl refl j s
holds_others w k j Tell other s = holds_same w k Tell refl refl j s

-- ---- a device goes

pub unreferred : (refs : List Ref) (j s : ℕ) → refers_to refs s ≡ false → holds_in refs j s ≡ false
unreferred [] j s h = refl
unreferred (r ∷ rs) j s h = let parts = or_false (r.serial == s) (refers_to rs s) h in rw (parts.0, unreferred rs j s parts.1) refl

freed_gone : (w : World) (k s : ℕ) (last : Bool) → (if last then over (freed w s) k else freed w s).live ≡ (freed w s).live
freed_gone w k s true = refl
freed_gone w k s false = refl

pub goes_unheld : (w : World) (k s : ℕ) → next w k ≡ Does (Free s) → GoesUnheld w k (Free s) s
unfolding after
goes_unheld w k s e =
    let why : FreesLast w k s = has_command_reason w k (Free s) e in
    record { live = why.live; free = λ j. unreferred w.refs j s why.free; gone = freed_gone w k s (freeing_target (caller_at w k).doing s) }
