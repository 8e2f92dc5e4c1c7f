-- Where nobody does anything and somebody waits, there is a ring of callers; without one somebody goes on, or all have ended.
use Rattle.std.proofs.Common.{◌≡◌, ◌≢◌, ◌⊎◌, ◌<◌, ◌≤◌, ℕ, zero, suc, ◌==◌, not, ◌||◌, Bool, true, false, cond, List, [], ◌∷◌, ◌++◌, length, refl, sym, ap, ◌∙◌, subst, inl, inr, eqb-true, arith}
use Rattle.std.specs.Prelude.{filter}
use Rattle.std.specs.List.{AllByRecursion}
use Rattle.std.proofs.lemmas.Bool.{eqb-false, ne_eqb, or_left, or_right}
use Rattle.std.proofs.lemmas.List.Folds.{list_any-append}
use Rattle.run_rules.specs.declared.event.Event.{Event}
use Rattle.run_rules.specs.declared.world.Setup.{Setup}
use Rattle.run_rules.specs.declared.world.Wait.{Wait}
use Rattle.run_rules.specs.declared.world.Wait.TheVariants as wait
use Rattle.run_rules.specs.declared.world.Activity.TheVariants as activity
use Rattle.run_rules.specs.declared.deed.Choice.TheVariants.{Waits}
use Rattle.run_rules.specs.World.{World, has, has_ended, is_held, opening}
use Rattle.run_rules.specs.Next.{next}
use Rattle.run_rules.specs.Run.{Run}
use Rattle.run_rules.specs.Sound.{EachLater}
use Rattle.run_rules.proofs.Devices.{all_imp, later_snoc, none_of}
use Rattle.run_sound.specs.InFull.{KeptInFull}
use Rattle.run_sound.specs.Kept.{MayRun}
use Rattle.run_sound.proofs.Callers.{clash, unended_so, unended_there}
use Rattle.run_sound.proofs.InFull.{full_always}
use Rattle.run_sound.proofs.Members.{any_passed}
use Rattle.progress_laws.specs.Ring.{EndsAlone, FreesEmptyHanded, GoesEndsOrRings, IsHeldUp, Leads, NeverStuck, Ring, RingWhereStuck, StuckInARing, WaitsFor}
use Rattle.progress_laws.specs.Still.{HaveAllEnded, NobodyDoes, SomebodyDoes}
use Rattle.progress_laws.proofs.Still.{below_next, somebody_or_nobody}
use Rattle.progress_laws.proofs.Stuck.{boot_over, held_up, holder_goes, waits_for_one}

-- ---- paths

abbrev Apart : List ℕ → Type 0
Apart cs = EachLater (λ j k. j ≢ k) cs

leads_on : (w : World) (a : ℕ) (cs : List ℕ) (b j : ℕ) → Leads w a cs b → WaitsFor w b j → Leads w a (cs ++ j ∷ []) j
leads_on w a [] b j at one = (subst (λ (x : ℕ). WaitsFor w x j) (sym at) one, refl)
leads_on w a (c ∷ cs) b j at one = (at.0, leads_on w c cs b j at.1 one)

-- the end of a path from one of its callers on
record EndsFrom (w : World) (j b : ℕ) : Type 0 where
  rest : List ℕ
  leads : Leads w j rest b
  apart : Apart (j ∷ rest)

ends_from : (w : World) (a : ℕ) (cs : List ℕ) (b j : ℕ) → Leads w a cs b → Apart (a ∷ cs) → has (a ∷ cs) j ≡ true → EndsFrom w j b
ends_from w a [] b j at apart h = cases (a == j) refl h
  where
    cases : (c : Bool) → (a == j) ≡ c → (c || false) ≡ true → EndsFrom w j b
    cases true e k = let same : a ≡ j = eqb-true a j e in record { rest = []; leads = sym same ∙ at; apart = (tt, tt) }
    cases false e k = absurd cc
ends_from w a (c ∷ cs) b j at apart h = cases (λ k. ends_from w c cs b j at.1 apart.1 k) (a == j) refl h
  where
    cases : (has (c ∷ cs) j ≡ true → EndsFrom w j b) → (x : Bool) → (a == j) ≡ x → (x || has (c ∷ cs) j) ≡ true → EndsFrom w j b
    cases more true e k =
        let same : a ≡ j = eqb-true a j e in
        subst (λ (y : ℕ). EndsFrom w y b) same (record { rest = c ∷ cs; leads = at; apart = apart })
    cases more false e k = more k

-- ---- callers that are not on the path

abbrev without : List ℕ → ℕ → List ℕ
without xs x = filter (λ y. not (y == x)) xs

no_longer : (xs : List ℕ) (x : ℕ) → length (without xs x) ≤ length xs
no_longer [] x = omega arith
no_longer (y ∷ ys) x = elim (y == x) as (λ b. length (cond (not b) (y ∷ without ys x) (without ys x)) ≤ length (y ∷ ys)) [ true ↦ omega (arith, no_longer ys x) | false ↦ omega (arith, no_longer ys x) ]

shorter : (xs : List ℕ) (x : ℕ) → has xs x ≡ true → length (without xs x) < length xs
shorter [] x h = absurd cc
shorter (y ∷ ys) x h = cases (λ k. shorter ys x k) (y == x) h
  where
    cases : (has ys x ≡ true → length (without ys x) < length ys) → (b : Bool) → (b || has ys x) ≡ true → length (cond (not b) (y ∷ without ys x) (without ys x)) < length (y ∷ ys)
    cases more true k = omega (arith, no_longer ys x)
    cases more false k = omega (arith, more k)

still_left : (xs : List ℕ) (x y : ℕ) → y ≢ x → has xs y ≡ true → has (without xs x) y ≡ true
still_left xs x y other h = any_passed (λ z. z == y) (λ z. not (z == x)) xs (λ z k. ap not (ne_eqb z x (λ e. other (sym (eqb-true z y k) ∙ e)))) h

abbrev numbers : ℕ → List ℕ
numbers zero = []
numbers (suc n) = n ∷ numbers n

among : (n x : ℕ) → x < n → has (numbers n) x ≡ true
among zero x lt = absurd (omega (arith, lt))
among (suc n) x lt = cases (λ less. among n x less) (n == x) refl
  where
    cases : (x < n → has (numbers n) x ≡ true) → (b : Bool) → (n == x) ≡ b → (b || has (numbers n) x) ≡ true
    cases more true e = refl
    cases more false e = more (smaller (eqb-false n x e))
      where
        smaller : n ≢ x → x < n
        smaller other = grind (arith, lt, other)

-- ---- a ring

module _ (w : World) (at : KeptInFull w) (stuck : NobodyDoes w) where
  abbrev IsWaiting : ℕ → Type 0
  IsWaiting k = (why : Wait) × (next w k ≡ Waits why)

  -- the path is closed
  closes : (j b : ℕ) → j ≢ b → EndsFrom w j b → WaitsFor w b j → Ring w
  closes j b other path one = record { first = j; others = path.rest; last = b; some = some path.rest path.leads; apart = path.apart; leads = path.leads; closed = one }
    where
      some : (cs : List ℕ) → Leads w j cs b → cs ≢ []
      some [] lead e = other lead
      some (c ∷ cs) lead e = absurd cc

  -- each caller is left, or is on the path from a to b
  walk : (fuel : ℕ) (left : List ℕ) (a : ℕ) (cs : List ℕ) (b : ℕ) → length left ≤ fuel → Leads w a cs b → Apart (a ∷ cs) → IsWaiting b
      → ((x : ℕ) → x < length w.callers → has left x ≡ false → has (a ∷ cs) x ≡ true) → Ring w
  walk zero left a cs b less lead apart to cover = pick (has (a ∷ cs) it.holder) refl
    where
      it : IsHeldUp w b
      it = waits_for_one w at stuck b to.0 to.1

      none : (xs : List ℕ) (x : ℕ) → length xs ≤ 0 → has xs x ≡ false
      none [] x h = refl
      none (y ∷ ys) x h = absurd (omega (arith, h))

      pick : (c : Bool) → has (a ∷ cs) it.holder ≡ c → Ring w
      pick true h = closes it.holder b it.other (ends_from w a cs b it.holder lead apart h) it.waits
      pick false h =
          let there : it.holder < length w.callers = unended_there w it.holder (holder_goes w at stuck it.holder it.waits.device it.waits.held) in
          clash (has (a ∷ cs) it.holder) (cover it.holder there (none left it.holder less)) h
  walk (suc fuel) left a cs b less lead apart to cover = pick (λ shorter_left lead' apart' cover'. walk fuel (without left it.holder) a (cs ++ it.holder ∷ []) it.holder shorter_left lead' apart' (wait.Refs it.device, it.holder_waits) cover') (has (a ∷ cs) it.holder) refl
    where
      it : IsHeldUp w b
      it = waits_for_one w at stuck b to.0 to.1

      covers : (x : ℕ) → x < length w.callers → has (without left it.holder) x ≡ false → has ((a ∷ cs) ++ it.holder ∷ []) x ≡ true
      covers x lt gone = list_any-append (λ y. y == x) (a ∷ cs) (it.holder ∷ []) ∙ cases (it.holder == x) refl
        where
          cases : (c : Bool) → (it.holder == x) ≡ c → (has (a ∷ cs) x || (c || false)) ≡ true
          cases true e = or_right (has (a ∷ cs) x) true refl
          cases false e = or_left (has (a ∷ cs) x) false (cover x lt (was (has left x) refl))
            where
              was : (d : Bool) → has left x ≡ d → has left x ≡ false
              was false f = f
              was true f = clash (has (without left it.holder) x) (still_left left it.holder x (λ same. eqb-false it.holder x e (sym same)) f) gone

      pick : (length (without left it.holder) ≤ fuel → Leads w a (cs ++ it.holder ∷ []) it.holder → Apart (a ∷ (cs ++ it.holder ∷ []))
          → ((x : ℕ) → x < length w.callers → has (without left it.holder) x ≡ false → has (a ∷ (cs ++ it.holder ∷ [])) x ≡ true) → Ring w)
          → (c : Bool) → has (a ∷ cs) it.holder ≡ c → Ring w
      pick more true h = closes it.holder b it.other (ends_from w a cs b it.holder lead apart h) it.waits
      pick more false h =
          let there : it.holder < length w.callers = unended_there w it.holder (holder_goes w at stuck it.holder it.waits.device it.waits.held) in
          let new : AllByRecursion (λ (x : ℕ). x ≢ it.holder) (a ∷ cs) =
          all_imp (λ (x : ℕ). (x == it.holder) ≡ false) (λ x. x ≢ it.holder) (λ x off. eqb-false x it.holder off) (a ∷ cs) (none_of (λ (x : ℕ). x == it.holder) (a ∷ cs) h) in
          more (fewer there (has left it.holder) refl h) (leads_on w a cs b it.holder lead it.waits) (later_snoc (λ (j k : ℕ). j ≢ k) (a ∷ cs) it.holder apart new) covers
        where
          fewer : it.holder < length w.callers → (d : Bool) → has left it.holder ≡ d → has (a ∷ cs) it.holder ≡ false → length (without left it.holder) ≤ fuel
          fewer there true f off = omega (arith, less, shorter left it.holder f)
          fewer there false f off = clash (has (a ∷ cs) it.holder) (cover it.holder there f) off

  -- the walk starts at any caller that waits
  pub ring : (k : ℕ) (why : Wait) → next w k ≡ Waits why → Ring w
  ring k why e =
      let left : List ℕ = numbers (length w.callers) in
      walk (length left) left k [] k (omega arith) refl (tt, tt) (why, e) (λ x lt gone. clash (has left x) (among (length w.callers) x lt) gone)

  empty_handed : FreesEmptyHanded w → (k : ℕ) → has_ended w k ≡ true
  empty_handed empty k = elim (held_up w at stuck k) [
    | inl ended ↦ ended
    | inr it ↦
        let its : IsHeldUp w it.holder = waits_for_one w at stuck it.holder (wait.Refs it.device) it.holder_waits in
        clash (is_held w it.holder it.waits.device) it.waits.held (empty it.holder its.target it.waits.device its.frees)
  ]

  -- who has not ended is of a script
  of_script : (k : ℕ) → has_ended w k ≡ false → (0 < k) × (k ≤ length w.setup.scripts)
  of_script zero goes = clash (has_ended w 0) (boot_over w at stuck) goes
  of_script (suc k) goes = (omega arith, omega (arith, unended_there w (suc k) goes, at.kept.ranges.callers.as_many))

  alone : length w.setup.scripts ≤ 1 → (k : ℕ) → has_ended w k ≡ true
  alone one k = elim (held_up w at stuck k) [
    | inl ended ↦ ended
    | inr it ↦
        let its = of_script it.holder (holder_goes w at stuck it.holder it.waits.device it.waits.held) in
        let mine = of_script k (unended_so w k (λ is. cc_of (sym it.frees ∙ is))) in
        absurd (it.other (omega (arith, mine.0, mine.1, its.0, its.1, one)))
  ]
    where
      cc_of : {s : ℕ} → activity.Frees s ≡ activity.Ended → ⊥
      cc_of h = cc

-- ---- the laws of a world in full

somebody_or_all : (w : World) → (NobodyDoes w → HaveAllEnded w) → SomebodyDoes w ⊎ HaveAllEnded w
somebody_or_all w ended = elim (somebody_or_nobody w) [ inl some ↦ inl some | inr none ↦ inr (ended none) ]

waiter_or_none : (w : World) → KeptInFull w → NobodyDoes w → (n : ℕ) → ((k : ℕ) × IsHeldUp w k) ⊎ ((k : ℕ) → k < n → has_ended w k ≡ true)
waiter_or_none w at stuck zero = inr (λ k lt. absurd (omega (arith, lt)))
waiter_or_none w at stuck (suc n) =
    elim (waiter_or_none w at stuck n) [
      | inl some ↦ inl some
      | inr none ↦ elim (held_up w at stuck n) [ inl ended ↦ inr (below_next (λ k. has_ended w k ≡ true) n none ended) | inr it ↦ inl (n, it) ]
    ]

goes_ends_or_rings : (w : World) → KeptInFull w → SomebodyDoes w ⊎ (HaveAllEnded w ⊎ (NobodyDoes w × Ring w))
goes_ends_or_rings w at = elim (somebody_or_nobody w) [
  | inl some ↦ inl some
  | inr none ↦ inr (elim (waiter_or_none w at none (length w.callers)) [
    | inl waits ↦ inr (none, ring w at none waits.0 (wait.Refs waits.1.waits.device) waits.1.waits.waits)
    | inr ended ↦ inl (λ k. all ended k (has_ended w k) refl)
  ])
]
  where
    all : ((k : ℕ) → k < length w.callers → has_ended w k ≡ true) → (k : ℕ) (b : Bool) → has_ended w k ≡ b → has_ended w k ≡ true
    all ended k true e = e
    all ended k false e = ended k (unended_there w k e)

-- ---- so of every run

pub always_stuck_in_a_ring : (s : Setup) (h : List Event) (v : World) → MayRun s → Run (opening s) h v → StuckInARing h v
always_stuck_in_a_ring s h v may run stuck = held_up v (full_always s h v may run) stuck

pub always_ring : (s : Setup) (h : List Event) (v : World) → MayRun s → Run (opening s) h v → RingWhereStuck h v
always_ring s h v may run stuck = ring v (full_always s h v may run) stuck

pub always_never_stuck : (s : Setup) (h : List Event) (v : World) → MayRun s → Run (opening s) h v → NeverStuck h v
always_never_stuck s h v may run empty = somebody_or_all v (λ none. empty_handed v (full_always s h v may run) none empty)

pub always_ends_alone : (s : Setup) (h : List Event) (v : World) → MayRun s → Run (opening s) h v → EndsAlone h v
always_ends_alone s h v may run one = somebody_or_all v (λ none. alone v (full_always s h v may run) none one)

pub always_goes_ends_or_rings : (s : Setup) (h : List Event) (v : World) → MayRun s → Run (opening s) h v → GoesEndsOrRings h v
always_goes_ends_or_rings s h v may run = goes_ends_or_rings v (full_always s h v may run)
