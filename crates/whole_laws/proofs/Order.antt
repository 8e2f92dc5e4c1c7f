-- The order of a script's commands: what is known of a caller's events by how far the caller is.
use Rattle.std.proofs.Common.{◌≡◌, ◌≢◌, ◌⊎◌, ◌<◌, ◌≤◌, ℕ, ◌+◌, ◌==◌, Bool, true, false, cond, List, [], ◌∷◌, ◌++◌, find, length, Option, Some, None, is_some, refl, sym, ap, ◌∙◌, subst, inl, inr, arith, slice_get, eqb-true, eq-eqb}
use Rattle.std.specs.Option.{option_or}
use Rattle.std.proofs.lemmas.Bool.{and_parts, cases_lt}
use Rattle.std.proofs.lemmas.List.Folds.{find-append}
use Rattle.std.proofs.lemmas.Option.{same_Some}
use Rattle.cf_types.specs.declared.machine.Command.{Command}
use Rattle.run_rules.specs.declared.event.Event.{Event}
use Rattle.run_rules.specs.declared.world.Activity.{Activity}
use Rattle.run_rules.specs.declared.world.Activity.TheVariants as activity
use Rattle.run_rules.specs.Counts.{is_end}
use Rattle.run_rules.specs.World.{Caller, is_ended}
use Rattle.run_rules.proofs.Devices.{all_imp, all_snoc}
use Rattle.run_sound.proofs.Callers.{clash}
use Rattle.run_sound.proofs.Scripts.{is_amid}
use Rattle.script_laws.specs.Begun.{begun_by, begun_of}
use Rattle.whole_laws.specs.Order.{EachOf, IsFirst, closes, is_numbered}

-- a caller's events, by its place in its script
pub record IsOrdered (h : List Event) (script : List Command) (k : ℕ) (c : Caller) : Type 0 where
  pub low : EachOf k (λ d. d.number ≤ c.over + 1) h
  pub ahead : c.doing ≡ activity.Idle → (said : Command) → slice_get script c.over ≡ Some said → EachOf k (λ d. d.number ≤ c.over) h
  pub begun : is_amid c.doing ≡ true → is_some (find (is_numbered k (c.over + 1)) h) ≡ true
  pub each : (n : ℕ) → n < c.over → is_some (find (is_numbered k (n + 1)) h) ≡ true
  pub first : (n : ℕ) (d : Event) → find (is_numbered k (n + 1)) h ≡ Some d → IsFirst (n + 1) (slice_get script n) d
  pub closed : EachOf k (λ d. closes d.act ≡ true → d.number ≡ length script + 1) h
  pub unended : is_ended c.doing ≡ false → EachOf k (λ d. is_end d.act ≡ false) h

-- ---- one event more

found_on : (p : Event → Bool) (h : List Event) (e : Event) → find p (h ++ e ∷ []) ≡ option_or (find p h) (cond (p e) (Some e) None)
found_on p h e = find-append p h (e ∷ [])

still : (p : Event → Bool) (h : List Event) (e : Event) → is_some (find p h) ≡ true → is_some (find p (h ++ e ∷ [])) ≡ true
still p h e there = ap is_some (found_on p h e) ∙ cases (find p h) there
  where
    cases : (o : Option Event) → is_some o ≡ true → is_some (option_or o (cond (p e) (Some e) None)) ≡ true
    cases None t = absurd cc
    cases (Some d) t = refl

now_there : (p : Event → Bool) (h : List Event) (e : Event) → p e ≡ true → is_some (find p (h ++ e ∷ [])) ≡ true
now_there p h e on = ap is_some (found_on p h e) ∙ cases (find p h) (p e) on
  where
    cases : (o : Option Event) (b : Bool) → b ≡ true → is_some (option_or o (cond b (Some e) None)) ≡ true
    cases None true t = refl
    cases None false t = absurd cc
    cases (Some d) b t = refl

-- what is found was found before, or it is the new one
which : (p : Event → Bool) (h : List Event) (e d : Event) → find p (h ++ e ∷ []) ≡ Some d → (find p h ≡ Some d) ⊎ ((find p h ≡ None) × (p e ≡ true) × (e ≡ d))
which p h e d is = cases (find p h) (p e) refl refl (sym (found_on p h e) ∙ is)
  where
    cases : (o : Option Event) (b : Bool) → find p h ≡ o → p e ≡ b → option_or o (cond b (Some e) None) ≡ Some d → (find p h ≡ Some d) ⊎ ((find p h ≡ None) × (p e ≡ true) × (e ≡ d))
    cases None true o b t = inr (o, b, same_Some e d t)
    cases None false o b t = absurd cc
    cases (Some x) b o on t = inl (o ∙ t)

numbered_here : (k n : ℕ) (e : Event) → e.caller ≡ k → e.number ≡ n → is_numbered k n e ≡ true
numbered_here k n e a b = rw (eq-eqb e.caller k a) (eq-eqb e.number n b)

numbered_parts : (k n : ℕ) (e : Event) → is_numbered k n e ≡ true → (e.caller ≡ k) × (e.number ≡ n)
numbered_parts k n e h = let parts = and_parts (e.caller == k) (e.number == n) h in (eqb-true e.caller k parts.0, eqb-true e.number n parts.1)

-- none has a greater number than all have
pub none_beyond : (k n m : ℕ) (h : List Event) → EachOf k (λ d. d.number ≤ n) h → n < m → find (is_numbered k m) h ≡ None
none_beyond k n m [] all lt = refl
none_beyond k n m (d ∷ ds) all lt = cases (is_numbered k m d) refl (none_beyond k n m ds all.1 lt)
  where
    cases : (b : Bool) → is_numbered k m d ≡ b → find (is_numbered k m) ds ≡ None → cond b (Some d) (find (is_numbered k m) ds) ≡ None
    cases true on rest = let parts = numbered_parts k m d on in absurd (omega (arith, lt, parts.1, all.0 parts.0))
    cases false off rest = rest

-- ---- of another caller

pub other_ordered : (h : List Event) (e : Event) (script : List Command) (k : ℕ) (c : Caller) → e.caller ≢ k → IsOrdered h script k c → IsOrdered (h ++ e ∷ []) script k c
other_ordered h e script k c other at = record {
  low = all_snoc _ h e at.low (λ same. absurd (other same));
  ahead = λ idle said is. all_snoc _ h e (at.ahead idle said is) (λ same. absurd (other same));
  begun = λ amid. still (is_numbered k (c.over + 1)) h e (at.begun amid);
  each = λ n lt. still (is_numbered k (n + 1)) h e (at.each n lt);
  first = λ n d is. elim (which (is_numbered k (n + 1)) h e d is) [
    | inl old ↦ at.first n d old
    | inr new ↦ absurd (other (numbered_parts k (n + 1) e new.1).0)
  ];
  closed = all_snoc _ h e at.closed (λ same. absurd (other same));
  unended = λ goes. all_snoc _ h e (at.unended goes) (λ same. absurd (other same));
}

-- ---- of a command

-- how far a caller is that goes on
far : (n over : ℕ) (a : Activity) → begun_by over a ≡ n + 1 → is_ended a ≡ false → ((over ≡ n + 1) × (is_amid a ≡ false)) ⊎ ((over ≡ n) × (is_amid a ≡ true))
far n over activity.Idle b e = inl (b, refl)
far n over activity.Ended b e = absurd cc
far n over (activity.Transfer t) b e = inr (omega (arith, b), refl)
far n over (activity.Frees s) b e = inr (omega (arith, b), refl)
far n over activity.Scans b e = inr (omega (arith, b), refl)
far n over (activity.Power kind s) b e = inr (omega (arith, b), refl)

idle_rests : (a : Activity) → a ≡ activity.Idle → is_amid a ≡ true → ⊥
idle_rests activity.Idle e h = absurd cc
idle_rests activity.Ended e h = absurd cc
idle_rests (activity.Transfer t) e h = absurd cc
idle_rests (activity.Frees s) e h = absurd cc
idle_rests activity.Scans e h = absurd cc
idle_rests (activity.Power kind s) e h = absurd cc

module _ (h : List Event) (e : Event) (script : List Command) (k : ℕ) (c : Caller) (own : e.caller ≡ k) (number : e.number ≡ c.over + 1) (at : IsOrdered h script k c) where
  first_on : (find (is_numbered k (c.over + 1)) h ≡ None → IsFirst (c.over + 1) (slice_get script c.over) e) → (n : ℕ) (d : Event) → find (is_numbered k (n + 1)) (h ++ e ∷ []) ≡ Some d → IsFirst (n + 1) (slice_get script n) d
  first_on one n d is = elim (which (is_numbered k (n + 1)) h e d is) [
    | inl old ↦ at.first n d old
    | inr new ↦
        let same : c.over ≡ n = omega (arith, number, (numbered_parts k (n + 1) e new.1).1) in
        subst (λ (x : Event). IsFirst (n + 1) (slice_get script n) x) new.2
        (subst (λ (m : ℕ). find (is_numbered k (m + 1)) h ≡ None → IsFirst (m + 1) (slice_get script m) e) same one new.0)
  ]

  -- the command is told of, and the caller is in its middle or behind it
  pub command_ordered : (v : Caller) → begun_of v ≡ c.over + 1 → is_ended v.doing ≡ false → is_ended c.doing ≡ false → closes e.act ≡ false → is_end e.act ≡ false
      → (find (is_numbered k (c.over + 1)) h ≡ None → IsFirst (c.over + 1) (slice_get script c.over) e) → IsOrdered (h ++ e ∷ []) script k v
  command_ordered v begun goes went spared live one = record {
    low = all_imp _ _ (λ d low same. omega (arith, low same, risen)) (h ++ e ∷ []) lows;
    ahead = λ idle said is. all_imp _ _ (λ d low same. omega (arith, low same, behind idle)) (h ++ e ∷ []) lows;
    begun = λ amid. subst (λ (n : ℕ). is_some (find (is_numbered k (n + 1)) (h ++ e ∷ [])) ≡ true) (sym (middle amid)) there;
    each = λ n lt. each_on n lt;
    first = first_on one;
    closed = all_snoc _ h e at.closed (λ same closing. clash (closes e.act) closing spared);
    unended = λ on. all_snoc _ h e (at.unended went) (λ same. live);
  }
    where
      lows : EachOf k (λ d. d.number ≤ c.over + 1) (h ++ e ∷ [])
      lows = all_snoc _ h e at.low (λ same. omega (arith, number))

      there : is_some (find (is_numbered k (c.over + 1)) (h ++ e ∷ [])) ≡ true
      there = now_there (is_numbered k (c.over + 1)) h e (numbered_here k (c.over + 1) e own number)

      place : ((v.over ≡ c.over + 1) × (is_amid v.doing ≡ false)) ⊎ ((v.over ≡ c.over) × (is_amid v.doing ≡ true))
      place = far c.over v.over v.doing begun goes

      risen : c.over ≤ v.over
      risen = elim place [ inl past ↦ omega (arith, past.0) | inr amid ↦ omega (arith, amid.0) ]

      behind : v.doing ≡ activity.Idle → v.over ≡ c.over + 1
      behind idle = elim place [ inl past ↦ past.0 | inr amid ↦ absurd (idle_rests v.doing idle amid.1) ]

      middle : is_amid v.doing ≡ true → v.over ≡ c.over
      middle busy = elim place [ inl past ↦ clash (is_amid v.doing) busy past.1 | inr amid ↦ amid.0 ]

      last : v.over ≤ c.over + 1
      last = elim place [ inl past ↦ omega (arith, past.0) | inr amid ↦ omega (arith, amid.0) ]

      each_on : (n : ℕ) → n < v.over → is_some (find (is_numbered k (n + 1)) (h ++ e ∷ [])) ≡ true
      each_on n lt = elim (cases_lt n c.over) [
        | inl less ↦ still (is_numbered k (n + 1)) h e (at.each n less)
        | inr more ↦ let same : c.over ≡ n = omega (arith, more, lt, last) in subst (λ (m : ℕ). is_some (find (is_numbered k (m + 1)) (h ++ e ∷ [])) ≡ true) same there
      ]

  -- the script is over
  pub closing_ordered : (v : Caller) → v.over ≡ c.over → is_amid v.doing ≡ false → slice_get script c.over ≡ None → length script ≡ c.over → closes e.act ≡ true → is_ended c.doing ≡ false
      → (is_ended v.doing ≡ false → is_end e.act ≡ false) → IsOrdered (h ++ e ∷ []) script k v
  closing_ordered v same rests none long closing went live = record {
    low = all_imp _ _ (λ d low is. omega (arith, low is, same)) (h ++ e ∷ []) lows;
    ahead = λ idle said is. absurd (nothing said (ap (slice_get script) (sym same) ∙ is));
    begun = λ amid. clash (is_amid v.doing) amid rests;
    each = λ n lt. still (is_numbered k (n + 1)) h e (at.each n (omega (arith, lt, same)));
    first = first_on (λ fresh. subst (λ (o : Option Command). IsFirst (c.over + 1) o e) (sym none) closing);
    closed = all_snoc _ h e at.closed (λ is on. omega (arith, number, long));
    unended = λ on. all_snoc _ h e (at.unended went) (λ is. live on);
  }
    where
      lows : EachOf k (λ d. d.number ≤ c.over + 1) (h ++ e ∷ [])
      lows = all_snoc _ h e at.low (λ is. omega (arith, number))

      nothing : (said : Command) → slice_get script c.over ≡ Some said → ⊥
      nothing said is = let bad : None ≡ Some said = sym none ∙ is in absurd cc
