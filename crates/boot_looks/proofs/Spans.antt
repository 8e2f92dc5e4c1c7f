-- The looks of the spots of a span, one spot more; no other spot is come to.
use Rattle.std.proofs.Common.{◌≡◌, ◌<◌, ◌≤◌, ◌+◌, ◌∙◌, ◌⊎◌, ◌==◌, inl, inr, ℕ, min, Bool, true, false, List, length, Option, Some, None, refl, sym, ap, subst, arith}
use Rattle.std.specs.List.{slice_set}
use Rattle.std.proofs.lemmas.List.{get_or-set_other, get_or-set_same, length-set}
use Rattle.std.proofs.lemmas.Bool.{cases_lt}
use Rattle.std.proofs.lemmas.Bool.Decides.{nat_tests}
use Rattle.run_rules.specs.declared.deed.Deed.{Deed}
use Rattle.run_rules.specs.declared.deed.Deed.TheVariants.{Search, EndScan, BeginInterrupts, Finalise, EndCaller, Drop, Refuse, Open, Close, Start, Done, Detach, Free, Rescan, BeginPower, Sleep, Wake, EndPower, Plug, Unplug, Tell}
use Rattle.run_rules.specs.World.{World}
use Rattle.plain_world.specs.LiveDevices.{LiveDevices}
use Rattle.boot_looks.specs.declared.see.Span.{Span}
use Rattle.boot_looks.specs.declared.visit.Look.{Look}
use Rattle.boot_looks.specs.declared.visit.Visit.{Visit}
use Rattle.boot_looks.specs.Looks.{AreSeen, look_at, seen, span_of, visit_by, visit_if}

-- outside of these spots
abbrev pub Outside : Span → ℕ → Type 0
Outside span x = (x < span.first) ⊎ (span.end ≤ x)

other : (y x n : ℕ) → x < n → Outside (record { first = y; end = min n (y + 1) }) x → (y == x) ≡ false
other y x n lt (inl less) = grind (arith, nat_tests)
other y x n lt (inr past) = grind (arith, nat_tests)

none_if : (b : Bool) (visit : Visit) → b ≡ false → visit_if b visit ≡ None
none_if true visit e = absurd cc
none_if false visit e = refl

-- a deed comes to no spot outside its span
pub none_outside : (w : World) (d : Deed) (n x : ℕ) → x < n → Outside (span_of d n) x → visit_by w d x ≡ None
none_outside w (Search p spot to got) n x lt out = none_if (spot == x) (record { parent = p; passed = false }) (other spot x n lt out)
none_outside w (Finalise s None got listed anew) n x lt out = refl
none_outside w (Finalise s (Some spot) got listed anew) n x lt out = none_if (spot == x) (record { parent = s; passed = false }) (other spot x n lt out)
none_outside w (EndScan p) n x lt out = absurd (never out)
  where
    never : Outside (record { first = 0; end = n }) x → ⊥
    never (inl less) = absurd (omega arith)
    never (inr past) = absurd (omega (arith, lt))
none_outside w BeginInterrupts n x lt out = refl
none_outside w EndCaller n x lt out = refl
none_outside w (Drop s) n x lt out = refl
none_outside w (Refuse why) n x lt out = refl
none_outside w (Open s sole) n x lt out = refl
none_outside w (Close s) n x lt out = refl
none_outside w (Start t) n x lt out = refl
none_outside w (Done t) n x lt out = refl
none_outside w (Detach s) n x lt out = refl
none_outside w (Free s) n x lt out = refl
none_outside w (Rescan s only) n x lt out = refl
none_outside w (BeginPower kind s) n x lt out = refl
none_outside w (Sleep s) n x lt out = refl
none_outside w (Wake s) n x lt out = refl
none_outside w (EndPower end) n x lt out = refl
none_outside w (Plug y) n x lt out = refl
none_outside w (Unplug y of) n x lt out = refl
none_outside w Tell n x lt out = refl

-- the span is of the spots that there are
pub span_low : (d : Deed) (n : ℕ) → (span_of d n).end ≤ n
span_low (Search p spot to got) n = omega arith
span_low (Finalise s None got listed anew) n = omega arith
span_low (Finalise s (Some spot) got listed anew) n = omega arith
span_low (EndScan p) n = omega arith
span_low BeginInterrupts n = omega arith
span_low EndCaller n = omega arith
span_low (Drop s) n = omega arith
span_low (Refuse why) n = omega arith
span_low (Open s sole) n = omega arith
span_low (Close s) n = omega arith
span_low (Start t) n = omega arith
span_low (Done t) n = omega arith
span_low (Detach s) n = omega arith
span_low (Free s) n = omega arith
span_low (Rescan s only) n = omega arith
span_low (BeginPower kind s) n = omega arith
span_low (Sleep s) n = omega arith
span_low (Wake s) n = omega arith
span_low (EndPower end) n = omega arith
span_low (Plug y) n = omega arith
span_low (Unplug y of) n = omega arith
span_low Tell n = omega arith

-- ---- one spot more

-- the spots of the span up to k are looked at
pub record SeesTo (w : World) (live : LiveDevices) (d : Deed) (span : Span) (k : ℕ) (old new : List (Option Look)) : Type 0 where
  pub spots : length new ≡ length old
  pub begun : span.first ≤ k
  pub done : (x : ℕ) → x < length old → span.first ≤ x → x < k → look_at new x ≡ seen live (visit_by w d x) (look_at old x)
  pub left : (x : ℕ) → x < length old → (x < span.first) ⊎ (k ≤ x) → look_at new x ≡ look_at old x

pub sees_none : (w : World) (live : LiveDevices) (d : Deed) (span : Span) (looks : List (Option Look)) → SeesTo w live d span span.first looks looks
sees_none w live d span looks = record { spots = refl; begun = omega arith; done = λ x lt from to. absurd (omega (arith, from, to)); left = λ x lt out. refl }

later : (first k x : ℕ) → (x < first) ⊎ (k + 1 ≤ x) → (x < first) ⊎ (k ≤ x)
later first k x (inl less) = inl less
later first k x (inr past) = inr (omega arith)

pub sees_same : (w : World) (live : LiveDevices) (d : Deed) (span : Span) (k : ℕ) (old new : List (Option Look)) → visit_by w d k ≡ None
    → SeesTo w live d span k old new → SeesTo w live d span (k + 1) old new
sees_same w live d span k old new none so = record {
  spots = so.spots;
  begun = omega (arith, so.begun);
  done = λ x lt from to. elim (cases_lt x k) [
    | inl less ↦ so.done x lt from less
    | inr past ↦
        let same : x ≡ k = omega (arith, past, to) in
        let never : visit_by w d x ≡ None = ap (visit_by w d) same ∙ none in
        so.left x lt (inr past) ∙ sym (ap (λ (visit : Option Visit). seen live visit (look_at old x)) never)
  ];
  left = λ x lt out. so.left x lt (later span.first k x out);
}

pub sees_one : (w : World) (live : LiveDevices) (d : Deed) (span : Span) (k : ℕ) (old new more : List (Option Look)) (visit : Visit) (look : Look) → k < length old
    → visit_by w d k ≡ Some visit → look ≡ record { live = live; visit = visit } → more ≡ slice_set new k (Some look) → SeesTo w live d span k old new → SeesTo w live d span (k + 1) old more
sees_one w live d span k old new more visit look low comes is set so = record {
  spots = ap length set ∙ length-set new k (Some look) ∙ so.spots;
  begun = omega (arith, so.begun);
  done = λ x lt from to. elim (cases_lt x k) [
    | inl less ↦ other x (λ same. omega (arith, less, same)) ∙ so.done x lt from less
    | inr past ↦ let same : x ≡ k = omega (arith, past, to) in subst (λ (y : ℕ). look_at more y ≡ seen live (visit_by w d y) (look_at old y)) (sym same) here
  ];
  left = λ x lt out. other x (λ same. apart x out same) ∙ so.left x lt (later span.first k x out);
}
  where
    other : (x : ℕ) → (x ≡ k → ⊥) → look_at more x ≡ look_at new x
    other x apart = ap (λ (l : List (Option Look)). look_at l x) set ∙ get_or-set_other new k x (Some look) None apart

    within : k < length new
    within = omega (arith, low, so.spots)

    here : look_at more k ≡ seen live (visit_by w d k) (look_at old k)
    here =
        ap (λ (l : List (Option Look)). look_at l k) set ∙ get_or-set_same new k (Some look) None within
        ∙ ap Some is ∙ sym (ap (λ (v : Option Visit). seen live v (look_at old k)) comes)

    apart : (x : ℕ) → (x < span.first) ⊎ (k + 1 ≤ x) → x ≡ k → ⊥
    apart x (inl less) same = absurd (omega (arith, less, same, so.begun))
    apart x (inr past) same = absurd (omega (arith, past, same))

-- all spots are looked at
pub sees_all : (w : World) (live : LiveDevices) (d : Deed) (span : Span) (k n : ℕ) (old new : List (Option Look)) → n ≡ length old → span ≡ span_of d n → span.end ≤ k
    → SeesTo w live d span k old new → AreSeen w live d old new
sees_all w live d span k n old new count same over so = record {
  spots = so.spots;
  looks = λ x lt. elim (cases_lt x span.first) [
    | inl less ↦ unseen x lt (inl less) (inl less)
    | inr from ↦ elim (cases_lt x k) [
      | inl to ↦ so.done x lt from to
      | inr past ↦ unseen x lt (inr (omega (arith, over, past))) (inr past)
    ]
  ];
}
  where
    unseen : (x : ℕ) → x < length old → Outside span x → (x < span.first) ⊎ (k ≤ x) → look_at new x ≡ seen live (visit_by w d x) (look_at old x)
    unseen x lt out left =
        let never : visit_by w d x ≡ None = none_outside w d n x (omega (arith, count, lt)) (subst (λ (p : Span). Outside p x) same out) in
        so.left x lt left ∙ sym (ap (λ (v : Option Visit). seen live v (look_at old x)) never)
