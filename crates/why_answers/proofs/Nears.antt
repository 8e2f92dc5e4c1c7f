-- The nearest of the spots so far, one spot more.
use Rattle.std.proofs.Common.{◌≡◌, ◌<◌, ◌≤◌, ◌+◌, ◌∙◌, ℕ, Bool, true, false, Option, Some, None, refl, sym, ap, subst, arith}
use Rattle.std.specs.Prelude.{nat_le, if◌then◌else◌, option_map, IfSome}
use Rattle.std.proofs.lemmas.Bool.Decides.{nat_tests}
use Rattle.run_rules.specs.Search.{first_best}
use Rattle.run_rules.proofs.Winner.{IsBest, best_first, best_is, best_kept, best_new, best_none, best_same}
use Rattle.why_answers.specs.declared.near.Near.{Near}
use Rattle.why_answers.specs.Seen.{nearer}

-- the best of the first n that pass, with its value
pub record HasNear (c : ℕ → Bool) (v : ℕ → ℕ) (n : ℕ) (best : Option Near) : Type 0 where
  pub is : IsBest c v n (option_map (λ near. near.spot) best)
  pub met : IfSome best (λ near. near.met ≡ v near.spot)

pub near_none : (c : ℕ → Bool) (v : ℕ → ℕ) → HasNear c v 0 None
near_none c v = record { is = best_none c v; met = tt }

pub near_same : (c : ℕ → Bool) (v : ℕ → ℕ) (n : ℕ) (best : Option Near) → c n ≡ false → HasNear c v n best → HasNear c v (n + 1) best
near_same c v n best out so = record { is = best_same c v n (option_map (λ near. near.spot) best) out so.is; met = so.met }

not_above : (x y : ℕ) → nat_le x y ≡ true → x ≤ y
not_above x y h = grind (arith, nat_tests)

above : (x y : ℕ) → nat_le x y ≡ false → y < x
above x y h = grind (arith, nat_tests)

pub near_more : (c : ℕ → Bool) (v : ℕ → ℕ) (n : ℕ) (best : Option Near) (near : Near) → c n ≡ true → near.spot ≡ n → near.met ≡ v n → HasNear c v n best
    → HasNear c v (n + 1) (Some (nearer best near))
near_more c v n None near is here value so = record {
  is = subst (λ (x : ℕ). IsBest c v (n + 1) (Some x)) (sym here) (best_first c v n is so.is);
  met = value ∙ ap v (sym here);
}
near_more c v n (Some best) near is here value so = by (nat_le near.met best.met) refl
  where
    by : (b : Bool) → nat_le near.met best.met ≡ b → HasNear c v (n + 1) (Some (if b then best else near))
    by true h =
        let least : near.met ≤ best.met = not_above near.met best.met h in
        record { is = best_kept c v n best.spot (omega (arith, least, value, so.met)) so.is; met = so.met }
    by false h =
        let more : best.met < near.met = above near.met best.met h in
        record {
          is = subst (λ (x : ℕ). IsBest c v (n + 1) (Some x)) (sym here) (best_new c v n best.spot is (omega (arith, more, value, so.met)) so.is);
          met = value ∙ ap v (sym here);
        }

pub near_is : (c : ℕ → Bool) (v : ℕ → ℕ) (n m : ℕ) (best : Option Near) → m ≡ n → HasNear c v m best → first_best c v n ≡ option_map (λ near. near.spot) best
near_is c v n m best same so = best_is c v n (option_map (λ near. near.spot) best) (subst (λ (k : ℕ). IsBest c v k (option_map (λ near. near.spot) best)) same so.is)
