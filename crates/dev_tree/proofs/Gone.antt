-- The place of a device, and the lists without it.
use Rattle.std.proofs.Common.{◌≡◌, ℕ, zero, suc, ◌<◌, false, not, ◌==◌, None, List, [], ◌∷◌, length, get_or, map, refl, ap, sym, subst, ◌∙◌, eq-eqb, arith}
use Rattle.std.specs.Prelude.{filter, remove}
use Rattle.std.specs.List.{AllByRecursion, zip}
use Rattle.std.proofs.lemmas.Bool.{ne_eqb}
use Rattle.run_rules.specs.declared.world.Dev.{Dev}
use Rattle.run_rules.specs.Sound.{EachLater}
use Rattle.run_rules.proofs.Order.{all_at, live_gone}
use Rattle.dev_tree.specs.Tree.{Devices, AreSound, without_device}

none_gone_beside : (s : ℕ) (ds : List Dev) (ks : List ℕ) → length ks ≡ length ds → AllByRecursion (λ d. s < d.serial) ds
    → map (λ p. p.1) (filter (λ p. not (p.0.serial == s)) (zip ds ks)) ≡ ks
none_gone_beside s [] [] long h = refl
none_gone_beside s [] (k ∷ ks) long h = absurd (omega arith)
none_gone_beside s (d ∷ ds) [] long h = absurd (omega arith)
none_gone_beside s (d ∷ ds) (k ∷ ks) long h =
    let low : s < d.serial = h.0 in
    let ne : (d.serial == s) ≡ false = ne_eqb d.serial s (λ e. absurd (omega arith)) in
    rw ne (ap (λ xs. k ∷ xs) (none_gone_beside s ds ks (omega arith) h.1))

pub driver_gone : (ds : List Dev) (ks : List ℕ) (i s : ℕ) (x : Dev) → EachLater (λ d e. d.serial < e.serial) ds → length ks ≡ length ds → i < length ds → (get_or ds i x).serial ≡ s
    → remove ks i ≡ map (λ p. p.1) (filter (λ p. not (p.0.serial == s)) (zip ds ks))
driver_gone [] ks i s x h long lt is = absurd (omega arith)
driver_gone (d ∷ ds) [] i s x h long lt is = absurd (omega arith)
driver_gone (d ∷ ds) (k ∷ ks) zero s x h long lt is =
    subst (λ n. ks ≡ map (λ p. p.1) (filter (λ p. not (p.0.serial == n)) (zip (d ∷ ds) (k ∷ ks)))) is
    (rw (eq-eqb d.serial d.serial refl) (sym (none_gone_beside d.serial ds ks (omega arith) h.0)))
driver_gone (d ∷ ds) (k ∷ ks) (suc i) s x h long lt is =
    let low : d.serial < (get_or ds i x).serial = all_at (λ e. d.serial < e.serial) ds i x h.0 (omega arith) in
    let ne : (d.serial == s) ≡ false = ne_eqb d.serial s (λ e. absurd (omega arith)) in
    rw ne (ap (λ xs. k ∷ xs) (driver_gone ds ks i s x h.1 (omega arith) (omega arith) is))

-- what is left where both lists lose the same place
pub rest_is : (live left : List Dev) (drivers others : List ℕ) (next i s : ℕ) (seen : List Dev) → AreSound (record { live = live; drivers = drivers; next = next }) → seen ≡ live
    → (i < length seen) × ((d : Dev) → (get_or seen i d).serial ≡ s) → left ≡ remove live i → others ≡ remove drivers i
    → Path Devices (record { live = left; drivers = others; next = next }) (without_device (record { live = live; drivers = drivers; next = next }) s)
rest_is live left drivers others next i s seen sound same place e f =
    let here : (i < length live) × ((d : Dev) → (get_or live i d).serial ≡ s) = subst (λ ds. (i < length ds) × ((d : Dev) → (get_or ds i d).serial ≡ s)) same place in
    let x : Dev = record { serial = 0; row = 0; unit = 0; parent = 0; spot = 0; asleep = false; condemned = None } in
    let a : left ≡ filter (λ d. not (d.serial == s)) live = e ∙ live_gone live i s x sound.later here.0 (here.1 x) in
    let b : others ≡ map (λ p. p.1) (filter (λ p. not (p.0.serial == s)) (zip live drivers)) = f ∙ driver_gone live drivers i s x sound.later sound.drivers here.0 (here.1 x) in
    rw (a, b) refl
