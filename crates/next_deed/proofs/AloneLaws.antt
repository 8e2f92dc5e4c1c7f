-- What keeps a device from going that has no children.
use Rattle.std.proofs.Common.{◌≡◌, ◌<◌, ◌&&◌, ◌||◌, ◌==◌, ℕ, Bool, true, false, cond, List, [], ◌∷◌, length, find, Some, None, refl, sym, ap, ◌∙◌, arith}
use Rattle.std.specs.Prelude.{IsTrue}
use Rattle.std.specs.List.{AllByRecursion}
use Rattle.std.proofs.lemmas.Bool.{eqb-true, ne_eqb}
use Rattle.run_rules.proofs.Devices.{all_imp, found_in}
use Rattle.run_rules.proofs.Each.{find_alike}
use Rattle.run_rules.proofs.Free.{find_true}
use Rattle.run_rules.specs.declared.world.Dev.{Dev}
use Rattle.run_rules.specs.Next.{hindered, is_hindrance}
use Rattle.run_rules.specs.Sound.{EachLater}
use Rattle.run_rules.specs.World.{World, children, device_at, is_live, serial_of}
use Rattle.dev_tree.specs.Tree.{AreInOrder}
use Rattle.dev_tree.proofs.BareLaws.{alone_under, children_bare}
use Rattle.next_deed.specs.Choices.{keeps}

none_later : (q : Dev → Bool) (t : ℕ) (ds : List Dev) → AllByRecursion (λ e. t < e.serial) ds → find (λ e. e.serial == t && q e) ds ≡ None
none_later q t [] h = refl
none_later q t (d ∷ ds) h =
    let low : t < d.serial = h.0 in
    rw (ne_eqb d.serial t (λ e. absurd (omega (arith, low, e)))) (none_later q t ds h.1)

-- of the devices of one serial the test is that of the device itself
found_alone : (q : Dev → Bool) (t : ℕ) (live : List Dev) (d : Dev) → EachLater (λ d e. d.serial < e.serial) live → device_at live t ≡ Some d → find (λ e. e.serial == t && q e) live ≡ cond (q d) (Some d) None
found_alone q t [] d later e = absurd cc
found_alone q t (x ∷ xs) d later e = cases (λ h. found_alone q t xs d later.1 h) (x.serial == t) refl e
  where
    same : Some x ≡ Some d → x ≡ d
    same h = cc

    own : (b : Bool) → find (λ e. e.serial == t && q e) xs ≡ None → cond b (Some x) (find (λ e. e.serial == t && q e) xs) ≡ cond b (Some x) None
    own true h = refl
    own false h = h

    cases : (device_at xs t ≡ Some d → find (λ e. e.serial == t && q e) xs ≡ cond (q d) (Some d) None) → (b : Bool) → (x.serial == t) ≡ b → cond b (Some x) (device_at xs t) ≡ Some d
        → cond (b && q x) (Some x) (find (λ e. e.serial == t && q e) xs) ≡ cond (q d) (Some d) None
    cases more true is h =
        let at : x.serial ≡ t = eqb-true x.serial t is in
        own (q x) (none_later q t xs (all_imp (λ (e : Dev). x.serial < e.serial) (λ e. t < e.serial) (λ e lt. omega (arith, lt, at)) xs later.0))
        ∙ ap (λ (y : Dev). cond (q y) (Some y) None) (same h)
    cases more false is h = more h

each_one : {A : Type 0} (P : A → Type 0) → ((x : A) → P x) → (xs : List A) → AllByRecursion P xs
each_one P h [] = tt
each_one P h (x ∷ xs) = (h x, each_one P h xs)

some_there : (live : List Dev) (t : ℕ) (d : Dev) → device_at live t ≡ Some d → 0 < length live
some_there [] t d e = absurd cc
some_there (x ∷ xs) t d e = omega arith

pub live_found : (live : List Dev) (t : ℕ) → IsTrue (is_live live t) → device_at live t ≡ None → ⊥
live_found [] t on gone = absurd cc
live_found (x ∷ xs) t on gone = cases (λ k h. live_found xs t k h) (x.serial == t) on gone
  where
    cases : (IsTrue (is_live xs t) → device_at xs t ≡ None → ⊥) → (b : Bool) → IsTrue (b || is_live xs t) → cond b (Some x) (device_at xs t) ≡ None → ⊥
    cases more true k h = absurd cc
    cases more false k h = more k h

hindered_alone : (w : World) (k t : ℕ) (forced : Bool) (d : Dev) → AreInOrder w.live → children w.live t ≡ [] → device_at w.live t ≡ Some d → hindered w t k forced ≡ cond (keeps w k forced d) (Some d) None
unfolding hindered
hindered_alone w k t forced d order bare at =
    let low : 0 < d.serial = found_in (λ (e : Dev). 0 < e.serial) (λ e. e.serial == t) w.live d order.above at in
    let own : d.serial ≡ t = eqb-true d.serial t (find_true (λ (e : Dev). e.serial == t) w.live d at) in
    find_alike (is_hindrance w t k forced) (λ e. e.serial == t && keeps w k forced e) w.live
    (each_one (λ e. is_hindrance w t k forced e ≡ (e.serial == t && keeps w k forced e))
    (λ e. ap (λ b. b && keeps w k forced e) (alone_under w.live t e.serial (children_bare w.live t bare) (omega (arith, low, own)) (some_there w.live t d at))) w.live)
    ∙ found_alone (keeps w k forced) t w.live d order.later at

pub alone_kept : (w : World) (k t : ℕ) (forced kept : Bool) (d : Dev) → AreInOrder w.live → children w.live t ≡ [] → device_at w.live t ≡ Some d → kept ≡ keeps w k forced d → kept ≡ true
    → Some t ≡ serial_of (hindered w t k forced)
alone_kept w k t forced kept d order bare at is on =
    let own : d.serial ≡ t = eqb-true d.serial t (find_true (λ (e : Dev). e.serial == t) w.live d at) in
    sym (ap serial_of (hindered_alone w k t forced d order bare at ∙ ap (λ b. cond b (Some d) None) (sym is ∙ on)) ∙ ap Some own)

pub alone_free : (w : World) (k t : ℕ) (forced kept : Bool) (d : Dev) → AreInOrder w.live → children w.live t ≡ [] → device_at w.live t ≡ Some d → kept ≡ keeps w k forced d → kept ≡ false
    → None ≡ serial_of (hindered w t k forced)
alone_free w k t forced kept d order bare at is off =
    sym (ap serial_of (hindered_alone w k t forced d order bare at ∙ ap (λ b. cond b (Some d) None) (sym is ∙ off)))
