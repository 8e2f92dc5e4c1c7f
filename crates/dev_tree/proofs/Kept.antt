-- What every tree keeps, after each change.
use Rattle.std.proofs.Common.{◌≡◌, ◌≢◌, ℕ, ◌+◌, ◌<◌, Bool, true, false, not, ◌&&◌, ◌||◌, ◌==◌, cond, None, List, [], ◌∷◌, ◌++◌, length, map, refl, ap, sym, subst, ◌∙◌, arith}
use Rattle.std.specs.Prelude.{IsTrue, filter}
use Rattle.std.specs.List.{list_any, zip}
use Rattle.std.proofs.lemmas.Bool.{eqb-true, eqb-false, not_from_false}
use Rattle.std.proofs.lemmas.List.{length-append}
use Rattle.std.proofs.lemmas.Map.Views.{any-filter_same}
use Rattle.run_rules.proofs.Each.{all_filter, later_filter}
use Rattle.run_rules.specs.declared.world.Arrival.{Arrival}
use Rattle.run_rules.specs.declared.world.Dev.{Dev}
use Rattle.run_rules.specs.World.{is_live, children}
use Rattle.run_rules.specs.Search.{is_occupied}
use Rattle.run_rules.specs.Sound.{EachLater, IsPlaced}
use Rattle.run_rules.proofs.Devices.{all_snoc, all_imp, all_both, later_snoc, none_of, known_more, below_next}
use Rattle.dev_tree.specs.Tree.{Devices, driven, has_name, is_named, with_device, without_device, AreInOrder, AreSound}
use Rattle.dev_tree.proofs.Alike.{Alike, SamePlain, all_alike, later_alike, live_alike, length_alike}
use Rattle.dev_tree.proofs.Pairs.{zip_snoc, zip_parts, filter_firsts, length_parts}

pub order_of : (t : Devices) → AreSound t → AreInOrder t.live
order_of t h = record {
  above = all_imp (IsPlaced t.live t.next) (λ d. 0 < d.serial) (λ d p. let a = p.after_parent in omega arith) t.live h.placed;
  later = h.later;
}

-- ---- no device

pub sound_start : AreSound (record { live = []; drivers = []; next = 1 })
sound_start = record { drivers = refl; from_one = omega arith; placed = tt; later = tt; spots = tt; names = tt }

-- ---- one device more

pub known_below : (t : Devices) (p : ℕ) → AreSound t → IsTrue (p == 0 || is_live t.live p) → p < t.next
known_below t p h known = cases (p == 0) refl known
  where
    cases : (b : Bool) → (p == 0) ≡ b → IsTrue (b || is_live t.live p) → p < t.next
    cases true e k = let low = h.from_one in omega (arith, eqb-true p 0 e)
    cases false e k = below_next t.live t.live t.next p h.placed k

pub sound_with : (t : Devices) (device : ℕ) (a : Arrival) → AreSound t → is_named t device a.unit ≡ false → is_occupied t.live a.spot ≡ false
    → IsTrue (a.parent == 0 || is_live t.live a.parent) → AreSound (with_device t device a)
sound_with t device a h named bare known =
    let e : Dev = record { serial = t.next; row = a.row; unit = a.unit; parent = a.parent; spot = a.spot; asleep = false; condemned = None } in
    let long = h.drivers in
    record {
      drivers = omega (arith, length-append t.drivers (device ∷ []), length-append t.live (e ∷ []), long);
      from_one = omega arith;
      placed = all_snoc (IsPlaced (t.live ++ e ∷ []) (t.next + 1)) t.live e
          (all_imp (IsPlaced t.live t.next) (IsPlaced (t.live ++ e ∷ []) (t.next + 1)) (λ d p. let low = p.below_next in record { below_next = omega arith; after_parent = p.after_parent; parent_live = known_more t.live e d.parent p.parent_live }) t.live h.placed)
          (record { below_next = omega arith; after_parent = known_below t a.parent h known; parent_live = known_more t.live e a.parent known });
      later = later_snoc (λ d f. d.serial < f.serial) t.live e h.later (all_imp (IsPlaced t.live t.next) (λ d. d.serial < t.next) (λ d p. p.below_next) t.live h.placed);
      spots = later_snoc (λ d f. d.spot ≢ f.spot) t.live e h.spots
          (all_imp (λ d. (d.spot == a.spot) ≡ false) (λ d. d.spot ≢ a.spot) (λ d k. eqb-false d.spot a.spot k) t.live (none_of (λ d. d.spot == a.spot) t.live bare));
      names = subst (EachLater (λ p q. IsTrue (not (p.1 == q.1 && p.0.unit == q.0.unit)))) (sym (zip_snoc t.live t.drivers e device long))
          (later_snoc (λ p q. IsTrue (not (p.1 == q.1 && p.0.unit == q.0.unit))) (driven t) (e, device) h.names
          (all_imp (λ p. has_name device a.unit p ≡ false) (λ p. IsTrue (not (p.1 == device && p.0.unit == a.unit))) (λ p k. not_from_false (p.1 == device && p.0.unit == a.unit) k) (driven t) (none_of (has_name device a.unit) (driven t) named)));
    }

-- ---- one device less

nothing_kept : {A : Type 0} (test : A → Bool) (xs : List A) → filter test xs ≡ [] → list_any test xs ≡ false
nothing_kept test [] e = refl
nothing_kept {A} test (x ∷ xs) e = cases (test x) (λ k. nothing_kept test xs k) e
  where
    cases : (b : Bool) → (filter test xs ≡ [] → list_any test xs ≡ false) → cond b (x ∷ filter test xs) (filter test xs) ≡ [] → (b || list_any test xs) ≡ false
    cases true more k = absurd cc
    cases false more k = more k

-- a device other than this one is live as before
other_live : (live : List Dev) (s p : ℕ) → (p == s) ≡ false → is_live (filter (λ d. not (d.serial == s)) live) p ≡ is_live live p
other_live live s p ne = any-filter_same (λ d. d.serial == p) (λ d. not (d.serial == s)) true kept live
  where
    kept : (d : Dev) → (d.serial == p) ≡ true → not (d.serial == s) ≡ true
    kept d e = let is : d.serial ≡ p = eqb-true d.serial p e in rw is (rw ne refl)

pub sound_without : (t : Devices) (s : ℕ) → AreSound t → children t.live s ≡ [] → AreSound (without_device t s)
sound_without t s h alone =
    let test : Dev → Bool = λ d. not (d.serial == s) in
    let rest : List (Dev × ℕ) = filter (λ p. test p.0) (driven t) in
    let firsts : map (λ p. p.0) rest ≡ filter test t.live = filter_firsts test t.live t.drivers h.drivers in
    let pairs : zip (filter test t.live) (map (λ p. p.1) rest) ≡ rest = ap (λ xs. zip xs (map (λ p. p.1) rest)) (sym firsts) ∙ zip_parts rest in
    record {
      drivers = length_parts rest ∙ ap length firsts;
      from_one = h.from_one;
      placed = all_filter (IsPlaced (filter test t.live) t.next) test t.live
          (all_both (IsPlaced t.live t.next) (λ d. (d.parent == s) ≡ false) (IsPlaced (filter test t.live) t.next)
          (λ d p ne. record { below_next = p.below_next; after_parent = p.after_parent; parent_live = subst (λ b. IsTrue (d.parent == 0 || b)) (sym (other_live t.live s d.parent ne)) p.parent_live })
          t.live h.placed (none_of (λ d. d.parent == s) t.live (nothing_kept (λ d. d.parent == s) t.live alone)));
      later = later_filter (λ d e. d.serial < e.serial) test t.live h.later;
      spots = later_filter (λ d e. d.spot ≢ e.spot) test t.live h.spots;
      names = subst (EachLater (λ p q. IsTrue (not (p.1 == q.1 && p.0.unit == q.0.unit)))) (sym pairs) (later_filter (λ p q. IsTrue (not (p.1 == q.1 && p.0.unit == q.0.unit))) (λ p. test p.0) (driven t) h.names);
    }

-- ---- other marks

abbrev SamePair : Dev × ℕ → Dev × ℕ → Type 0
SamePair p q = SamePlain p.0 q.0 × (p.1 ≡ q.1)

zip_alike : (xs ys : List Dev) (ks : List ℕ) → Alike SamePlain xs ys → Alike SamePair (zip xs ks) (zip ys ks)
zip_alike [] [] ks h = tt
zip_alike (x ∷ xs) (y ∷ ys) [] h = tt
zip_alike (x ∷ xs) (y ∷ ys) (k ∷ ks) h = ((h.0, refl), zip_alike xs ys ks h.1)
zip_alike [] (y ∷ ys) ks h = absurd h
zip_alike (x ∷ xs) [] ks h = absurd h

still_apart : {a b c d m n i j : ℕ} → a ≡ m → b ≡ n → c ≡ i → d ≡ j → IsTrue (not (b == d && a == c)) → IsTrue (not (n == j && m == i))
still_apart {a} {b} {c} {d} {m} {n} {i} {j} e f g h k =
    subst (λ x. IsTrue (not (n == j && m == x))) g (subst (λ x. IsTrue (not (n == x && m == c))) h (subst (λ x. IsTrue (not (x == d && m == c))) f (subst (λ x. IsTrue (not (b == d && x == c))) e k)))

pub sound_marked : (live marked : List Dev) (drivers : List ℕ) (next : ℕ) → Alike SamePlain live marked
    → AreSound (record { live = live; drivers = drivers; next = next }) → AreSound (record { live = marked; drivers = drivers; next = next })
sound_marked live marked drivers next same h = record {
  drivers = h.drivers ∙ length_alike live marked same;
  from_one = h.from_one;
  placed = all_alike SamePlain (IsPlaced live next) (IsPlaced marked next) live marked same
      (λ x y e p. record {
        below_next = subst (λ n. n < next) (ap (λ d. d.serial) e) p.below_next;
        after_parent = subst (λ (d : Dev). d.parent < d.serial) e p.after_parent;
        parent_live = subst (λ n. IsTrue (n == 0 || is_live marked n)) (ap (λ d. d.parent) e) (subst (λ b. IsTrue (x.parent == 0 || b)) (live_alike live marked x.parent same) p.parent_live);
      }) h.placed;
  later = later_alike SamePlain (λ d e. d.serial < e.serial) live marked same (λ x y u v e f lt. subst (λ n. n < v.serial) (ap (λ d. d.serial) e) (subst (λ n. x.serial < n) (ap (λ d. d.serial) f) lt)) h.later;
  spots = later_alike SamePlain (λ d e. d.spot ≢ e.spot) live marked same (λ x y u v e f ne. subst (λ n. n ≢ v.spot) (ap (λ d. d.spot) e) (subst (λ n. x.spot ≢ n) (ap (λ d. d.spot) f) ne)) h.spots;
  names = later_alike SamePair (λ p q. IsTrue (not (p.1 == q.1 && p.0.unit == q.0.unit))) (zip live drivers) (zip marked drivers) (zip_alike live marked drivers same)
      (λ x y u v e f k. still_apart (ap (λ d. d.unit) e.0) e.1 (ap (λ d. d.unit) f.0) f.1 k) h.names;
}
