-- Marks with the places that are marked, with more of them, and with those that wait for something.
use Rattle.std.proofs.Common.{◌⊎◌, inl, inr, ◌≡◌, ℕ, ◌+◌, ◌<◌, ◌≤◌, ◌||◌, ◌==◌, Bool, true, false, cond, List, [], ◌∷◌, ◌++◌, length, map, take, drop, get_or, refl, ap, sym, ◌∙◌, arith}
use Rattle.std.specs.Prelude.{All}
use Rattle.std.specs.List.{list_any, slice_index_or}
use Rattle.std.specs.HashMap.{HashMap}
use Rattle.std.proofs.lemmas.List.{take_all, take-append-drop, take-append-le, length-append}
use Rattle.std.proofs.lemmas.List.Elements.{All-nil, All-cons}
use Rattle.std.proofs.lemmas.List.Folds.{list_any-append}
use Rattle.std.proofs.Math.Bool.{or-false, or-true}
use Rattle.std.proofs.lemmas.Bool.{or_parts, cases_Bool, false≢true}
use Rattle.cf_types.proofs.TestLemmas.{equal_itself}
use Rattle.cf_types.specs.Gather.{is_in}
use Rattle.cf_select.specs.Places.{list_at}
use Rattle.cf_select.specs.Reached.{AreWaiting, AreWithin, Marks, Serves}
use Rattle.cf_select.specs.Wanted.{AreNoted, waits}
use Rattle.cf_select.specs.contracts.want.WantPartialEq.TheImpl as block
use Rattle.cf_select.specs.declared.want.Carrier.{Carrier}
use Rattle.cf_select.specs.declared.want.Want.{Want}

or_assoc : (a b c : Bool) → ((a || b) || c) ≡ (a || (b || c))
or_assoc true b c = refl
or_assoc false b c = refl

-- a list with one more at its end
pub is_in_push : (xs : List ℕ) (y x : ℕ) → is_in x (xs ++ y ∷ []) ≡ (is_in x xs || (y == x))
is_in_push xs y x = list_any-append (λ z. z == x) xs (y ∷ []) ∙ ap (λ b. is_in x xs || b) (or-false (y == x))

-- ---- marks

-- nothing more is marked
pub mark_none : (marks : List Bool) (order : List ℕ) (test : ℕ → Bool) → ((x : ℕ) → test x ≡ true → get_or marks x false ≡ true) → Marks marks order marks order test
mark_none marks order test known = record {
  marked = λ x. kept (get_or marks x false) (test x) (known x);
  size = refl;
  listed = λ a. a;
  front = take_all (length order) order (omega arith);
}
  where
    kept : (a b : Bool) → (b ≡ true → a ≡ true) → a ≡ (a || b)
    kept true b h = refl
    kept false true h = h refl
    kept false false h = refl

-- ---- more marks, and then more

front_then : (xs ys zs : List ℕ) → take (length xs) ys ≡ xs → take (length ys) zs ≡ ys → take (length xs) zs ≡ xs
front_then xs ys zs a b =
    let whole : length (take (length xs) ys) + length (drop (length xs) ys) ≡ length ys = sym (length-append (take (length xs) ys) (drop (length xs) ys)) ∙ ap length (take-append-drop (length xs) ys) in
    let le : length xs ≤ length (take (length ys) zs) = omega (arith, whole, ap length a, ap length b) in
    ap (take (length xs)) (sym (take-append-drop (length ys) zs)) ∙ take-append-le (length xs) (take (length ys) zs) (drop (length ys) zs) le
    ∙ ap (take (length xs)) b ∙ a

pub marks_then : (m : List Bool) (o : List ℕ) (m1 : List Bool) (o1 : List ℕ) (m2 : List Bool) (o2 : List ℕ) (f g h : ℕ → Bool) → Marks m o m1 o1 f → Marks m1 o1 m2 o2 g
    → ((x : ℕ) → h x ≡ (f x || g x)) → Marks m o m2 o2 h
marks_then m o m1 o1 m2 o2 f g h a b is = record {
  marked = λ x. b.marked x ∙ ap (λ t. t || g x) (a.marked x) ∙ or_assoc (get_or m x false) (f x) (g x) ∙ ap (λ t. get_or m x false || t) (sym (is x));
  size = b.size ∙ a.size;
  listed = λ k. b.listed (a.listed k);
  front = front_then o o1 o2 a.front b.front;
}

-- each of these is below n
pub all_below : (xs : List ℕ) (n : ℕ) → ((x : ℕ) → is_in x xs ≡ true → x < n) → All (λ x. x < n) xs
all_below [] n h = All-nil (λ x. x < n)
all_below (y ∷ xs) n h = All-cons (λ x. x < n) y xs (h y (ap (λ b. b || is_in y xs) (equal_itself y))) (all_below xs n (λ x e. h x (ap (λ b. (y == x) || b) e ∙ or-true (y == x))))

-- ---- those that wait for one thing

pub serve_one : {S : Type 0} (waiting : HashMap Want (List ℕ) S) (marks : List Bool) (order : List ℕ) (next : HashMap Want (List ℕ) S) (marks_new : List Bool) (order_new : List ℕ) (want : Want) (places : List ℕ)
    → AreWithin waiting marks → places ≡ list_at block.ghosts.eq waiting want
    → ((q : Want) → list_at block.ghosts.eq next q ≡ cond (block.ghosts.eq want q) [] (list_at block.ghosts.eq waiting q))
    → ((q : Want) → block.ghosts.eq want q ≡ true → list_at block.ghosts.eq waiting q ≡ places)
    → Marks marks order marks_new order_new (λ x. is_in x places) → Serves waiting marks order next marks_new order_new (want ∷ [])
serve_one waiting marks order next marks_new order_new want places within is rest same more = record {
  within = λ q x h. omega (arith, more.size, within q x (was q x (cases_Bool (block.ghosts.eq want q)) h));
  left = λ wanted known q x h.
      let not_now = or_parts (get_or marks x false) (is_in x places) (sym (more.marked x) ∙ h) in
      stays q x (cases_Bool (block.ghosts.eq want q)) not_now.1 ∙ known q x not_now.0;
  served = λ wanted known. record {
    marked = λ x. more.marked x ∙ as_wanted wanted known x (cases_Bool (get_or marks x false));
    size = more.size;
    listed = more.listed;
    front = more.front;
  };
}
  where
    was : (q : Want) (x : ℕ) → (block.ghosts.eq want q ≡ true) ⊎ (block.ghosts.eq want q ≡ false) → waits next q x ≡ true → waits waiting q x ≡ true
    was q x (inl e) h = let none : list_at block.ghosts.eq next q ≡ [] = rest q ∙ ap (λ b. cond b [] (list_at block.ghosts.eq waiting q)) e in let no_way : false ≡ true = ap (is_in x) (sym none) ∙ h in absurd (cc)
    was q x (inr e) h = let old : list_at block.ghosts.eq next q ≡ list_at block.ghosts.eq waiting q = rest q ∙ ap (λ b. cond b [] (list_at block.ghosts.eq waiting q)) e in ap (is_in x) (sym old) ∙ h

    stays : (q : Want) (x : ℕ) → (block.ghosts.eq want q ≡ true) ⊎ (block.ghosts.eq want q ≡ false) → is_in x places ≡ false → waits next q x ≡ waits waiting q x
    stays q x (inl e) h =
        let none : list_at block.ghosts.eq next q ≡ [] = rest q ∙ ap (λ b. cond b [] (list_at block.ghosts.eq waiting q)) e in
        ap (is_in x) none ∙ sym h ∙ sym (ap (is_in x) (same q e))
    stays q x (inr e) h = let old : list_at block.ghosts.eq next q ≡ list_at block.ghosts.eq waiting q = rest q ∙ ap (λ b. cond b [] (list_at block.ghosts.eq waiting q)) e in ap (is_in x) old

    as_wanted : (wanted : Want → ℕ → Bool) → AreWaiting wanted waiting marks → (x : ℕ) → (get_or marks x false ≡ true) ⊎ (get_or marks x false ≡ false) → (get_or marks x false || is_in x places) ≡ (get_or marks x false || (wanted want x || false))
    as_wanted wanted known x (inl e) = ap (λ b. b || is_in x places) e ∙ sym (ap (λ b. b || (wanted want x || false)) e)
    as_wanted wanted known x (inr e) = ap (λ b. get_or marks x false || b) (ap (is_in x) is ∙ known want x e ∙ sym (or-false (wanted want x)))

-- ---- and then those that wait for other things

pub serves_then : {S : Type 0} (w : HashMap Want (List ℕ) S) (m : List Bool) (o : List ℕ) (w1 : HashMap Want (List ℕ) S) (m1 : List Bool) (o1 : List ℕ) (w2 : HashMap Want (List ℕ) S) (m2 : List Bool) (o2 : List ℕ) (first then all : List Want)
    → Serves w m o w1 m1 o1 first → Serves w1 m1 o1 w2 m2 o2 then → all ≡ first ++ then → Serves w m o w2 m2 o2 all
serves_then w m o w1 m1 o1 w2 m2 o2 first then all a b is = record {
  within = b.within;
  left = λ wanted known. b.left wanted (a.left wanted known);
  served = λ wanted known.
      marks_then m o m1 o1 m2 o2 (λ x. list_any (λ q. wanted q x) first) (λ x. list_any (λ q. wanted q x) then) (λ x. list_any (λ q. wanted q x) all) (a.served wanted known) (b.served wanted (a.left wanted known))
      (λ x. ap (list_any (λ q. wanted q x)) is ∙ list_any-append (λ q. wanted q x) first then);
}

pub serves_none : {S : Type 0} (w : HashMap Want (List ℕ) S) (m : List Bool) (o : List ℕ) → AreWithin w m → Serves w m o w m o []
serves_none w m o within = record {
  within = within;
  left = λ wanted known. known;
  served = λ wanted known. mark_none m o (λ x. false) (λ x h. absurd (cc));
}

-- nobody waits for an attribute that is not noted
pub serves_nobody : {S : Type 0} (w : HashMap Want (List ℕ) S) (m : List Bool) (o : List ℕ) (noted : List Bool) (a : ℕ) (carriers : List Carrier)
    → AreWithin w m → AreNoted w noted → slice_index_or noted a false ≡ false → Serves w m o w m o (map (λ c. record { attr = a; carrier = c }) carriers)
serves_nobody w m o noted a carriers within known none = record {
  within = within;
  left = λ wanted same. same;
  served = λ wanted same. mark_none m o (λ x. list_any (λ q. wanted q x) (map want_by carriers)) (λ x h. marked wanted same x h (cases_Bool (get_or m x false)));
}
  where
    want_by : Carrier → Want
    want_by c = record { attr = a; carrier = c }

    nobody : (c : Carrier) (x : ℕ) → (waits w (want_by c) x ≡ true) ⊎ (waits w (want_by c) x ≡ false) → waits w (want_by c) x ≡ false
    nobody c x (inl e) = absurd (false≢true (sym none ∙ known (want_by c) x e))
    nobody c x (inr e) = e

    unwanted : (wanted : Want → ℕ → Bool) → AreWaiting wanted w m → (x : ℕ) → get_or m x false ≡ false → (cs : List Carrier) → list_any (λ q. wanted q x) (map want_by cs) ≡ false
    unwanted wanted same x e [] = refl
    unwanted wanted same x e (c ∷ cs) =
        ap (λ b. b || list_any (λ q. wanted q x) (map want_by cs)) (sym (same (want_by c) x e) ∙ nobody c x (cases_Bool (waits w (want_by c) x))) ∙ unwanted wanted same x e cs

    marked : (wanted : Want → ℕ → Bool) → AreWaiting wanted w m → (x : ℕ) → list_any (λ q. wanted q x) (map want_by carriers) ≡ true → (get_or m x false ≡ true) ⊎ (get_or m x false ≡ false) → get_or m x false ≡ true
    marked wanted same x h (inl e) = e
    marked wanted same x h (inr e) = absurd (false≢true (sym (unwanted wanted same x e carriers) ∙ h))
