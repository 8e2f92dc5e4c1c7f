-- Marks that are spread from the root, along a list of those that are marked, mark all that is rooted.
use Rattle.std.proofs.Common.{inl, inr, zero, suc, take, drop, subst, ◌||◌, ◌==◌, ◌≡◌, ℕ, ◌<◌, ◌≤◌, ◌+◌, Bool, true, false, List, [], ◌∷◌, length, get_or, map, refl, ap, sym, ◌∙◌, arith}
use Rattle.std.specs.Prelude.{All, Some, None, slice_get}
use Rattle.attr_graph.specs.Reach.{Shape}
use Rattle.std.specs.List.{list_any}
use Rattle.std.specs.HashMap.{HashMap}
use Rattle.std.proofs.lemmas.Bool.Decides.{nat_tests}
use Rattle.std.proofs.lemmas.List.{take_all, take-append-drop, take-append-le, length-append, length-map, get_or_default}
use Rattle.std.proofs.lemmas.List.Elements.{All-get_or}
use Rattle.std.proofs.lemmas.Option.{slice_get_cases}
use Rattle.std.proofs.lemmas.List.Folds.{list_any_at, list_any_more}
use Rattle.std.proofs.Math.Bool.{or-true}
use Rattle.std.proofs.lemmas.Bool.{or_cases}
use Rattle.cf_types.proofs.TestLemmas.{equal_itself}
use Rattle.cf_types.specs.Gather.{is_in}
use Rattle.config_rules.specs.Select.{Rooted, AreRooted, is_at_root, is_at_root_at}
use Rattle.config_rules.proofs.RootedLaws.{Closed, closed_marks}
use Rattle.cf_types.specs.declared.instance.Instance.{Instance}
use Rattle.cf_select.specs.declared.want.Want.{Want}
use Rattle.config_rules.specs.Meaning.{inst_of}
use Rattle.cf_select.specs.Reached.{AllRooted, AreMarked, AreWaiting, AreWithin, Serves}
use Rattle.cf_select.specs.Wanted.{wants, wants_at}
use Rattle.std.specs.Option.{option_map_or}

pub are_rooted : (at_root : ℕ → Bool) (carries : ℕ → ℕ → Bool) (n : ℕ) (marks : List Bool) → AllRooted at_root carries n marks → ((i : ℕ) → i < n → at_root i ≡ true → get_or marks i false ≡ true) → Closed carries n marks → AreRooted at_root carries n marks
are_rooted at_root carries n marks sound roots closed = record {
  as_many = sound.as_many;
  sound = sound.sound;
  complete = λ i h. closed_marks at_root carries n marks roots closed i h.0 h.1;
}

-- what a marked one carries is rooted
pub rooted_above : (at_root : ℕ → Bool) (carries : ℕ → ℕ → Bool) (n j i : ℕ) → i < n → carries j i ≡ true → Rooted at_root carries n j → Rooted at_root carries n i
rooted_above at_root carries n j i h c r = (j ∷ r.0, (h, c, r.1))

in_range : (xs : List Bool) (j : ℕ) → get_or xs j false ≡ true → j < length xs
in_range [] j h = absurd (cc)
in_range (x ∷ xs) zero h = omega arith
in_range (x ∷ xs) (suc j) h = let e : j < length xs = in_range xs j h in omega arith

-- ---- the marks while they spread, where those before place `next` of the list have marked all that they carry

pub record Spreads {S : Type 0} (at_root : ℕ → Bool) (carries : ℕ → ℕ → Bool) (wanted : Want → ℕ → Bool) (n : ℕ) (waiting : HashMap Want (List ℕ) S) (marks : List Bool) (order : List ℕ) (next : ℕ) : Type 0 where
  pub sound : AllRooted at_root carries n marks
  pub roots : (i : ℕ) → i < n → at_root i ≡ true → get_or marks i false ≡ true
  pub listed : AreMarked marks order
  pub within : AreWithin waiting marks
  pub left : AreWaiting wanted waiting marks
  pub past : next ≤ length order
  pub done : (j i : ℕ) → is_in j (take next order) ≡ true → carries j i ≡ true → get_or marks i false ≡ true

-- each place in the list is below n
pub listed_below : {S : Type 0} (at_root : ℕ → Bool) (carries : ℕ → ℕ → Bool) (wanted : Want → ℕ → Bool) (n : ℕ) (waiting : HashMap Want (List ℕ) S) (marks : List Bool) (order : List ℕ) (next : ℕ)
    → next < length order → Spreads at_root carries wanted n waiting marks order next → (get_or marks (get_or order next 0) false ≡ true) × (get_or order next 0 < n)
listed_below at_root carries wanted n waiting marks order next h r =
    let marked : get_or marks (get_or order next 0) false ≡ true = sym (r.listed.same (get_or order next 0)) ∙ list_any_at (λ y. y == get_or order next 0) order next 0 h (equal_itself (get_or order next 0)) in
    (marked, omega (arith, in_range marks (get_or order next 0) marked, r.sound.as_many))

pub spread_more : {S : Type 0} (at_root : ℕ → Bool) (carries : ℕ → ℕ → Bool) (wanted : Want → ℕ → Bool) (n : ℕ) (w : HashMap Want (List ℕ) S) (m : List Bool) (o : List ℕ) (next : ℕ) (w1 : HashMap Want (List ℕ) S) (m1 : List Bool) (o1 : List ℕ) (ws : List Want)
    → next < length o → Spreads at_root carries wanted n w m o next → Serves w m o w1 m1 o1 ws → ((x : ℕ) → list_any (λ q. wanted q x) ws ≡ carries (get_or o next 0) x)
    → Spreads at_root carries wanted n w1 m1 o1 (next + 1)
spread_more at_root carries wanted n w m o next w1 m1 o1 ws h r serves same =
    let j : ℕ = get_or o next 0 in
    let here = listed_below at_root carries wanted n w m o next h r in
    let more = serves.served wanted r.left in
    let kept : (i : ℕ) → get_or m i false ≡ true → get_or m1 i false ≡ true = λ i e. more.marked i ∙ ap (λ b. b || list_any (λ q. wanted q i) ws) e in
    let whole : length (take (length o) o1) + length (drop (length o) o1) ≡ length o1 = sym (length-append (take (length o) o1) (drop (length o) o1)) ∙ ap length (take-append-drop (length o) o1) in
    let longer : next + 1 ≤ length o1 = omega (arith, whole, ap length more.front) in
    let short : next + 1 ≤ length (take (length o) o1) = omega (arith, ap length more.front) in
    let front : take (next + 1) o1 ≡ take (next + 1) o = ap (take (next + 1)) (sym (take-append-drop (length o) o1)) ∙ take-append-le (next + 1) (take (length o) o1) (drop (length o) o1) short ∙ ap (take (next + 1)) more.front in
    record {
      sound = record {
        as_many = more.size ∙ r.sound.as_many;
        sound = λ i p e. elim (or_cases (get_or m i false) (list_any (λ q. wanted q i) ws) (sym (more.marked i) ∙ e)) [
          | inl was ↦ r.sound.sound i p was
          | inr new ↦ rooted_above at_root carries n j i p (sym (same i) ∙ new) (r.sound.sound j here.1 here.0)
        ];
      };
      roots = λ i p e. kept i (r.roots i p e);
      listed = more.listed r.listed;
      within = serves.within;
      left = serves.left wanted r.left;
      past = longer;
      done = λ k i e c. elim (or_cases (is_in k (take next o)) (j == k) (sym (ap (is_in k) front ∙ list_any_more (λ y. y == k) o next 0 h) ∙ e)) [
        | inl before ↦ kept i (r.done k i before c)
        | inr now ↦ (let is : j ≡ k = grind (arith, nat_tests) in more.marked i ∙ ap (λ b. get_or m i false || b) (same i ∙ ap (λ x. carries x i) is ∙ c) ∙ or-true (get_or m i false))
      ];
    }

pub spread_all : {S : Type 0} (at_root : ℕ → Bool) (carries : ℕ → ℕ → Bool) (wanted : Want → ℕ → Bool) (n : ℕ) (w : HashMap Want (List ℕ) S) (m : List Bool) (o : List ℕ) (next : ℕ)
    → length o ≤ next → Spreads at_root carries wanted n w m o next → AreRooted at_root carries n m
spread_all at_root carries wanted n w m o next h r =
    are_rooted at_root carries n m r.sound r.roots (λ j i p e c. r.done j i (ap (is_in j) (take_all next o h) ∙ r.listed.same j ∙ e) c)

-- ---- the marks at the start

pub root_read : (insts : List Instance) (i : ℕ) → get_or (map (λ x. is_at_root (inst_of x)) insts) i false ≡ is_at_root_at (map inst_of insts) i
root_read [] i = refl
root_read (x ∷ insts) zero = refl
root_read (x ∷ insts) (suc i) = root_read insts i

pub roots_marked : (insts : List Instance) (marks : List Bool) (i : ℕ) → marks ≡ map (λ x. is_at_root (inst_of x)) insts → is_at_root_at (map inst_of insts) i ≡ true → get_or marks i false ≡ true
roots_marked insts marks i e root = ap (λ xs. get_or xs i false) e ∙ root_read insts i ∙ root

pub marked_roots : (carries : ℕ → ℕ → Bool) (insts : List Instance) (marks : List Bool) → marks ≡ map (λ x. is_at_root (inst_of x)) insts → AllRooted (is_at_root_at (map inst_of insts)) carries (length insts) marks
marked_roots carries insts marks e = record {
  as_many = ap length e ∙ length-map insts (λ x. is_at_root (inst_of x));
  sound = λ i h m. ([], (h, sym (root_read insts i) ∙ ap (λ xs. get_or xs i false) (sym e) ∙ m));
}

-- what is read at a place
pub read_at : (xs : List ℕ) (i r : ℕ) → i < length xs → r ≡ get_or xs i r → r ≡ get_or xs i 0
read_at xs i r h e = e ∙ get_or_default xs i r 0 h

pub known_at : (graph : Shape) (insts : List Instance) (n : ℕ) (i : Instance) → All (λ x. x.joined.device < length graph.devices) insts → slice_get insts n ≡ Some i → i.joined.device < length graph.devices
known_at graph insts n i known is = elim (slice_get_cases insts n).1 [
  | inl e ↦ (let P : Instance → Type 0 = λ x. x.joined.device < length graph.devices in
      let same : e.0 ≡ i = cc (is, e.2) in
      subst P same (subst P e.3 (All-get_or P insts n e.0 e.1 known)))
  | inr e ↦ (let no_way : Some i ≡ None = sym is ∙ e.1 in absurd (cc))
]

-- what an instance waits for has a mark
pub wanted_within : (insts : List Instance) (marks : List Bool) (q : Want) (x : ℕ) (so : Bool) → length marks ≡ length insts → so ≡ wants_at (map inst_of insts) q x → so ≡ true → x < length marks
wanted_within insts marks q x so size is so_is = elim (slice_get_cases (map inst_of insts) x).1 [
  | inl e ↦ omega (arith, e.1, size, length-map insts inst_of)
  | inr e ↦ (let none : wants_at (map inst_of insts) q x ≡ false = ap (λ i. option_map_or (λ j. wants j q) i false) e.1 in
      let no_way : false ≡ true = sym none ∙ sym is ∙ so_is in absurd (cc))
]
