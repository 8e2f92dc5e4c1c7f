-- Each step keeps the rule.
use Rattle.std.proofs.Common.{◌≡◌, ◌≢◌, ◌⊎◌, ℕ, zero, suc, ◌+◌, ◌-◌, ◌*◌, ◌/◌, ◌%◌, ◌^◌, ◌<◌, ◌≤◌, eqb, eq-eqb, ne_eqb, true, false, List, [], ◌∷◌, ◌++◌, map, length, get_or, set, sym, refl, ap, ◌∙◌, subst, inl, inr, ⊎_elim, arith, length-set, get_or-set_other, get_or-set_same}
use Rattle.std.specs.Prelude.{Bool, ◌==◌, bit_and, bit_or, replicate}
use Rattle.std.specs.Int.{bit_at}
use mathlib.Core.Logic.{dite}
use mathlib.Core.Option.{some, some-injective, some-ne-none}
use native.Mathlib.Decide.{ℕ_discrete}
use lib.ListN.{get_elem?}
use lib.Seq.{set-get_or, map-set}
use mathlib.Core.List.{map-append}
use Rattle.atomic_table.specs.Table.{State, keeps, stepped, Act, Valid, Allows, Splits}
use prog.Atomic.{either}
use Rattle.atomic_table.proofs.Lists.{at_set, set_again, set_else, set_here, at_longer, at_map}
use Rattle.lease_table.specs.declared.view.Claim.{Claim}
use Rattle.lease_table.specs.declared.view.Claim.TheVariants.{Nothing, Trying, Held}
use Rattle.ref_ledger.specs.declared.state.SlotState.TheVariants.{Free, Live, Condemned}
use Rattle.lease_table.specs.declared.view.SlotRecord.{SlotRecord}
use Rattle.lease_table.specs.declared.view.SeatRecord.{SeatRecord}
use Rattle.lease_table.specs.declared.view.View.{View}
use Rattle.lease_table.specs.Leases.{Ruled, Says, At, standing, claim_at, slot_at, has_bit, showing, gained, gained_from, with_claim, with_slot, knowing, Buries, Peeked, noticed, next_generation, without, keeper_view, dealt, dealt_to, free_slot, is_live, is_condemned, Looked, Took, Gave}
use Rattle.lease_table.specs.Words.{is_holder, said}
use Rattle.lease_table.specs.declared.view.SlotWord.{SlotWord}
use Rattle.std.proofs.lemmas.Nat.Bits.{bit_at-zero}
use Rattle.std.proofs.lemmas.List.{length-replicate}
use Rattle.lease_table.proofs.Bits.{holder_bit, same_high, or_other, or_same, and_other, and_own, shifted_low, shifted_high, none_low}

abbrev pub rule : {S : Type 0} → ℕ → State S View → Type 0
rule n s = Ruled n s.words (map standing s.views)

-- a word is shown to a seat, and nothing else changes
shows : {S : Type 0} (n id i : ℕ) (s : State S View) (v w : View) → get_elem? s.views id ≡ some v → w.standing ≡ v.standing → rule n s → Ruled n (set s.words i (get_or s.words i 0)) (map standing (set s.views id w))
shows n id i s v w at same r =
    let cores = map standing s.views in
    let back : map standing (set s.views id w) ≡ cores = map-set standing s.views id w ∙ (ap (set cores id) same ∙ set_again cores id v.standing (at_map standing s.views id v at)) in
    subst (λ (t : List ℕ × List SeatRecord). Ruled n t.0 t.1) (λ k. (sym (set-get_or s.words i 0) k, sym back k)) r

pub looks : {S : Type 0} (n slots id : ℕ) (v : View) (held : List (ℕ × S)) (i : ℕ) → i < n → 0 < v.standing.number → Allows (rule n) slots id (v, held) i (λ x. x) (λ x m. Looked i v (said x) m.0)
looks n slots id v held i inside mine s r _ at small =
    let word = get_or s.words i 0 in
    let w = showing v v.standing i (said word) in
    let there = at_map standing s.views id v at in (
      w,
      keeps,
      tt,
      shows n id i s v w at refl r,
      record {
        view = refl;
        held = λ g e. let h = r.held id v.standing there mine i inside g e in (h.0, h.1, r.own id v.standing there mine i inside ∙ ap has_bit e);
      },
    )

-- A seat's own bit changes in one word, and with it what the seat has there
module _ (n id i : ℕ) (words : List ℕ) (cores : List SeatRecord) (r : Ruled n words cores) (c : SeatRecord) (at : At cores id c) (mine : 0 < c.number) (inside : i < n) (h : Claim) (word : ℕ)
    (others : (b : ℕ) → b ≢ c.number - 1 → bit_at word b ≡ bit_at (get_or words i 0) b) (own : is_holder (said word) c.number ≡ has_bit h)
    (fits : (g : ℕ) → h ≡ Held g → ((said (get_or words i 0)).live ≡ true) × ((said (get_or words i 0)).generation ≡ g)) where
  abbrev c' : SeatRecord
  c' = with_claim c i h

  abbrev words' : List ℕ
  words' = set words i word

  abbrev cores' : List SeatRecord
  cores' = set cores id c'

  here : get_or words' i 0 ≡ word
  here = let wide = r.wide in get_or-set_same words i word 0 (omega arith)

  small : c.number ≤ 16
  small = let few = r.few in let l = r.drawn id c at in omega arith

  bits : (x b : ℕ) → b ≢ c.number - 1 → bit_at (get_or words' x 0) b ≡ bit_at (get_or words x 0) b
  bits x b other = dite (ℕ_discrete x i)
      (λ e. subst (λ (z : ℕ). bit_at (get_or words' z 0) b ≡ bit_at (get_or words z 0) b) (sym e) (ap (λ z. bit_at z b) here ∙ others b other))
      (λ e. ap (λ z. bit_at z b) (get_or-set_other words i x word 0 e))

  high : (x : ℕ) → get_or words' x 0 / 2 ^ 18 ≡ get_or words x 0 / 2 ^ 18
  high x = let s = small in same_high (get_or words' x 0) (get_or words x 0) 18 (λ b l. bits x b (λ e. omega arith))

  live_same : (x : ℕ) → (said (get_or words' x 0)).live ≡ (said (get_or words x 0)).live
  live_same x = let s = small in ap (λ (z : ℕ). z == 1) (bits x 16 (λ e. omega arith))

  condemned_same : (x : ℕ) → (said (get_or words' x 0)).condemned ≡ (said (get_or words x 0)).condemned
  condemned_same x = let s = small in ap (λ (z : ℕ). z == 1) (bits x 17 (λ e. omega arith))

  holds_same : (x k : ℕ) → k ≤ 16 → k - 1 ≢ c.number - 1 → is_holder (said (get_or words' x 0)) k ≡ is_holder (said (get_or words x 0)) k
  holds_same x k l other = holder_bit (get_or words' x 0) k l ∙ (ap (λ (z : ℕ). z == 1) (bits x (k - 1) other) ∙ sym (holder_bit (get_or words x 0) k l))

  -- each seat is this one, or another that stays
  each : (j : ℕ) (d : SeatRecord) → At cores' j d → ((j ≡ id) × (c' ≡ d)) ⊎ ((j ≢ id) × At cores j d)
  each j d a = at_set cores id j c' d a

  -- a seat that was there has what it had but for its claims
  before : (P : ℕ → SeatRecord → Type 0) → P id c' → ((j : ℕ) (d : SeatRecord) → At cores j d → P j d) → (j : ℕ) (d : SeatRecord) → At cores' j d → P j d
  before P this rest j d a = ⊎_elim (λ (t : (j ≡ id) × (c' ≡ d)). subst (λ (z : ℕ × SeatRecord). P z.0 z.1) (λ k. (sym t.0 k, t.1 k)) this) (λ (t : (j ≢ id) × At cores j d). rest j d t.1) (each j d a)

  had : (x : ℕ) → (x ≡ i → h ≡ claim_at c' x) × (x ≢ i → claim_at c' x ≡ claim_at c x)
  had x = (
    λ e. let long = r.sized id c at mine in sym (subst (λ (z : ℕ). get_or (set c.claims i h) z Nothing ≡ h) (sym e) (get_or-set_same c.claims i h Nothing (omega arith))),
    λ e. get_or-set_other c.claims i x h Nothing e,
  )

  own_now : (x : ℕ) → x < n → is_holder (said (get_or words' x 0)) c.number ≡ has_bit (claim_at c' x)
  own_now x l = dite (ℕ_discrete x i)
      (λ e. subst (λ (z : ℕ). is_holder (said (get_or words' z 0)) c.number ≡ has_bit h) (sym e) (ap (λ (z : ℕ). is_holder (said z) c.number) here ∙ own) ∙ ap has_bit ((had x).0 e))
      (λ e. ap (λ (z : ℕ). is_holder (said z) c.number) (get_or-set_other words i x word 0 e) ∙ (r.own id c at mine x l ∙ ap has_bit (sym ((had x).1 e))))

  held_now : (x : ℕ) → x < n → (g : ℕ) → claim_at c' x ≡ Held g → ((said (get_or words' x 0)).live ≡ true) × ((said (get_or words' x 0)).generation ≡ g)
  held_now x l g e = dite (ℕ_discrete x i)
      (λ is. let f = fits g ((had x).0 is ∙ e) in subst (λ (z : ℕ). ((said (get_or words' z 0)).live ≡ true) × ((said (get_or words' z 0)).generation ≡ g)) (sym is) (live_same i ∙ f.0, high i ∙ f.1))
      (λ is. let f = r.held id c at mine x l g (sym ((had x).1 is) ∙ e) in (live_same x ∙ f.0, high x ∙ f.1))

  not_keeper : r.keeper ≢ id
  not_keeper e =
      let same : r.keeper_standing ≡ c = some-injective r.keeper_standing c (sym (subst (λ (z : ℕ). At cores z r.keeper_standing) e r.sits) ∙ at) in
      let zero : c.number ≡ 0 = ap (λ (z : SeatRecord). z.number) (sym same) ∙ r.none in
      omega arith

  pub changed : Ruled n words' cores'
  changed = record {
    keeper = r.keeper;
    keeper_standing = r.keeper_standing;
    sits = set_else cores id r.keeper c' not_keeper ∙ r.sits;
    none = r.none;
    few = r.few;
    alone = before (λ j d. d.keeps ≡ true → j ≡ r.keeper) (r.alone id c at) r.alone;
    drawn = before (λ j d. d.number ≤ r.keeper_standing.drawn) (r.drawn id c at) r.drawn;
    apart = λ j k d e a b some same. before (λ x y. 0 < y.number → y.number ≡ e.number → x ≡ k)
        (before (λ x y. 0 < c.number → c.number ≡ y.number → id ≡ x) (λ _ _. refl) (λ x y p. r.apart id x c y at p) k e b)
        (λ x y p. before (λ u v. 0 < y.number → y.number ≡ v.number → x ≡ u) (r.apart x id y c p at) (λ u v q. r.apart x u y v p q) k e b) j d a some same;
    own = λ j d a some x l. ⊎_elim (λ (t : (j ≡ id) × (c' ≡ d)). subst (λ (z : SeatRecord). is_holder (said (get_or words' x 0)) z.number ≡ has_bit (claim_at z x)) t.1 (own_now x l))
        (λ (t : (j ≢ id) × At cores j d). let m = r.drawn j d t.1 in let few = r.few in holds_same x d.number (omega arith) (λ e. t.0 (r.apart j id d c t.1 at some (omega arith))) ∙ r.own j d t.1 some x l) (each j d a);
    clear = λ k l m x y. let d = r.drawn id c at in holds_same x k m (λ e. omega arith) ∙ r.clear k l m x y;
    held = λ j d a some x l g e. ⊎_elim (λ (t : (j ≡ id) × (c' ≡ d)). held_now x l g (ap (λ (z : SeatRecord). claim_at z x) t.1 ∙ e))
        (λ (t : (j ≢ id) × At cores j d). let f = r.held j d t.1 some x l g e in (live_same x ∙ f.0, high x ∙ f.1)) (each j d a);
    slots = λ x l. let s = r.slots x l in record { live = live_same x ∙ s.live; condemned = condemned_same x ∙ s.condemned; generation = high x ∙ s.generation };
    sized = before (λ j d. 0 < d.number → length d.claims ≡ n) (λ m. length-set c.claims i h ∙ r.sized id c at m) r.sized;
    wide = length-set words i word ∙ r.wide;
  }

takes_now : {S : Type 0} (n id i : ℕ) (s : State S View) (v w : View) (h : Claim) (word : ℕ) → get_elem? s.views id ≡ some v → w.standing ≡ with_claim v.standing i h
    → Ruled n (set s.words i word) (set (map standing s.views) id (with_claim v.standing i h)) → Ruled n (set s.words i word) (map standing (set s.views id w))
takes_now n id i s v w h word at is r = subst (λ (z : List SeatRecord). Ruled n (set s.words i word) z) (sym (map-set standing s.views id w ∙ ap (set (map standing s.views) id) is)) r

gained_bit : (live condemned : Bool) (found : ℕ) → true ≡ has_bit (gained live condemned found)
gained_bit true false f = refl
gained_bit false c f = refl
gained_bit true true f = refl

abbrev got : Claim → ℕ
got Nothing = 0
got Trying = 0
got (Held g) = suc g

gained_held : (live condemned : Bool) (found g : ℕ) → gained live condemned found ≡ Held g → (live ≡ true) × (found ≡ g)
gained_held true false f g e = let s = ap got e in (refl, omega arith)
gained_held false c f g e = let s = ap got e in absurd (omega arith)
gained_held true true f g e = let s = ap got e in absurd (omega arith)

pub takes : {S : Type 0} (n slots id : ℕ) (v : View) (held : List (ℕ × S)) (i : ℕ) → i < n → 0 < v.standing.number → Allows (rule n) slots id (v, held) i (λ x. bit_or x (2 ^ (v.standing.number - 1))) (λ x m. Took i v (said x) m.0)
takes n slots id v held i inside mine s r _ at fits =
    let word = get_or s.words i 0 in
    let k = v.standing.number - 1 in
    let h = gained_from (said word) in
    let w = showing v (with_claim v.standing i h) i (said word) in
    let small : v.standing.number ≤ 16 = let few = r.few in let l = r.drawn id v.standing (at_map standing s.views id v at) in omega arith in
    let there = at_map standing s.views id v at in (
      w,
      keeps,
      tt,
      takes_now n id i s v w h (bit_or word (2 ^ k)) at refl
          (changed n id i s.words (map standing s.views) r v.standing there mine inside h (bit_or word (2 ^ k)) (λ b other. or_other word k b other)
          (holder_bit (bit_or word (2 ^ k)) v.standing.number small ∙ (ap (λ (z : ℕ). z == 1) (or_same word k) ∙ gained_bit (said word).live (said word).condemned (said word).generation))
          (λ g e. gained_held (said word).live (said word).condemned (said word).generation g e)),
      refl,
    )

pub gives : {S : Type 0} (n slots id : ℕ) (v : View) (held : List (ℕ × S)) (i k : ℕ) → i < n → 0 < v.standing.number → bit_at k (v.standing.number - 1) ≡ 0 → ((b : ℕ) → b < 64 → b ≢ v.standing.number - 1 → bit_at k b ≡ 1)
    → Allows (rule n) slots id (v, held) i (λ x. bit_and x k) (λ x m. Gave i v m.0)
gives n slots id v held i k inside mine off on s r _ at small =
    let word = get_or s.words i 0 in
    let w = without v i in
    let least : v.standing.number ≤ 16 = let few = r.few in let l = r.drawn id v.standing (at_map standing s.views id v at) in omega arith in
    let there = at_map standing s.views id v at in (
      w,
      keeps,
      tt,
      takes_now n id i s v w Nothing (bit_and word k) at refl
          (changed n id i s.words (map standing s.views) r v.standing there mine inside Nothing (bit_and word k) (λ b other. and_other word k b small (λ l. on b l other)) (holder_bit (bit_and word k) v.standing.number least ∙ ap (λ (z : ℕ). z == 1) (and_own word k (v.standing.number - 1) off))
          (λ g e. let t = ap got e in absurd (omega arith))),
      refl,
    )

again : (l : List Claim) (i : ℕ) (a b : Claim) → set (set l i a) i b ≡ set l i b
again [] i a b = refl
again (x ∷ xs) zero a b = refl
again (x ∷ xs) (suc i) a b = ap (λ (z : List Claim). x ∷ z) (again xs i a b)

-- the bit was set and cleared again
pub fails : (v u w : View) (x : ℕ) (word : SlotWord) (h : Claim) → u ≡ showing v (with_claim v.standing x h) x word → w ≡ without u x → (w.word ≡ word) × (w ≡ showing v (with_claim v.standing x Nothing) x w.word)
fails v u w x word h first later =
    let back : without u x ≡ showing v (with_claim v.standing x Nothing) x word =
    ap (λ (z : View). without z x) first ∙ ap (λ (l : List Claim). showing v record { keeps = v.standing.keeps; number = v.standing.number; claims = l; slots = v.standing.slots; drawn = v.standing.drawn } x word) (again v.standing.claims x h Nothing) in
    let is : w.word ≡ word = ap (λ (z : View). z.word) (later ∙ back) in
    (is, later ∙ (back ∙ ap (λ (z : SlotWord). showing v (with_claim v.standing x Nothing) x z) (sym is)))

none_at : (n x : ℕ) → get_or (replicate n Nothing) x Nothing ≡ Nothing
none_at zero x = refl
none_at (suc n) zero = refl
none_at (suc n) (suc x) = none_at n x

free_at : (n x : ℕ) → get_or (replicate n free_slot) x free_slot ≡ free_slot
free_at zero x = refl
free_at (suc n) zero = refl
free_at (suc n) (suc x) = free_at n x

abbrev nought : ℕ
nought = 0

zero_at : (n x : ℕ) → get_or (replicate n nought) x 0 ≡ nought
zero_at zero x = refl
zero_at (suc n) zero = refl
zero_at (suc n) (suc x) = zero_at n x

only : (c d : SeatRecord) (j : ℕ) → At (c ∷ []) j d → (j ≡ 0) × (c ≡ d)
only c d zero a = (refl, some-injective c d a)
only c d (suc j) a = absurd (some-ne-none d (sym a))

-- the table at the beginning
pub opens : (n : ℕ) → Ruled n (replicate (n + 1) 0) (standing (keeper_view n) ∷ [])
opens n = let k = standing (keeper_view n) in record {
  keeper = 0;
  keeper_standing = k;
  sits = refl;
  none = refl;
  few = omega arith;
  alone = λ j c a e. (only k c j a).0;
  drawn = λ j c a. let z : c.number ≡ 0 = ap (λ (z : SeatRecord). z.number) (sym (only k c j a).1) in omega arith;
  apart = λ i j c d a b some same. (only k c i a).0 ∙ sym (only k d j b).0;
  own = λ j c a some x l. let z : c.number ≡ 0 = ap (λ (z : SeatRecord). z.number) (sym (only k c j a).1) in absurd (omega arith);
  clear = λ k l m x y. ap (λ (z : ℕ). is_holder (said z) k) (zero_at (n + 1) x) ∙ (holder_bit 0 k m ∙ ap (λ (z : ℕ). z == 1) (bit_at-zero (k - 1)));
  held = λ j c a some x l g e. let z : c.number ≡ 0 = ap (λ (z : SeatRecord). z.number) (sym (only k c j a).1) in absurd (omega arith);
  slots = λ x l. record {
    live = ap (λ (z : ℕ). (said z).live) (zero_at (n + 1) x) ∙ sym (ap (λ (z : SlotRecord). is_live z.state) (free_at n x));
    condemned = ap (λ (z : ℕ). (said z).condemned) (zero_at (n + 1) x) ∙ sym (ap (λ (z : SlotRecord). is_condemned z.state) (free_at n x));
    generation = ap (λ (z : ℕ). (said z).generation) (zero_at (n + 1) x) ∙ sym (ap (λ (z : SlotRecord). z.generation) (free_at n x));
  };
  sized = λ j c a some. let z : c.number ≡ 0 = ap (λ (z : SeatRecord). z.number) (sym (only k c j a).1) in absurd (omega arith);
  wide = length-replicate (n + 1) 0;
}

at_end : (l : List SeatRecord) (a b : SeatRecord) (j : ℕ) → At (l ++ a ∷ []) j b → At l j b ⊎ ((j ≡ length l) × (a ≡ b))
at_end [] a b zero e = inr (refl, some-injective a b e)
at_end [] a b (suc j) e = absurd (some-ne-none b (sym e))
at_end (x ∷ xs) a b zero e = inl e
at_end (x ∷ xs) a b (suc j) e = ⊎_elim (λ t. inl t) (λ (t : (j ≡ length xs) × (a ≡ b)). inr (ap suc t.0, t.1)) (at_end xs a b j e)

-- A number more is drawn, and a seat comes with it
module _ (n id : ℕ) (words : List ℕ) (cores : List SeatRecord) (r : Ruled n words cores) (c : SeatRecord) (at : At cores id c) (keeps : c.keeps ≡ true) (room : c.drawn + 1 ≤ 16) (many : length c.slots ≡ n) (here : id < length cores) where
  abbrev told : SeatRecord
  told = record { keeps = c.keeps; number = c.number; claims = c.claims; slots = c.slots; drawn = c.drawn + 1 }

  abbrev fresh : SeatRecord
  fresh = record { keeps = false; number = c.drawn + 1; claims = replicate (length c.slots) Nothing; slots = []; drawn = 0 }

  abbrev all : List SeatRecord
  all = set cores id told ++ fresh ∷ []

  is_keeper : id ≡ r.keeper
  is_keeper = r.alone id c at keeps

  is_mind : r.keeper_standing ≡ c
  is_mind = some-injective r.keeper_standing c (sym (subst (λ (z : ℕ). At cores z r.keeper_standing) (sym is_keeper) r.sits) ∙ at)

  no_number : c.number ≡ 0
  no_number = ap (λ (z : SeatRecord). z.number) (sym is_mind) ∙ r.none

  below_drawn : (j : ℕ) (d : SeatRecord) → At cores j d → d.number ≤ c.drawn
  below_drawn j d a = subst (λ (z : SeatRecord). d.number ≤ z.drawn) is_mind (r.drawn j d a)

  -- each seat is the keeper's, one that was there, or the new one
  by_kind : (P : ℕ → SeatRecord → Type 0) → P id told → ((j : ℕ) (d : SeatRecord) → j ≢ id → At cores j d → P j d) → P (length (set cores id told)) fresh → (j : ℕ) (d : SeatRecord) → At all j d → P j d
  by_kind P first rest last j d a = ⊎_elim
      (λ (t : At (set cores id told) j d). ⊎_elim (λ (u : (j ≡ id) × (told ≡ d)). subst (λ (z : ℕ × SeatRecord). P z.0 z.1) (λ k. (sym u.0 k, u.1 k)) first) (λ (u : (j ≢ id) × At cores j d). rest j d u.0 u.1) (at_set cores id j told d t))
      (λ (t : (j ≡ length (set cores id told)) × (fresh ≡ d)). subst (λ (z : ℕ × SeatRecord). P z.0 z.1) (λ k. (sym t.0 k, t.1 k)) last)
      (at_end (set cores id told) fresh d j a)

  unset : (x : ℕ) → x < n → is_holder (said (get_or words x 0)) (c.drawn + 1) ≡ false
  unset x l = r.clear (c.drawn + 1) (subst (λ (z : SeatRecord). z.drawn < c.drawn + 1) (sym is_mind) (omega arith)) room x l

  pub comes : Ruled n words all
  comes = record {
    keeper = id;
    keeper_standing = told;
    sits = at_longer (set cores id told) (fresh ∷ []) id told (set_here cores id told here);
    none = no_number;
    few = room;
    alone = by_kind (λ j d. d.keeps ≡ true → j ≡ id) (λ _. refl) (λ j d other a k. r.alone j d a k ∙ sym is_keeper) (λ k. cc);
    drawn = by_kind (λ j d. d.number ≤ c.drawn + 1) (let z = no_number in omega arith) (λ j d other a. let l = below_drawn j d a in omega arith) (omega arith);
    apart = λ i j d e a b some same. by_kind (λ x y. 0 < y.number → y.number ≡ e.number → x ≡ j)
        (λ p. let z = no_number in absurd (omega arith))
        (λ x y other q p s. by_kind (λ u v. y.number ≡ v.number → x ≡ u) (λ m. let z = no_number in absurd (omega arith)) (λ u v _ w m. r.apart x u y v q w p m) (λ m. let l = below_drawn x y q in absurd (omega arith)) j e b s)
        (λ p s. by_kind (λ u v. c.drawn + 1 ≡ v.number → length (set cores id told) ≡ u) (λ m. let z = no_number in absurd (omega arith)) (λ u v _ w m. let l = below_drawn u v w in absurd (omega arith)) (λ m. refl) j e b s) i d a some same;
    own = by_kind (λ j d. 0 < d.number → (x : ℕ) → x < n → is_holder (said (get_or words x 0)) d.number ≡ has_bit (claim_at d x))
        (λ p. let z = no_number in absurd (omega arith))
        (λ j d other a. r.own j d a)
        (λ p x l. unset x l ∙ ap has_bit (sym (none_at (length c.slots) x)));
    clear = λ k l m x y. r.clear k (subst (λ (z : SeatRecord). z.drawn < k) (sym is_mind) (omega arith)) m x y;
    held = by_kind (λ j d. 0 < d.number → (x : ℕ) → x < n → (g : ℕ) → claim_at d x ≡ Held g → ((said (get_or words x 0)).live ≡ true) × ((said (get_or words x 0)).generation ≡ g))
        (λ p. let z = no_number in absurd (omega arith))
        (λ j d other a. r.held j d a)
        (λ p x l g e. let t = ap got (sym (none_at (length c.slots) x) ∙ e) in absurd (omega arith));
    slots = λ x l. subst (λ (z : SeatRecord). Says (said (get_or words x 0)) (slot_at z x)) is_mind (r.slots x l);
    sized = by_kind (λ j d. 0 < d.number → length d.claims ≡ n) (λ p. let z = no_number in absurd (omega arith)) (λ j d other a. r.sized j d a) (λ _. length-replicate (length c.slots) Nothing ∙ many);
    wide = r.wide;
  }

inside_of : (l : List SeatRecord) (i : ℕ) (a : SeatRecord) → At l i a → i < length l
inside_of [] i a e = absurd (some-ne-none a (sym e))
inside_of (x ∷ xs) zero a e = omega arith
inside_of (x ∷ xs) (suc i) a e = let t = inside_of xs i a e in omega arith

pub deals : {S : Type 0} (n id : ℕ) (v : View) → v.standing.keeps ≡ true → v.standing.drawn + 1 ≤ 16 → length v.standing.slots ≡ n → Splits {S = S} (rule n) id v (dealt v) (dealt_to v)
deals n id v does room many s r at =
    let cores = map standing s.views in
    let there = at_map standing s.views id v at in
    let made = comes n id s.words cores r v.standing there does room many (inside_of cores id v.standing there) in
    subst (λ (z : List SeatRecord). Ruled n s.words z) (sym (map-append standing (set s.views id (dealt v)) (dealt_to v ∷ []) ∙ ap (λ (z : List SeatRecord). z ++ standing (dealt_to v) ∷ []) (map-set standing s.views id (dealt v)))) made

-- The keeper changes the state of one slot
module _ (n id i : ℕ) (words : List ℕ) (cores : List SeatRecord) (r : Ruled n words cores) (c : SeatRecord) (at : At cores id c) (does : c.keeps ≡ true) (inside : i < n) (new : SlotRecord) (word : ℕ) (says : Says (said word) new)
    (low : (b : ℕ) → b < 16 → bit_at word b ≡ bit_at (get_or words i 0) b)
    (stays : (j : ℕ) (d : SeatRecord) → At cores j d → 0 < d.number → (g : ℕ) → claim_at d i ≡ Held g → ((said word).live ≡ true) × ((said word).generation ≡ g)) (long : i < length c.slots) where
  abbrev knows : SeatRecord
  knows = with_slot c i new

  abbrev nows : List ℕ
  nows = set words i word

  is_it : id ≡ r.keeper
  is_it = r.alone id c at does

  its_mind : r.keeper_standing ≡ c
  its_mind = some-injective r.keeper_standing c (sym (subst (λ (z : ℕ). At cores z r.keeper_standing) (sym is_it) r.sits) ∙ at)

  zero_number : c.number ≡ 0
  zero_number = ap (λ (z : SeatRecord). z.number) (sym its_mind) ∙ r.none

  most : c.drawn ≤ 16
  most = subst (λ (z : SeatRecord). z.drawn ≤ 16) its_mind r.few

  among : (j : ℕ) (d : SeatRecord) → At cores j d → d.number ≤ c.drawn
  among j d a = subst (λ (z : SeatRecord). d.number ≤ z.drawn) its_mind (r.drawn j d a)

  it : get_or nows i 0 ≡ word
  it = let wide = r.wide in get_or-set_same words i word 0 (omega arith)

  lows : (x b : ℕ) → b < 16 → bit_at (get_or nows x 0) b ≡ bit_at (get_or words x 0) b
  lows x b l = dite (ℕ_discrete x i)
      (λ e. subst (λ (z : ℕ). bit_at (get_or nows z 0) b ≡ bit_at (get_or words z 0) b) (sym e) (ap (λ z. bit_at z b) it ∙ low b l))
      (λ e. ap (λ z. bit_at z b) (get_or-set_other words i x word 0 e))

  holds_still : (x k : ℕ) → k ≤ 16 → is_holder (said (get_or nows x 0)) k ≡ is_holder (said (get_or words x 0)) k
  holds_still x k l = holder_bit (get_or nows x 0) k l ∙ (ap (λ (z : ℕ). z == 1) (lows x (k - 1) (omega arith)) ∙ sym (holder_bit (get_or words x 0) k l))

  two_kinds : (P : ℕ → SeatRecord → Type 0) → P id knows → ((j : ℕ) (d : SeatRecord) → j ≢ id → At cores j d → P j d) → (j : ℕ) (d : SeatRecord) → At (set cores id knows) j d → P j d
  two_kinds P first rest j d a = ⊎_elim (λ (u : (j ≡ id) × (knows ≡ d)). subst (λ (z : ℕ × SeatRecord). P z.0 z.1) (λ k. (sym u.0 k, u.1 k)) first) (λ (u : (j ≢ id) × At cores j d). rest j d u.0 u.1) (at_set cores id j knows d a)

  pub keeps_slots : Ruled n nows (set cores id knows)
  keeps_slots = record {
    keeper = id;
    keeper_standing = knows;
    sits = set_here cores id knows (inside_of cores id c at);
    none = zero_number;
    few = most;
    alone = two_kinds (λ j d. d.keeps ≡ true → j ≡ id) (λ _. refl) (λ j d other a k. r.alone j d a k ∙ sym is_it);
    drawn = two_kinds (λ j d. d.number ≤ c.drawn) (let z = zero_number in omega arith) (λ j d other a. among j d a);
    apart = λ i j d e a b some same. two_kinds (λ x y. 0 < y.number → y.number ≡ e.number → x ≡ j)
        (λ p. let z = zero_number in absurd (omega arith))
        (λ x y other q p s. two_kinds (λ u v. y.number ≡ v.number → x ≡ u) (λ m. let z = zero_number in absurd (omega arith)) (λ u v _ w m. r.apart x u y v q w p m) j e b s) i d a some same;
    own = two_kinds (λ j d. 0 < d.number → (x : ℕ) → x < n → is_holder (said (get_or nows x 0)) d.number ≡ has_bit (claim_at d x))
        (λ p. let z = zero_number in absurd (omega arith))
        (λ j d other a p x l. let m = among j d a in let t = most in holds_still x d.number (omega arith) ∙ r.own j d a p x l);
    clear = λ k l m x y. holds_still x k m ∙ r.clear k (subst (λ (z : SeatRecord). z.drawn < k) (sym its_mind) l) m x y;
    held = two_kinds (λ j d. 0 < d.number → (x : ℕ) → x < n → (g : ℕ) → claim_at d x ≡ Held g → ((said (get_or nows x 0)).live ≡ true) × ((said (get_or nows x 0)).generation ≡ g))
        (λ p. let z = zero_number in absurd (omega arith))
        (λ j d other a p x l g e. dite (ℕ_discrete x i)
        (λ is. subst (λ (z : ℕ). ((said z).live ≡ true) × ((said z).generation ≡ g)) (sym (ap (λ z. get_or nows z 0) is ∙ it)) (stays j d a p g (subst (λ (z : ℕ). claim_at d z ≡ Held g) is e)))
        (λ is. subst (λ (z : ℕ). ((said z).live ≡ true) × ((said z).generation ≡ g)) (sym (get_or-set_other words i x word 0 is)) (r.held j d a p x l g e)));
    slots = λ x l. dite (ℕ_discrete x i)
        (λ is. subst (λ (z : ℕ × SlotRecord). Says (said z.0) z.1) (λ k. (sym (ap (λ z. get_or nows z 0) is ∙ it) k, sym (ap (λ z. get_or (set c.slots i new) z free_slot) is ∙ get_or-set_same c.slots i new free_slot long) k)) says)
        (λ is. subst (λ (z : ℕ × SlotRecord). Says (said z.0) z.1) (λ k. (sym (get_or-set_other words i x word 0 is) k, sym (get_or-set_other c.slots i x new free_slot is) k)) (subst (λ (z : SeatRecord). Says (said (get_or words x 0)) (slot_at z x)) its_mind (r.slots x l)));
    sized = two_kinds (λ j d. 0 < d.number → length d.claims ≡ n) (λ p. let z = zero_number in absurd (omega arith)) (λ j d other a. r.sized j d a);
    wide = length-set words i word ∙ r.wide;
  }

off : (b : Bool) → b ≡ true → b ≡ false → ⊥
off b is isnt = cc

mind_of : (n id : ℕ) (words : List ℕ) (cores : List SeatRecord) (r : Ruled n words cores) (c : SeatRecord) → At cores id c → c.keeps ≡ true → r.keeper_standing ≡ c
mind_of n id words cores r c at does = some-injective r.keeper_standing c (sym (subst (λ (z : ℕ). At cores z r.keeper_standing) (sym (r.alone id c at does)) r.sits) ∙ at)

knows_now : {S : Type 0} (n id i : ℕ) (s : State S View) (v w : View) (k : SlotRecord) (word : ℕ) → get_elem? s.views id ≡ some v → w.standing ≡ with_slot v.standing i k
    → Ruled n (set s.words i word) (set (map standing s.views) id (with_slot v.standing i k)) → Ruled n (set s.words i word) (map standing (set s.views id w))
knows_now n id i s v w k word at is r = subst (λ (z : List SeatRecord). Ruled n (set s.words i word) z) (sym (map-set standing s.views id w ∙ ap (set (map standing s.views) id) is)) r

pub publishes : {S : Type 0} (n slots id : ℕ) (v : View) (held : List (ℕ × S)) (i : ℕ) → i < n → v.standing.keeps ≡ true → i < length v.standing.slots → (slot_at v.standing i).state ≡ Free
    → Allows (rule n) slots id (v, held) i (λ x. bit_or x (2 ^ 16)) (λ x m. m.0 ≡ knowing v i Live)
publishes n slots id v held i inside does long free s r _ at fits =
    let word = get_or s.words i 0 in
    let there = at_map standing s.views id v at in
    let new : SlotRecord = record { state = Live; generation = (slot_at v.standing i).generation } in
    let knew : Says (said word) (slot_at v.standing i) = subst (λ (z : SeatRecord). Says (said word) (slot_at z i)) (mind_of n id s.words (map standing s.views) r v.standing there does) (r.slots i inside) in
    let high : bit_or word (2 ^ 16) / 2 ^ 18 ≡ word / 2 ^ 18 = same_high (bit_or word (2 ^ 16)) word 18 (λ b l. or_other word 16 b (λ e. omega arith)) in
    let says : Says (said (bit_or word (2 ^ 16))) new = record {
      live = ap (λ (z : ℕ). z == 1) (or_same word 16);
      condemned = ap (λ (z : ℕ). z == 1) (or_other word 16 17 (λ e. omega arith)) ∙ (knew.condemned ∙ ap is_condemned free);
      generation = high ∙ knew.generation;
    } in (
      knowing v i Live,
      keeps,
      tt,
      knows_now n id i s v (knowing v i Live) new (bit_or word (2 ^ 16)) at refl
          (keeps_slots n id i s.words (map standing s.views) r v.standing there does inside new (bit_or word (2 ^ 16)) says (λ b l. or_other word 16 b (λ e. omega arith))
          (λ j d a p g e. let f = r.held j d a p i inside g e in (ap (λ (z : ℕ). z == 1) (or_same word 16), high ∙ f.1)) long),
      refl,
    )

pub condemns : {S : Type 0} (n slots id : ℕ) (v : View) (held : List (ℕ × S)) (i : ℕ) → i < n → v.standing.keeps ≡ true → i < length v.standing.slots → (slot_at v.standing i).state ≡ Live
    → Allows (rule n) slots id (v, held) i (λ x. bit_or x (2 ^ 17)) (λ x m. m.0 ≡ knowing v i Condemned)
condemns n slots id v held i inside does long live s r _ at fits =
    let word = get_or s.words i 0 in
    let there = at_map standing s.views id v at in
    let new : SlotRecord = record { state = Condemned; generation = (slot_at v.standing i).generation } in
    let knew : Says (said word) (slot_at v.standing i) = subst (λ (z : SeatRecord). Says (said word) (slot_at z i)) (mind_of n id s.words (map standing s.views) r v.standing there does) (r.slots i inside) in
    let high : bit_or word (2 ^ 17) / 2 ^ 18 ≡ word / 2 ^ 18 = same_high (bit_or word (2 ^ 17)) word 18 (λ b l. or_other word 17 b (λ e. omega arith)) in
    let stay : (said (bit_or word (2 ^ 17))).live ≡ (said word).live = ap (λ (z : ℕ). z == 1) (or_other word 17 16 (λ e. omega arith)) in
    let says : Says (said (bit_or word (2 ^ 17))) new = record {
      live = stay ∙ (knew.live ∙ ap is_live live);
      condemned = ap (λ (z : ℕ). z == 1) (or_same word 17);
      generation = high ∙ knew.generation;
    } in (
      knowing v i Condemned,
      keeps,
      tt,
      knows_now n id i s v (knowing v i Condemned) new (bit_or word (2 ^ 17)) at refl
          (keeps_slots n id i s.words (map standing s.views) r v.standing there does inside new (bit_or word (2 ^ 17)) says (λ b l. or_other word 17 b (λ e. omega arith))
          (λ j d a p g e. let f = r.held j d a p i inside g e in (stay ∙ f.0, high ∙ f.1)) long),
      refl,
    )

pub buries : {S : Type 0} (n slots id : ℕ) (v : View) (held : List (ℕ × S)) (i old m : ℕ) → i < n → v.standing.keeps ≡ true → i < length v.standing.slots → old % 2 ^ 16 ≡ 0 → m ≡ next_generation (slot_at v.standing i).generation
    → Allows (rule n) slots id (v, held) i (λ x. either (eqb x old) (m * 2 ^ 18) x) (λ x u. Buries i old v x u.0)
buries {S = S} n slots id v held i old m inside does long clear next s r _ at fits = dite (ℕ_discrete word old) freed failed
  where
    word : ℕ
    word = get_or s.words i 0

    there : At (map standing s.views) id v.standing
    there = at_map standing s.views id v at

    freed : word ≡ old → (w : View) × (a : Act S) × Valid s.homes held a × rule n (stepped s i (either (eqb word old) (m * 2 ^ 18) word) id held w a) × Buries i old v word w
    freed e =
        let new : SlotRecord = record { state = Free; generation = next_generation (slot_at v.standing i).generation } in
        let w : View = record { standing = with_slot v.standing i new; shown = v.shown; slot = v.slot; word = v.word } in
        let none : (b : ℕ) → b < 16 → bit_at word b ≡ 0 = λ b l. none_low word 16 b (ap (λ z. z % 2 ^ 16) e ∙ clear) l in
        let says : Says (said (m * 2 ^ 18)) new = record {
          live = ap (λ (z : ℕ). z == 1) (shifted_low m 18 16 (omega arith));
          condemned = ap (λ (z : ℕ). z == 1) (shifted_low m 18 17 (omega arith));
          generation = shifted_high m 18 (omega arith) ∙ next;
        } in
        let step = keeps_slots n id i s.words (map standing s.views) r v.standing there does inside new (m * 2 ^ 18) says (λ b l. shifted_low m 18 b (omega arith) ∙ sym (none b l))
        (λ j d a p g h. let few = most_of j d a in
        absurd (off (is_holder (said word) d.number) (r.own j d a p i inside ∙ ap has_bit h) (holder_bit word d.number few ∙ ap (λ (z : ℕ). z == 1) (none (d.number - 1) (omega arith))))) long in (
          w,
          keeps,
          tt,
          subst (λ (z : ℕ). Ruled n (set s.words i z) (map standing (set s.views id w))) (sym (ap (λ b. either b (m * 2 ^ 18) word) (eq-eqb word old e))) (knows_now n id i s v w new (m * 2 ^ 18) at refl step),
          inl (e, refl),
        )
      where
        most_of : (j : ℕ) (d : SeatRecord) → At (map standing s.views) j d → d.number ≤ 16
        most_of j d a = let l = r.drawn j d a in let few = r.few in omega arith

    failed : word ≢ old → (w : View) × (a : Act S) × Valid s.homes held a × rule n (stepped s i (either (eqb word old) (m * 2 ^ 18) word) id held w a) × Buries i old v word w
    failed e =
        let w = showing v v.standing i (said word) in
        let knew : Says (said word) (slot_at v.standing i) = subst (λ (z : SeatRecord). Says (said word) (slot_at z i)) (mind_of n id s.words (map standing s.views) r v.standing there does) (r.slots i inside) in (
          w,
          keeps,
          tt,
          subst (λ (z : ℕ). Ruled n (set s.words i z) (map standing (set s.views id w))) (sym (ap (λ b. either b (m * 2 ^ 18) word) (ne_eqb word old e))) (shows n id i s v w at refl r),
          inr (e, refl, knew),
        )

same_core : (mask : ℕ) (v : View) (x : ℕ) (word : SlotWord) → (noticed mask v x word).standing ≡ v.standing
same_core zero v x word = refl
same_core (suc mask) v x word = refl

pub peeks : {S : Type 0} (n slots id : ℕ) (v : View) (held : List (ℕ × S)) (i : ℕ) → i < n → v.standing.keeps ≡ true → Allows (rule n) slots id (v, held) i (λ x. x) (λ x m. Peeked i v (said x) m.0)
peeks n slots id v held i inside does s r _ at fits =
    let word = get_or s.words i 0 in
    let w = noticed (said word).holders v i (said word) in
    let there = at_map standing s.views id v at in (
      w,
      keeps,
      tt,
      shows n id i s v w at (same_core (said word).holders v i (said word)) r,
      record {
        view = refl;
        says = subst (λ (z : SeatRecord). Says (said word) (slot_at z i)) (mind_of n id s.words (map standing s.views) r v.standing there does) (r.slots i inside);
      },
    )
