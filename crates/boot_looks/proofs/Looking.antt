-- The last looks so far.
use Rattle.std.proofs.Common.{◌≡◌, ◌<◌, ◌≤◌, ◌+◌, ◌∙◌, inl, inr, ℕ, zero, suc, true, List, length, replicate, Option, Some, None, refl, sym, ap, subst, arith}
use Rattle.std.proofs.lemmas.List.{length-replicate}
use Rattle.std.proofs.lemmas.Bool.{cases_lt}
use Rattle.run_rules.specs.declared.deed.Choice.{Choice}
use Rattle.run_rules.specs.declared.deed.Choice.TheVariants.{Does}
use Rattle.run_rules.specs.declared.deed.Deed.{Deed}
use Rattle.run_rules.specs.declared.world.Setup.{Setup}
use Rattle.run_rules.specs.After.{after}
use Rattle.run_rules.specs.Next.{next}
use Rattle.run_rules.specs.World.{World, has_ended, opening}
use Rattle.run_sound.specs.Kept.{Kept, MayRun}
use Rattle.plain_world.specs.declared.world.Plain.{Plain}
use Rattle.plain_world.specs.Plain.{world_of}
use Rattle.boot_looks.specs.declared.visit.Look.{Look}
use Rattle.boot_looks.specs.declared.visit.Visit.{Visit}
use Rattle.boot_looks.specs.Looks.{AreBootLooks, AreSeen, IsLastLook, behind, look_at, seen, visit_at, visit_by, visit_next, world_at}
use Rattle.plain_world.proofs.Going.{kept_first, kept_then, next_first, next_grows}
use Rattle.boot_looks.proofs.Turns.{none_behind, turned_is, turned_more}

-- the last of the first n turns that comes to a spot
pub record IsLookTo (s : Setup) (x n : ℕ) (look : Look) : Type 0 where
  pub turn : ℕ
  pub before : turn < n
  pub visit : visit_at s turn x ≡ Some look.visit
  pub live : look.live.devices ≡ (world_at s turn).live
  pub last : (m : ℕ) → turn < m → m < n → visit_at s m x ≡ None

abbrev pub IsLastTo : Setup → ℕ → ℕ → Option Look → Type 0
IsLastTo s x n (Some look) = IsLookTo s x n look
IsLastTo s x n None = (m : ℕ) → m < n → visit_at s m x ≡ None

-- of each spot the last of the first n turns that comes to it
pub record AreLast (s : Setup) (n : ℕ) (looks : List (Option Look)) : Type 0 where
  pub spots : length looks ≡ length s.machine.spots
  pub each : (x : ℕ) → x < length s.machine.spots → IsLastTo s x n (look_at looks x)

-- n turns led to a plain world
pub record AreLooking (s : Setup) (p : Plain) (looks : List (Option Look)) (n : ℕ) : Type 0 where
  pub at : world_at s n ≡ world_of s p
  pub kept : Kept (world_of s p)
  pub low : p.live.next ≤ n + 1
  pub last : AreLast s n looks

none_at : (n x : ℕ) → look_at (replicate n None) x ≡ None
none_at zero x = refl
none_at (suc n) zero = refl
none_at (suc n) (suc x) = none_at n x

none_yet : (s : Setup) (x : ℕ) (o : Option Look) → o ≡ None → IsLastTo s x 0 o
none_yet s x o none = subst (IsLastTo s x 0) (sym none) (λ m lt. absurd (omega arith))

pub looking_first : (s : Setup) (p : Plain) (looks : List (Option Look)) → MayRun s → world_of s p ≡ opening s → looks ≡ replicate (length s.machine.spots) None → AreLooking s p looks 0
unfolding behind
looking_first s p looks may same none = record {
  at = sym same;
  kept = kept_first s p may same;
  low = omega (arith, next_first s p same);
  last = record {
    spots = ap length none ∙ length-replicate (length s.machine.spots) None;
    each = λ x lt. none_yet s x (look_at looks x) (ap (λ (l : List (Option Look)). look_at l x) none ∙ none_at (length s.machine.spots) x);
  };
}

-- ---- a turn more

one_more : (s : Setup) (x n : ℕ) (last : Option Look) → visit_at s n x ≡ None → IsLastTo s x n last → IsLastTo s x (n + 1) last
one_more s x n None none so =
    λ m lt. elim (cases_lt m n) [ inl less ↦ so m less | inr le ↦ let same : m ≡ n = omega arith in ap (λ (k : ℕ). visit_at s k x) same ∙ none ]
one_more s x n (Some look) none so = record {
  turn = so.turn;
  before = omega (arith, so.before);
  visit = so.visit;
  live = so.live;
  last = λ m late lt. elim (cases_lt m n) [ inl less ↦ so.last m late less | inr le ↦ let same : m ≡ n = omega arith in ap (λ (k : ℕ). visit_at s k x) same ∙ none ];
}

seen_more : (s : Setup) (x n : ℕ) (p : Plain) (visit : Option Visit) (last : Option Look) → world_at s n ≡ world_of s p → visit_at s n x ≡ visit → IsLastTo s x n last
    → IsLastTo s x (n + 1) (seen p.live visit last)
seen_more s x n p None last at is so = one_more s x n last is so
seen_more s x n p (Some visit) last at is so = record {
  turn = n;
  before = omega arith;
  visit = is;
  live = ap (λ (w : World). w.live) (sym at);
  last = λ m late lt. absurd (omega arith);
}

visit_is : (s : Setup) (x n : ℕ) (p : Plain) (d : Deed) → world_at s n ≡ world_of s p → next (world_of s p) 0 ≡ Does d → visit_at s n x ≡ visit_by (world_of s p) d x
visit_is s x n p d at chosen = ap (λ (w : World). visit_next w (next w 0) x) at ∙ ap (λ (c : Choice). visit_next (world_of s p) c x) chosen

all_more : (s : Setup) (n : ℕ) (p : Plain) (d : Deed) (old new : List (Option Look)) → world_at s n ≡ world_of s p → next (world_of s p) 0 ≡ Does d
    → AreSeen (world_of s p) p.live d old new → AreLast s n old → AreLast s (n + 1) new
all_more s n p d old new at chosen are so = record {
  spots = are.spots ∙ so.spots;
  each = λ x lt.
      subst (IsLastTo s x (n + 1)) (sym (are.looks x (omega (arith, so.spots, lt))))
      (seen_more s x n p (visit_by (world_of s p) d x) (look_at old x) at (visit_is s x n p d at chosen) (so.each x lt));
}

pub looking_more : (s : Setup) (n : ℕ) (p q : Plain) (d : Deed) (old new : List (Option Look)) → MayRun s → AreLooking s p old n → next (world_of s p) 0 ≡ Does d
    → world_of s q ≡ after (world_of s p) 0 d → AreSeen (world_of s p) p.live d old new → AreLooking s q new (n + 1)
looking_more s n p q d old new may so chosen same are = record {
  at = turned_more (opening s) n ∙ turned_is (world_at s n) d (ap (λ (w : World). next w 0) so.at ∙ chosen) ∙ ap (λ (w : World). after w 0 d) so.at ∙ sym same;
  kept = kept_then s p q 0 d may so.kept chosen same;
  low = omega (arith, so.low, next_grows s p q 0 d same);
  last = all_more s n p d old new so.at chosen are so.last;
}

-- ---- the end

all_behind : (s : Setup) (x n : ℕ) (look : Option Look) → has_ended (world_at s n) 0 ≡ true → IsLastTo s x n look → IsLastLook s x look
all_behind s x n None over so = λ m. elim (cases_lt m n) [ inl less ↦ so m less | inr le ↦ none_behind s n x m over le ]
all_behind s x n (Some look) over so = record {
  turn = so.turn;
  visit = so.visit;
  live = so.live;
  last = λ m late. elim (cases_lt m n) [ inl less ↦ so.last m late less | inr le ↦ none_behind s n x m over le ];
}

pub looked : (s : Setup) (n : ℕ) (p : Plain) (looks : List (Option Look)) → AreLooking s p looks n → has_ended (world_of s p) 0 ≡ true
    → AreBootLooks s (record { looks = looks; end = p })
looked s n p looks so over = record {
  spots = so.last.spots;
  looks = λ x lt. all_behind s x n (look_at looks x) (ap (λ (w : World). has_ended w 0) so.at ∙ over) (so.last.each x lt);
  end = record { turns = n; world = so.at; over = over };
}
