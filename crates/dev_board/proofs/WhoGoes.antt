-- Whether anybody goes on, one caller after the other.
use Rattle.std.proofs.Common.{◌≡◌, ◌≢◌, ◌<◌, ℕ, ◌+◌, Bool, true, false, length, Some, None, find, reverse, Option, option_map, refl, sym, ap, ◌∙◌, arith}
use Rattle.std.specs.Prelude.{List, flat_map}
use Rattle.std.proofs.lemmas.Option.{same_Some}
use Rattle.cf_types.specs.Numbers.{below}
use Rattle.wait_lines.specs.Waits.{lines_at, wait_lines}
use Rattle.run_rules.specs.declared.deed.Deed.{Deed}
use Rattle.run_rules.specs.declared.deed.Choice.TheVariants.{Ended, Waits, Does}
use Rattle.run_rules.specs.declared.world.Dev.{Dev}
use Rattle.run_rules.specs.declared.world.Wait.{Wait}
use Rattle.run_rules.specs.declared.world.Wait.TheVariants.{Refs}
use Rattle.run_rules.specs.Next.{next, next_free}
use Rattle.run_rules.specs.World.{World, has_ended, is_live, is_number}
use Rattle.run_sound.specs.Kept.{Kept}
use Rattle.run_sound.proofs.Callers.{doing_there, unended_there}
use Rattle.run_sound.proofs.Members.{contained_live, found_from_end}
use Rattle.progress_laws.specs.Still.{HaveAllEnded, IsStuck}
use Rattle.progress_laws.proofs.Still.{below_next, waiting_unended}
use Rattle.progress_laws.proofs.Waits.{why_waits}
use Rattle.dev_board.proofs.NextLaws.{ended_so}

-- of the callers below n nobody does anything, and whether one waits is noted
pub record Seen (w : World) (n : ℕ) (waits : Bool) : Type 0 where
  pub none : (k : ℕ) → k < n → (d : Deed) → next w k ≢ Does d
  pub wait : waits ≡ true → (k : ℕ) × (has_ended w k ≡ false)
  pub over : waits ≡ false → (k : ℕ) → k < n → has_ended w k ≡ true

pub seen_none : (w : World) → Seen w 0 false
seen_none w = record { none = λ k less. absurd (omega arith); wait = λ e. absurd cc; over = λ e k less. absurd (omega arith) }

waits_not : (why : Wait) (d : Deed) → Waits why ≡ Does d → ⊥
waits_not why d e = cc

ended_not : (d : Deed) → Ended ≡ Does d → ⊥
ended_not d e = cc

next_below : (P : ℕ → Type 0) (n : ℕ) → ((k : ℕ) → k < n → P k) → P n → (k : ℕ) → k < n + 1 → P k
next_below P n each last k less = below_next P n each last k (omega arith)

pub seen_wait : (w : World) (n : ℕ) (waits : Bool) (why : Wait) → Seen w n waits → next w n ≡ Waits why → Seen w (n + 1) true
seen_wait w n waits why seen e = record {
  none = next_below (λ k. (d : Deed) → next w k ≢ Does d) n seen.none (λ d f. waits_not why d (sym e ∙ f));
  wait = λ yes. (n, waiting_unended w n why e);
  over = λ isnt. absurd cc;
}

pub seen_ended : (w : World) (n : ℕ) (waits : Bool) → Kept w → Seen w n waits → next w n ≡ Ended → Seen w (n + 1) waits
seen_ended w n waits kept seen e = record {
  none = next_below (λ k. (d : Deed) → next w k ≢ Does d) n seen.none (λ d f. ended_not d (sym e ∙ f));
  wait = seen.wait;
  over = λ isnt. next_below (λ k. has_ended w k ≡ true) n (seen.over isnt) (ended_so w n kept e);
}

pub stuck_so : (w : World) (n : ℕ) → Kept w → Seen w n true → n ≡ length w.setup.scripts + 1 → IsStuck w
stuck_so w n kept seen all =
    let one = seen.wait refl in
    record { still = λ k d e. let there = doing_there w k d e in let many = kept.ranges.callers.as_many in seen.none k (omega arith) d e; caller = one.0; waits = one.1 }

pub over_so : (w : World) (n : ℕ) → Kept w → Seen w n false → n ≡ length w.setup.scripts + 1 → HaveAllEnded w
over_so w n kept seen all k = cases (has_ended w k) refl
  where
    cases : (b : Bool) → has_ended w k ≡ b → has_ended w k ≡ true
    cases true e = e
    cases false e = let there = unended_there w k e in let many = kept.ranges.callers.as_many in seen.over refl k (omega arith)

-- what a caller waits for is live
pub waits_live : (w : World) (k s : ℕ) → next w k ≡ Waits (Refs s) → is_live w.live s ≡ true
unfolding next_free
waits_live w k s e = cases (find (λ (d : Dev). is_number d.condemned k) (reverse w.live)) refl (why_waits w k (Refs s) e).0
  where
    cases : (o : Option Dev) → find (λ (d : Dev). is_number d.condemned k) (reverse w.live) ≡ o → option_map (λ (d : Dev). d.serial) o ≡ Some s → is_live w.live s ≡ true
    cases None f h = absurd cc
    cases (Some d) f h = ap (is_live w.live) (sym (same_Some d.serial s h)) ∙ contained_live w.live d (found_from_end (λ (x : Dev). is_number x.condemned k) w.live d f)

-- the lines of all callers
pub all_lines : (w : World) (n : ℕ) (lines : List (List ℕ)) → n ≡ length w.setup.scripts → lines ≡ flat_map (λ i. lines_at w (i + 1)) (below n) → lines ≡ wait_lines w
unfolding wait_lines
all_lines w n lines all is = is ∙ ap (λ (m : ℕ). flat_map (λ i. lines_at w (i + 1)) (below m)) all
