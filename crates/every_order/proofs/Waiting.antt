-- Who waits for whom, one caller after the other.
use Rattle.std.proofs.Common.{◌≡◌, ℕ, ◌+◌, true, Some, None, find, reverse, ◌==◌, length, Option, option_map, List, [], ◌∷◌, ◌++◌, suc, arith, append-nil, refl, sym, ap, ◌∙◌}
use Rattle.std.specs.Prelude.{flat_map}
use Rattle.std.proofs.lemmas.Option.{same_Some}
use Rattle.std.proofs.lemmas.List.Concat.{flat_map-append}
use Rattle.cf_types.specs.Lines.{ended, text_of}
use Rattle.cf_types.specs.Numbers.{below}
use Rattle.wait_lines.specs.Waits.{lines_at, wait_lines}
use Rattle.run_rules.specs.declared.deed.Choice.TheVariants.{Waits}
use Rattle.run_rules.specs.declared.world.Dev.{Dev}
use Rattle.run_rules.specs.declared.world.Wait.TheVariants.{Refs}
use Rattle.run_rules.specs.Next.{next, next_free}
use Rattle.run_rules.specs.World.{World, device_at, is_live, is_number}
use Rattle.run_sound.proofs.Callers.{clash}
use Rattle.run_sound.proofs.Members.{contained_live, found_from_end}
use Rattle.run_sound.proofs.Trees.{none_found}
use Rattle.progress_laws.proofs.Waits.{why_waits}

-- what a caller waits for is live
pub waits_live : (w : World) (k s : ℕ) → next w k ≡ Waits (Refs s) → is_live w.live s ≡ true
unfolding next_free
waits_live w k s e = cases (find (λ (d : Dev). is_number d.condemned k) (reverse w.live)) refl (why_waits w k (Refs s) e).0
  where
    cases : (o : Option Dev) → find (λ (d : Dev). is_number d.condemned k) (reverse w.live) ≡ o → option_map (λ (d : Dev). d.serial) o ≡ Some s → is_live w.live s ≡ true
    cases None f h = absurd cc
    cases (Some d) f h = ap (is_live w.live) (sym (same_Some d.serial s h)) ∙ contained_live w.live d (found_from_end (λ (x : Dev). is_number x.condemned k) w.live d f)

-- and what is live is found
pub live_found : (live : List Dev) (s : ℕ) → is_live live s ≡ true → device_at live s ≡ None → ⊥
live_found live s is none = clash (is_live live s) is (none_found (λ (d : Dev). d.serial == s) live none)

-- the lines of all callers
pub all_lines : (w : World) (n : ℕ) → n ≡ length w.setup.scripts → flat_map (λ i. lines_at w (i + 1)) (below n) ≡ wait_lines w
unfolding wait_lines
all_lines w n all = ap (λ (m : ℕ). flat_map (λ i. lines_at w (i + 1)) (below m)) all

pub one_more_line : (w : World) (n : ℕ) → text_of (flat_map (λ i. lines_at w (i + 1)) (below (n + 1))) ≡ text_of (flat_map (λ i. lines_at w (i + 1)) (below n)) ++ text_of (lines_at w (n + 1))
one_more_line w n =
    let next : n + 1 ≡ suc n = omega arith in
    ap (λ (m : ℕ). text_of (flat_map (λ i. lines_at w (i + 1)) (below m))) next
    ∙ ap text_of (flat_map-append (λ i. lines_at w (i + 1)) (below n) (n ∷ []) ∙ ap (λ (ls : List (List ℕ)). flat_map (λ i. lines_at w (i + 1)) (below n) ++ ls) (append-nil (lines_at w (n + 1))))
    ∙ flat_map-append ended (flat_map (λ i. lines_at w (i + 1)) (below n)) (lines_at w (n + 1))
