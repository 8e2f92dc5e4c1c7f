-- What the boot does without a frame.
use Rattle.std.proofs.Common.{◌≡◌, ◌<◌, ◌≤◌, ℕ, zero, suc, true, false, List, [], ◌∷◌, length, Some, nat_lt, get_or, refl, sym, arith}
use Rattle.std.specs.List.{slice_index_or}
use Rattle.std.proofs.lemmas.Bool.Decides.{nat_tests}
use Rattle.run_rules.specs.World.{World}
use Rattle.run_rules.specs.declared.deed.Deed.TheVariants.{BeginInterrupts, EndCaller}
use Rattle.run_rules.specs.declared.deed.Choice.TheVariants.{Does}
use Rattle.run_rules.specs.Next.{next_boot, finalise}

pub boot_phase : (w : World) → w.interrupts_on ≡ false → next_boot w ≡ Does BeginInterrupts
unfolding next_boot
boot_phase w h = rw h refl

pub boot_call : (w : World) (serial : ℕ) → w.interrupts_on ≡ true → w.next_finaliser < length w.finalisers → slice_index_or w.finalisers w.next_finaliser 0 ≡ serial
    → next_boot w ≡ Does (finalise w serial (Some w.next_finaliser) false)
unfolding next_boot
boot_call w serial h lt at = let before : nat_lt w.next_finaliser (length w.finalisers) ≡ true = grind (arith, nat_tests) in rw (h, before, at) refl

pub boot_anew : (w : World) (serial : ℕ) → w.interrupts_on ≡ true → length w.finalisers ≤ w.next_finaliser → w.pass_repeats ≡ true → slice_index_or w.finalisers 0 0 ≡ serial
    → next_boot w ≡ Does (finalise w serial (Some 0) true)
unfolding next_boot
boot_anew w serial h le pass_repeats at = let past : nat_lt w.next_finaliser (length w.finalisers) ≡ false = grind (arith, nat_tests) in rw (h, past, pass_repeats, at) refl

pub boot_over : (w : World) → w.interrupts_on ≡ true → length w.finalisers ≤ w.next_finaliser → w.pass_repeats ≡ false → next_boot w ≡ Does EndCaller
unfolding next_boot
boot_over w h le pass_repeats = let past : nat_lt w.next_finaliser (length w.finalisers) ≡ false = grind (arith, nat_tests) in rw (h, past, pass_repeats) refl

-- an element that is there
pub index_there : (xs : List ℕ) (i x : ℕ) → i < length xs → x ≡ get_or xs i x → slice_index_or xs i 0 ≡ x
index_there [] i x lt is = absurd (omega arith)
index_there (y ∷ ys) zero x lt is = sym is
index_there (y ∷ ys) (suc i) x lt is = index_there ys i x (omega arith) is
