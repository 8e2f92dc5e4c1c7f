-- Histories that the laws refuse, for each law.
use Rattle.std.proofs.Common.{◌≡◌, ◌⊎◌, ◌<◌, ℕ, true, false, Some, [], ◌∷◌, refl, sym, inl, inr, ap, codes, arith}
use Rattle.std.specs.Prelude.{pos, negsuc, bytes_eq, replicate}
use Rattle.run_rules.specs.declared.event.Event.{Event}
use Rattle.run_rules.specs.declared.event.Act.{Act}
use Rattle.run_rules.specs.declared.event.Act.TheVariants as act
use Rattle.run_rules.specs.declared.event.Reply.TheVariants as reply
use Rattle.run_rules.specs.declared.event.IoAnswer.TheVariants as answer
use Rattle.run_rules.specs.World.{root_name}
use Rattle.run_rules.specs.Laws.{IsCount, Lawful, lives, parent_in, is_asleep_in, holds, sole_in}
use Rattle.worked_runs.proofs.Inputs.{got}

abbrev by : ℕ → Act → Event
by k a = record { caller = k; number = 1; act = a }

abbrev bus_comes : Event
bus_comes = by 0 (act.Found (codes "root") (codes "b") (Some (got "bus0" 0)))

abbrev com_comes : Event
com_comes = by 0 (act.Found (codes "bus0") (codes "u") (Some (got "com0" 1)))

abbrev com_opened : Event
com_opened = by 1 (act.OpenDev (codes "com0") reply.Ok)

abbrev com_opened_solely : Event
com_opened_solely = by 1 (act.OpenSole (codes "com0") reply.Ok)

abbrev com_freed : Event
com_freed = by 2 (act.Free (codes "com0"))

not_both : true ≡ false → ⊥
not_both e = cc

not_one : pos 1 ≡ pos 0 → ⊥
not_one e = cc

not_two : pos 2 ≡ pos 1 → ⊥
not_two e = cc

-- no count from 0 to 15 is one less than none
too_few : IsCount 0 (negsuc 0) → ⊥
too_few c = clash c.count c.is
  where
    clash : (n : ℕ) → negsuc 0 ≡ pos n → ⊥
    clash n e = cc

too_many : (n : ℕ) → 15 < n → IsCount 0 (pos n) → ⊥
too_many n more c = omega (arith, more, c.few, same n c.count c.is)
  where
    same : (a b : ℕ) → pos a ≡ pos b → a ≡ b
    same a b e = cc

unheld : IsCount 1 (pos 0) → ⊥
unheld c = omega (arith, c.many, same 0 c.count c.is)
  where
    same : (a b : ℕ) → pos a ≡ pos b → a ≡ b
    same a b e = cc

-- ---- nobody holds what is freed, and nothing lives below it

freed_while_held : Lawful (bus_comes ∷ com_comes ∷ com_opened ∷ com_freed ∷ []) → ⊥
unfolding holds
freed_while_held h = not_one (h.1.1.1.0.unreferred (codes "com0") refl 1)

freed_above_child : Lawful (bus_comes ∷ com_comes ∷ by 2 (act.Free (codes "bus0")) ∷ []) → ⊥
unfolding lives parent_in
freed_above_child h = h.1.1.0.childless (codes "bus0") (codes "com0") refl refl refl

-- ---- what lives below a sleeping device sleeps

sleeps_above_awake : Lawful (bus_comes ∷ com_comes ∷ by 1 (act.Sleep (codes "bus0")) ∷ []) → ⊥
unfolding lives parent_in is_asleep_in
sleeps_above_awake h = not_both (sym (h.1.1.0.sleeping (codes "bus0") (codes "com0") refl refl refl))

-- ---- a caller holds a device up to 15 times, while it lives, and where it has a transfer on it

held_16_times : Lawful (bus_comes ∷ com_comes ∷ replicate 16 com_opened) → ⊥
unfolding holds
held_16_times h = too_many 16 (omega arith) (h.1.1.1.1.1.1.1.1.1.1.1.1.1.1.1.1.1.0.held 1 (codes "com0"))

returned_unheld : Lawful (bus_comes ∷ com_comes ∷ by 1 (act.DropRef (codes "com0")) ∷ []) → ⊥
unfolding holds
returned_unheld h = too_few (h.1.1.0.held 1 (codes "com0"))

held_before_it_came : Lawful (bus_comes ∷ com_opened ∷ []) → ⊥
unfolding holds lives
held_before_it_came h = not_one (h.1.0.held_live 1 (codes "com0") refl)

transfer_unheld : Lawful (bus_comes ∷ com_comes ∷ by 1 (act.IoDone (codes "com0") (answer.Number 2)) ∷ []) → ⊥
unfolding holds
transfer_unheld h = unheld (h.1.1.0.held_in_use (codes "com0") refl)

-- ---- who has a device solely holds it once, and nobody else does

held_beside_sole : Lawful (bus_comes ∷ com_comes ∷ com_opened_solely ∷ by 2 (act.OpenDev (codes "com0") reply.Ok) ∷ []) → ⊥
unfolding holds sole_in
held_beside_sole h = not_one ((h.1.1.1.0.sole 1 (codes "com0") refl).1 2 (λ e. omega (arith, e)))

held_before_sole : Lawful (bus_comes ∷ com_comes ∷ by 2 (act.OpenDev (codes "com0") reply.Ok) ∷ com_opened_solely ∷ []) → ⊥
unfolding holds sole_in
held_before_sole h = not_one ((h.1.1.1.0.sole 1 (codes "com0") refl).1 2 (λ e. omega (arith, e)))

sole_twice : Lawful (bus_comes ∷ com_comes ∷ com_opened_solely ∷ com_opened ∷ []) → ⊥
unfolding holds sole_in
sole_twice h = not_two (h.1.1.1.0.sole 1 (codes "com0") refl).0

-- ---- what comes did not live, and comes below the root or below what lived and was awake

comes_twice : Lawful (bus_comes ∷ com_comes ∷ com_comes ∷ []) → ⊥
unfolding lives
comes_twice h = not_both (h.1.1.0.fresh (codes "com0") refl)

comes_below_nothing : Lawful (com_comes ∷ []) → ⊥
unfolding lives root_name is_asleep_in
comes_below_nothing h = cases (h.0.below_awake (codes "com0") refl)
  where
    cases : (codes "bus0" ≡ codes "root") ⊎ ((false ≡ true) × (false ≡ false)) → ⊥
    cases (inl e) = not_both (sym (ap (λ n. bytes_eq n (codes "root")) e))
    cases (inr p) = not_both (sym p.0)

comes_below_sleeping : Lawful (bus_comes ∷ by 1 (act.Sleep (codes "bus0")) ∷ com_comes ∷ []) → ⊥
unfolding lives root_name is_asleep_in
comes_below_sleeping h = cases (h.1.1.0.below_awake (codes "com0") refl)
  where
    cases : (codes "bus0" ≡ codes "root") ⊎ ((true ≡ true) × (true ≡ false)) → ⊥
    cases (inl e) = not_both (sym (ap (λ n. bytes_eq n (codes "root")) e))
    cases (inr p) = not_both p.1
