-- A caller that waits still waits where what it waits for is as before.
use Rattle.std.proofs.Common.{◌≡◌, ℕ, ◌==◌, not, ◌&&◌, nat_lt, Bool, true, false, cond, List, [], ◌∷◌, length, Option, Some, None, refl, sym, ap, ◌∙◌, subst}
use Rattle.std.specs.Option.{option_map_or}
use Rattle.std.specs.Prelude.{slice_get, slice_index_or, ◌+◌, ◌-◌}
use Rattle.run_rules.specs.declared.event.PowerKind.{PowerKind}
use Rattle.run_rules.specs.declared.event.PowerKind.TheVariants as kind
use Rattle.run_rules.specs.declared.world.Dev.{Dev}
use Rattle.run_rules.specs.declared.world.Frame.{Frame}
use Rattle.run_rules.specs.declared.world.Frame.TheVariants.{Scan, Finaliser}
use Rattle.run_rules.specs.declared.world.Wait.{Wait}
use Rattle.run_rules.specs.declared.world.Wait.TheVariants as wait
use Rattle.run_rules.specs.declared.world.Activity.{Activity}
use Rattle.run_rules.specs.declared.world.Activity.TheVariants as activity
use Rattle.run_rules.specs.declared.deed.Deed.{Deed}
use Rattle.run_rules.specs.declared.deed.Choice.{Choice}
use Rattle.run_rules.specs.declared.deed.Choice.TheVariants.{Ended, Waits, Does}
use Rattle.cf_types.specs.declared.machine.Command.{Command}
use Rattle.run_rules.specs.declared.world.Setup.{Setup}
use Rattle.run_rules.specs.declared.deed.PowerEnd.TheVariants as ends
use Rattle.run_rules.specs.World.{World, Caller, caller_at, has_ended, is_ended, is_live, is_pinned, is_referred, policy_of}
use Rattle.run_rules.specs.Next.{by_activity, closing, command_deed, command_of, first_held, freeing, is_power, next, next_boot, next_command, next_free, next_sleep, next_wake, on_top, other_turn, powering, starting, suspending, waking}

-- where the first choice waits, so does the second, for the same
abbrev pub Keeps : Choice → Choice → Type 0
Keeps c d = (why : Wait) → c ≡ Waits why → d ≡ Waits why

-- a choice that waits for nothing
abbrev Waits_never : Choice → Type 0
Waits_never c = (why : Wait) → c ≡ Waits why → ⊥

keeps_never : (c d : Choice) → Waits_never c → Keeps c d
keeps_never c d never why e = absurd (never why e)

does_never : (d : Deed) → Waits_never (Does d)
does_never d why e = cc

ended_never : Waits_never Ended
ended_never why e = cc

keeps_same : (c d : Choice) → c ≡ d → Keeps c d
keeps_same c d same why e = sym same ∙ e

never_if : (b : Bool) (x y : Choice) → (b ≡ true → Waits_never x) → (b ≡ false → Waits_never y) → Waits_never (cond b x y)
never_if true x y p q = p refl
never_if false x y p q = q refl

never_option : {A : Type 0} (f : A → Choice) (o : Option A) (c : Choice) → ((a : A) → Waits_never (f a)) → Waits_never c → Waits_never (option_map_or f o c)
never_option f None c p q = q
never_option f (Some a) c p q = p a

keeps_if : (b e : Bool) (x y x' y' : Choice) → (b ≡ true → (e ≡ true) × Keeps x x') → (b ≡ false → Waits_never y) → Keeps (cond b x y) (cond e x' y')
keeps_if true e x y x' y' p q = λ why is. ap (λ (z : Bool). cond z x' y') (p refl).0 ∙ (p refl).1 why is
keeps_if false e x y x' y' p q = keeps_never y (cond e x' y') (q refl)

-- what a caller's wait rests on: in both worlds the caller is the same, and the boot has ended or has not; who has the power turn is
-- the same, and so is the next device that the caller frees; what is held or pinned still is; where a power command waits, the same
-- devices live
pub record Alike (w v : World) (k : ℕ) : Type 0 where
  pub setup : v.setup ≡ w.setup
  pub caller : caller_at v k ≡ caller_at w k
  pub boot : has_ended v 0 ≡ has_ended w 0
  pub owner : v.power_owner ≡ w.power_owner
  pub frees : next_free v.live k ≡ next_free w.live k
  pub referred : (s : ℕ) → is_referred w s ≡ true → is_referred v s ≡ true
  pub pinned : (s : ℕ) → is_pinned w s ≡ true → is_pinned v s ≡ true
  pub powers : (what : PowerKind) (target : ℕ) → (caller_at w k).doing ≡ activity.Power what target → v.live ≡ w.live

boot_never : (w : World) → Waits_never (next_boot w)
unfolding next_boot
boot_never w =
    never_if (not w.interrupts_on) _ _ (λ p. does_never _) (λ p. never_if (nat_lt w.next_finaliser (length w.finalisers)) _ _ (λ l. does_never _) (λ l.
    never_if w.pass_repeats _ _ (λ a. does_never _) (λ a. does_never _)))

closing_never : (w : World) (k : ℕ) → Waits_never (closing w k)
closing_never w k = never_option _ (first_held w k) _ (λ d. does_never _) (does_never _)

waking_never : (w : World) (target : ℕ) (whole : Bool) → Waits_never (waking w target whole)
unfolding waking
waking_never w target whole = never_option _ (next_wake w.live target whole) _ (λ d. does_never _) (does_never _)

freeing_kept : (w v : World) (k : ℕ) → Alike w v k → Keeps (freeing w k) (freeing v k)
unfolding freeing
freeing_kept w v k at = cases (next_free w.live k) (next_free v.live k) at.frees
  where
    pick : World → ℕ → Choice
    pick u s = cond (is_referred u s) (Waits (wait.Refs s)) (Does (Deed.Free s))

    cases : (o p : Option ℕ) → p ≡ o → Keeps (option_map_or (pick w) o Ended) (option_map_or (pick v) p Ended)
    cases o p same =
        subst (λ (q : Option ℕ). Keeps (option_map_or (pick w) o Ended) (option_map_or (pick v) q Ended)) (sym same) (by_option o)
      where
        by_option : (q : Option ℕ) → Keeps (option_map_or (pick w) q Ended) (option_map_or (pick v) q Ended)
        by_option None = keeps_never Ended Ended ended_never
        by_option (Some s) = keeps_if (is_referred w s) (is_referred v s) _ _ _ _ (λ r. (at.referred s r, λ why e. e)) (λ r. does_never _)

suspending_kept : (w v : World) (k target : ℕ) → Alike w v k → v.live ≡ w.live → Keeps (suspending w target) (suspending v target)
unfolding suspending
suspending_kept w v k target at same =
    subst (λ (o : Option Dev). Keeps (option_map_or (pick w) (next_sleep w.live target) end) (option_map_or (pick v) o end)) (ap (λ (l : List Dev). next_sleep l target) (sym same))
    (by_option (next_sleep w.live target))
  where
    rest : World → Dev → Choice
    rest u d =
        cond (policy_of u.setup d.row).nopower (Does (Deed.EndPower (ends.NotSupported d.serial)))
        (cond (policy_of u.setup d.row).failsuspend (Does (Deed.EndPower (ends.Failed d.serial))) (Does (Deed.Sleep d.serial)))

    pick : World → Dev → Choice
    pick u d = cond (is_pinned u d.serial) (Waits (wait.Scan d.serial)) (rest u d)

    end : Choice
    end = Does (Deed.EndPower ends.Done)

    rest_never : (d : Dev) → Waits_never (rest w d)
    rest_never d = never_if (policy_of w.setup d.row).nopower _ _ (λ n. does_never _) (λ n. never_if (policy_of w.setup d.row).failsuspend _ _ (λ f. does_never _) (λ f. does_never _))

    by_option : (o : Option Dev) → Keeps (option_map_or (pick w) o end) (option_map_or (pick v) o end)
    by_option None = keeps_never end end (does_never _)
    by_option (Some d) = keeps_if (is_pinned w d.serial) (is_pinned v d.serial) _ _ _ _ (λ p. (at.pinned d.serial p, λ why e. e)) (λ p. rest_never d)

powering_kept : (w v : World) (k : ℕ) (what : PowerKind) (target : ℕ) → Alike w v k → v.live ≡ w.live → Keeps (powering w what target) (powering v what target)
powering_kept w v k kind.Suspend target at same = suspending_kept w v k target at same
powering_kept w v k kind.Resume target at same = keeps_never _ _ (waking_never w target false)
powering_kept w v k kind.ResumeTree target at same = keeps_never _ _ (waking_never w target true)

-- a command waits for the power turn alone
command_kept : (w v : World) (k : ℕ) → Alike w v k → Keeps (next_command w k) (next_command v k)
unfolding next_command
command_kept w v k at =
    subst (λ (o : Option Command). Keeps (option_map_or (starting w k) (command_of w k) (closing w k)) (option_map_or (starting v k) o (closing v k))) (sym same) (by_option (command_of w k))
  where
    at_place : (cs : Setup × Caller) → Option Command
    at_place cs = slice_get (slice_index_or cs.0.scripts (k - 1) []) cs.1.over

    same : command_of v k ≡ command_of w k
    same = ap at_place (λ i. (at.setup i, at.caller i))

    by_turn : (c : Command) (o : Option ℕ) → Keeps (option_map_or (λ j. Waits (wait.Power j)) o (Does (command_deed w k ((caller_at w k).over + 1) c))) (option_map_or (λ j. Waits (wait.Power j)) o (Does (command_deed v k ((caller_at v k).over + 1) c)))
    by_turn c None = keeps_never _ _ (does_never _)
    by_turn c (Some j) = λ why e. e

    by_option : (o : Option Command) → Keeps (option_map_or (starting w k) o (closing w k)) (option_map_or (starting v k) o (closing v k))
    by_option None = keeps_never _ _ (closing_never w k)
    by_option (Some c) =
        subst (λ (t : Option ℕ). Keeps (starting w k c) (option_map_or (λ j. Waits (wait.Power j)) (cond (is_power c) (other_turn t k) None) (Does (command_deed v k ((caller_at v k).over + 1) c))))
        (sym at.owner) (by_turn c (cond (is_power c) (other_turn w.power_owner k) None))

top_kept : (w v : World) (k : ℕ) (fs : List Frame) → Alike w v k → Keeps (on_top w k fs) (on_top v k fs)
top_kept w v k (Scan p only wanted from ∷ rest) at = keeps_never _ _ (does_never _)
top_kept w v k (Finaliser s ∷ rest) at = keeps_never _ _ (does_never _)
top_kept w v k [] at = by_number (k == 0)
  where
    by_number : (b : Bool) → Keeps (cond b (next_boot w) (next_command w k)) (cond b (next_boot v) (next_command v k))
    by_number true = keeps_never _ _ (boot_never w)
    by_number false = command_kept w v k at

activity_kept : (w v : World) (k : ℕ) (a : Activity) → (caller_at w k).doing ≡ a → Alike w v k → Keeps (by_activity w k a) (by_activity v k a)
activity_kept w v k activity.Ended e at = keeps_never _ _ ended_never
activity_kept w v k (activity.Transfer t) e at = keeps_never _ _ (does_never _)
activity_kept w v k (activity.Frees t) e at = freeing_kept w v k at
activity_kept w v k (activity.Power what target) e at =
    keeps_if (is_live w.live target) (is_live v.live target) _ _ _ _
    (λ l. (ap (λ (x : List Dev). is_live x target) (at.powers what target e) ∙ l, powering_kept w v k what target at (at.powers what target e))) (λ l. does_never _)
activity_kept w v k activity.Scans e at =
    subst (λ (c : Caller). Keeps (on_top w k (caller_at w k).stack) (on_top v k c.stack)) (sym at.caller) (top_kept w v k (caller_at w k).stack at)
activity_kept w v k activity.Idle e at =
    subst (λ (c : Caller). Keeps (on_top w k (caller_at w k).stack) (on_top v k c.stack)) (sym at.caller) (top_kept w v k (caller_at w k).stack at)

pub next_kept : (w v : World) (k : ℕ) → Alike w v k → Keeps (next w k) (next v k)
unfolding next
next_kept w v k at =
    subst (λ (t : Bool × (Bool × Activity)). Keeps (whole w (has_ended w k) (has_ended w 0) (caller_at w k).doing) (whole v t.0 t.1.0 t.1.1))
    (λ i. (is_ended (sym at.caller i).doing, (sym at.boot i, (sym at.caller i).doing)))
    (by_end (has_ended w k))
  where
    whole : World → Bool → Bool → Activity → Choice
    whole u ended booted a = cond ended Ended (cond (not (k == 0) && not booted) (Waits wait.Boot) (by_activity u k a))

    by_boot : (b : Bool) → Keeps (cond b (Waits wait.Boot) (by_activity w k (caller_at w k).doing)) (cond b (Waits wait.Boot) (by_activity v k (caller_at w k).doing))
    by_boot true = λ why e. e
    by_boot false = activity_kept w v k (caller_at w k).doing refl at

    by_end : (b : Bool) → Keeps (whole w b (has_ended w 0) (caller_at w k).doing) (whole v b (has_ended w 0) (caller_at w k).doing)
    by_end true = keeps_never _ _ ended_never
    by_end false = by_boot (not (k == 0) && not (has_ended w 0))
