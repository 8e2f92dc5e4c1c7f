-- How many scripts have ended.
use Rattle.std.proofs.Common.{◌≡◌, ◌≢◌, ◌<◌, ◌≤◌, ◌⊎◌, ℕ, zero, suc, ◌+◌, ◌==◌, ◌&&◌, not, Bool, true, false, cond, List, [], ◌∷◌, ◌++◌, map, length, refl, sym, ap, ◌∙◌, subst, inl, inr, arith, slice_index_or, eqb-true, eq-eqb}
use Rattle.std.proofs.lemmas.Bool.{ne_eqb}
use Rattle.cf_types.specs.declared.machine.Command.{Command}
use Rattle.run_rules.specs.declared.event.Act.{Act}
use Rattle.run_rules.specs.declared.event.Act.TheVariants as act
use Rattle.run_rules.specs.declared.event.Event.{Event}
use Rattle.run_rules.specs.declared.world.Setup.{Setup}
use Rattle.run_rules.specs.declared.deed.Deed.{Deed}
use Rattle.run_rules.specs.declared.deed.Deed.TheVariants.{EndCaller}
use Rattle.run_rules.specs.declared.deed.Choice.TheVariants.{Does}
use Rattle.run_rules.specs.Counts.{closes_script, ends_of, is_end}
use Rattle.run_rules.specs.World.{World, Caller, beginning, has_ended, is_ended, nobody, opening}
use Rattle.run_rules.specs.Next.{next}
use Rattle.run_rules.specs.After.{after}
use Rattle.run_rules.specs.Run.{event_of, printed}
use Rattle.run_rules.proofs.CountsOn.{count_on}
use Rattle.run_rules.proofs.Setups.{after_setup}
use Rattle.run_sound.specs.Kept.{Kept}
use Rattle.run_sound.specs.Scripts.{IsOfScript}
use Rattle.run_sound.proofs.Callers.{caller_here, clash, doing_so, doing_there}
use Rattle.run_sound.proofs.Holders.{of_script}
use Rattle.run_sound.proofs.RangesCallers.{others_stay}
use Rattle.script_laws.specs.Whole.{is_answer}
use Rattle.script_laws.proofs.Answered.{told_answers}
use Rattle.script_laws.proofs.Deeds.{AnswersNext, AnswersNone, kind_of}

-- how many of the first n scripts have ended
abbrev pub ended_to : World → ℕ → ℕ
ended_to w zero = 0
ended_to w (suc n) = ended_to w n + cond (has_ended w (suc n)) 1 0

ended_same : (w v : World) (n : ℕ) → ((j : ℕ) → j < n → has_ended v (suc j) ≡ has_ended w (suc j)) → ended_to v n ≡ ended_to w n
ended_same w v zero same = refl
ended_same w v (suc n) same =
    let rest : ended_to v n ≡ ended_to w n = ended_same w v n (λ j lt. same j (omega (arith, lt))) in
    let last : has_ended v (suc n) ≡ has_ended w (suc n) = same n (omega arith) in
    ap (λ (m : ℕ). m + cond (has_ended v (suc n)) 1 0) rest ∙ ap (λ (b : Bool). ended_to w n + cond b 1 0) last

ended_more : (w v : World) (k n : ℕ) → k < n → has_ended w (suc k) ≡ false → has_ended v (suc k) ≡ true → ((j : ℕ) → j ≢ k → has_ended v (suc j) ≡ has_ended w (suc j)) → ended_to v n ≡ ended_to w n + 1
ended_more w v k zero lt was now others = absurd (omega (arith, lt))
ended_more w v k (suc n) lt was now others = cases (λ less. ended_more w v k n less was now others) (k == n) refl
  where
    last : k ≡ n → ended_to v (suc n) ≡ ended_to w (suc n) + 1
    last is =
        let rest : ended_to v n ≡ ended_to w n = ended_same w v n (λ j less. others j (λ same. omega (arith, less, same, is))) in
        let before : has_ended w (suc n) ≡ false = ap (λ (i : ℕ). has_ended w (suc i)) (sym is) ∙ was in
        let behind : has_ended v (suc n) ≡ true = ap (λ (i : ℕ). has_ended v (suc i)) (sym is) ∙ now in
        let sum : ended_to w n + 1 ≡ (ended_to w n + 0) + 1 = omega arith in
        ap (λ (m : ℕ). m + cond (has_ended v (suc n)) 1 0) rest ∙ ap (λ (b : Bool). ended_to w n + cond b 1 0) behind ∙ sum ∙ ap (λ (b : Bool). (ended_to w n + cond b 1 0) + 1) (sym before)

    earlier : ended_to v n ≡ ended_to w n + 1 → n ≢ k → ended_to v (suc n) ≡ ended_to w (suc n) + 1
    earlier rest other =
        let same : has_ended v (suc n) ≡ has_ended w (suc n) = others n other in
        let sum : (ended_to w n + 1) + cond (has_ended w (suc n)) 1 0 ≡ (ended_to w n + cond (has_ended w (suc n)) 1 0) + 1 = omega arith in
        ap (λ (m : ℕ). m + cond (has_ended v (suc n)) 1 0) rest ∙ ap (λ (b : Bool). (ended_to w n + 1) + cond b 1 0) same ∙ sum

    smaller : k ≢ n → k < n
    smaller other = grind (arith, lt, other)

    cases : (k < n → ended_to v n ≡ ended_to w n + 1) → (b : Bool) → (k == n) ≡ b → ended_to v (suc n) ≡ ended_to w (suc n) + 1
    cases rest true is = last (eqb-true k n is)
    cases rest false is =
        let other : k ≢ n = λ same. clash (k == n) (eq-eqb k n same) is in
        earlier (rest (smaller other)) (λ same. other (sym same))

-- no more than there are; and where as many have ended as there are, each has
at_most : (w : World) (n : ℕ) → ended_to w n ≤ n
at_most w zero = omega arith
at_most w (suc n) = cases (has_ended w (suc n)) (at_most w n)
  where
    cases : (b : Bool) → ended_to w n ≤ n → ended_to w n + cond b 1 0 ≤ suc n
    cases true le = omega (arith, le)
    cases false le = omega (arith, le)

pub all_ended : (w : World) (n : ℕ) → ended_to w n ≡ n → (j : ℕ) → j < n → has_ended w (suc j) ≡ true
all_ended w zero full j lt = absurd (omega (arith, lt))
all_ended w (suc n) full j lt = cases (λ rest less. all_ended w n rest j less) (has_ended w (suc n)) refl (at_most w n) full
  where
    smaller : j ≢ n → j < n
    smaller other = grind (arith, lt, other)

    pick : (j < n → has_ended w (suc j) ≡ true) → has_ended w (suc n) ≡ true → (c : Bool) → (j == n) ≡ c → has_ended w (suc j) ≡ true
    pick earlier last true here = ap (λ (i : ℕ). has_ended w (suc i)) (eqb-true j n here) ∙ last
    pick earlier last false there = earlier (smaller (λ same. clash (j == n) (eq-eqb j n same) there))

    cases : (ended_to w n ≡ n → j < n → has_ended w (suc j) ≡ true) → (b : Bool) → has_ended w (suc n) ≡ b → ended_to w n ≤ n → ended_to w n + cond b 1 0 ≡ suc n → has_ended w (suc j) ≡ true
    cases earlier true is le sum = pick (earlier (omega (arith, sum))) is (j == n) refl
    cases earlier false is le sum = absurd (omega (arith, le, sum))

-- ---- one event more

-- what answers a command is no end
no_end : (a : Act) → is_answer a ≡ true → is_end a ≡ false
no_end act.End h = absurd cc
no_end _ h = refl

-- the event is an end, of a script's caller that had not ended
closes_not : (w : World) (k : ℕ) (d : Deed) → (not (k == 0) && is_end (printed w k d)) ≡ false → closes_script (event_of w k d) ≡ false
unfolding event_of closes_script
closes_not w k d off = off

closes : (w : World) (k : ℕ) → k ≢ 0 → closes_script (event_of w k EndCaller) ≡ true
unfolding event_of closes_script printed
closes w k later = ap (λ (b : Bool). not b && true) (ne_eqb k 0 later)

-- the same flags, and no end
ended_stays : (h : List Event) (w : World) (k n : ℕ) (d : Deed) → closes_script (event_of w k d) ≡ false → ((j : ℕ) → has_ended (after w k d) (suc j) ≡ has_ended w (suc j))
    → ends_of h ≡ ended_to w n → ends_of (h ++ event_of w k d ∷ []) ≡ ended_to (after w k d) n
ended_stays h w k n d off same count =
    let sum : ends_of h + 0 ≡ ends_of h = omega arith in
    count_on closes_script h (event_of w k d) ∙ ap (λ (b : Bool). ends_of h + cond b 1 0) off ∙ sum ∙ count ∙ sym (ended_same w (after w k d) n (λ j lt. same j))

flags : (w : World) (k : ℕ) (d : Deed) → (j : ℕ) → suc j ≢ k → has_ended (after w k d) (suc j) ≡ has_ended w (suc j)
flags w k d j other = ap (λ (c : Caller). is_ended c.doing) (others_stay w k (suc j) d other)

-- a deed that is no end leaves all flags
goes_on : (h : List Event) (w : World) (k n : ℕ) (d : Deed) → has_ended w k ≡ false → has_ended (after w k d) k ≡ false → is_end (printed w k d) ≡ false
    → ends_of h ≡ ended_to w n → ends_of (h ++ event_of w k d ∷ []) ≡ ended_to (after w k d) n
goes_on h w k n d was is line count = ended_stays h w k n d (closes_not w k d (off (not (k == 0)))) same count
  where
    off : (b : Bool) → (b && is_end (printed w k d)) ≡ false
    off true = line
    off false = refl

    same : (j : ℕ) → has_ended (after w k d) (suc j) ≡ has_ended w (suc j)
    same j = pick (suc j == k) refl
      where
        pick : (b : Bool) → (suc j == k) ≡ b → has_ended (after w k d) (suc j) ≡ has_ended w (suc j)
        pick true here = let own : suc j ≡ k = eqb-true (suc j) k here in ap (has_ended (after w k d)) own ∙ is ∙ sym was ∙ sym (ap (has_ended w) own)
        pick false there = flags w k d j (λ own. clash (suc j == k) (eq-eqb (suc j) k own) there)

-- the end of a script
one_ends : (h : List Event) (w : World) (k : ℕ) → Kept w → next w (suc k) ≡ Does EndCaller → ends_of h ≡ ended_to w (length w.setup.scripts)
    → ends_of (h ++ event_of w (suc k) EndCaller ∷ []) ≡ ended_to (after w (suc k) EndCaller) (length w.setup.scripts)
unfolding after
one_ends h w k kept e count =
    let later : suc k ≢ 0 = λ same. omega (arith, same) in
    let of : IsOfScript w.setup (suc k) = of_script w (suc k) kept.ranges later (doing_there w (suc k) EndCaller e) in
    let less : k < length w.setup.scripts = omega (arith, of.1) in
    let ended : has_ended (after w (suc k) EndCaller) (suc k) ≡ true = ap (λ (c : Caller). is_ended c.doing) (caller_here w (suc k) _ (doing_there w (suc k) EndCaller e)) in
    count_on closes_script h (event_of w (suc k) EndCaller) ∙ ap (λ (b : Bool). ends_of h + cond b 1 0) (closes w (suc k) later) ∙ ap (λ (m : ℕ). m + 1) count
    ∙ sym (ended_more w (after w (suc k) EndCaller) k (length w.setup.scripts) less (doing_so w (suc k) EndCaller e).unended ended (λ j other. flags w (suc k) EndCaller j (λ same. omega (arith, other, same))))

-- the boot's end is none of a script
boot_ends : (h : List Event) (w : World) (n : ℕ) → ends_of h ≡ ended_to w n → ends_of (h ++ event_of w 0 EndCaller ∷ []) ≡ ended_to (after w 0 EndCaller) n
boot_ends h w n count = ended_stays h w 0 n EndCaller (closes_not w 0 EndCaller refl) (λ j. flags w 0 EndCaller j (λ same. omega (arith, same))) count

pub ends_on : (h : List Event) (w : World) (k : ℕ) (d : Deed) → Kept w → next w k ≡ Does d → ends_of h ≡ ended_to w (length w.setup.scripts)
    → ends_of (h ++ event_of w k d ∷ []) ≡ ended_to (after w k d) (length (after w k d).setup.scripts)
ends_on h w k d kept e count = rw (after_setup w k d) (cases (kind_of w k kept d e))
  where
    end : (i : ℕ) → next w i ≡ Does EndCaller → ends_of (h ++ event_of w i EndCaller ∷ []) ≡ ended_to (after w i EndCaller) (length w.setup.scripts)
    end zero does = boot_ends h w (length w.setup.scripts) count
    end (suc i) does = one_ends h w i kept does count

    cases : AnswersNext w k d ⊎ (AnswersNone w k d ⊎ (d ≡ EndCaller)) → ends_of (h ++ event_of w k d ∷ []) ≡ ended_to (after w k d) (length w.setup.scripts)
    cases (inl one) =
        goes_on h w k (length w.setup.scripts) d (doing_so w k d e).unended one.on.goes
        (no_end (printed w k d) (ap is_answer one.line ∙ told_answers w one.said one.reply)) count
    cases (inr (inl none)) = goes_on h w k (length w.setup.scripts) d (doing_so w k d e).unended none.on.goes none.goes count
    cases (inr (inr is)) =
        subst (λ (x : Deed). ends_of (h ++ event_of w k x ∷ []) ≡ ended_to (after w k x) (length w.setup.scripts)) (sym is) (end k (subst (λ (x : Deed). next w k ≡ Does x) is e))

-- ---- before any event

pub opens_live : (scripts : List (List Command)) (k : ℕ) → k < length scripts → is_ended (slice_index_or (map (λ (script : List Command). beginning []) scripts) k nobody).doing ≡ false
opens_live [] k lt = absurd (omega arith)
opens_live (x ∷ xs) zero lt = refl
opens_live (x ∷ xs) (suc k) lt = opens_live xs k (omega arith)

none_to : (w : World) (n : ℕ) → ((j : ℕ) → j < n → has_ended w (suc j) ≡ false) → ended_to w n ≡ 0
none_to w zero none = refl
none_to w (suc n) none = ap (λ (m : ℕ). m + cond (has_ended w (suc n)) 1 0) (none_to w n (λ j lt. none j (omega (arith, lt)))) ∙ ap (λ (b : Bool). 0 + cond b 1 0) (none n (omega arith))

pub ends_open : (s : Setup) → 0 ≡ ended_to (opening s) (length s.scripts)
unfolding opening
ends_open s = sym (none_to (opening s) (length s.scripts) (opens_live s.scripts))
