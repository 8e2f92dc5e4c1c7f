-- Of each name a caller holds no more than the commands that it began say.
use Rattle.std.proofs.Common.{◌≡◌, ◌≢◌, ◌≤◌, ◌⊎◌, ℕ, zero, suc, ◌+◌, ◌-◌, ◌==◌, ◌&&◌, Bool, true, false, List, [], ◌∷◌, ◌++◌, map, length, bytes_eq, Option, Some, None, refl, sym, ap, ◌∙◌, subst, inl, inr, arith, append_assoc, length-append, slice_get, slice_index_or, eqb-true, eq-eqb}
use Rattle.std.specs.Prelude.{if◌then◌else◌}
use Rattle.std.specs.Option.{option_map_or}
use Rattle.std.proofs.lemmas.Bool.{ne_eqb}
use Rattle.cf_types.specs.declared.machine.Command.{Command}
use Rattle.cf_types.specs.declared.machine.Command.TheVariants as command
use Rattle.run_rules.specs.declared.event.Act.{Act}
use Rattle.run_rules.specs.declared.event.Act.TheVariants as act
use Rattle.run_rules.specs.declared.event.Event.{Event}
use Rattle.run_rules.specs.declared.event.Reply.{Reply}
use Rattle.run_rules.specs.declared.event.Reply.TheVariants as reply
use Rattle.run_rules.specs.declared.world.Activity.TheVariants as activity
use Rattle.run_rules.specs.declared.world.Dev.{Dev}
use Rattle.run_rules.specs.declared.world.Frame.{Frame}
use Rattle.run_rules.specs.declared.world.Setup.{Setup}
use Rattle.run_rules.specs.declared.world.Wait.TheVariants as wait
use Rattle.run_rules.specs.declared.deed.Deed.{Deed}
use Rattle.run_rules.specs.declared.deed.Deed.TheVariants.{Close, EndCaller, Refuse}
use Rattle.run_rules.specs.declared.deed.CommandRefusal.TheVariants as refusal
use Rattle.run_rules.specs.declared.deed.Choice.TheVariants.{Waits, Does}
use Rattle.run_rules.specs.World.{World, Caller, beginning, caller_at, device_named, is_held, nobody, opening}
use Rattle.run_rules.specs.Laws.{is_ok, opens, returns}
use Rattle.run_rules.specs.Next.{by_activity, closing, command_deed, command_of, next, next_boot, next_command, on_top, other_turn, starting}
use Rattle.run_rules.specs.Next as rules
use Rattle.run_rules.specs.After.{after}
use Rattle.run_rules.specs.Run.{event_of, printed, told}
use Rattle.run_rules.proofs.References.{not_held_counts}
use Rattle.run_rules.proofs.Setups.{after_setup}
use Rattle.run_sound.specs.Kept.{Kept, MayRun}
use Rattle.run_sound.specs.Scripts.{script_of}
use Rattle.run_sound.proofs.Callers.{caller_here, clash, doing_so, doing_there, later_test}
use Rattle.run_sound.proofs.RangesCallers.{others_stay}
use Rattle.run_sound.proofs.Scripts.{command_is}
use Rattle.history_laws.specs.Counted.{Counted, granted, held_of, returned}
use Rattle.history_laws.proofs.Acts.{answered_is}
use Rattle.history_laws.proofs.Grown.{granted_on, returned_on}
use Rattle.history_laws.proofs.Kept.{counted_after}
use Rattle.history_laws.proofs.Names.{bytes_same}
use Rattle.script_laws.specs.Begun.{begun_by, begun_of}
use Rattle.script_laws.specs.Whole.{is_answer}
use Rattle.script_laws.proofs.Deeds.{AnswersNext, AnswersNone, kind_of}
use Rattle.progress_laws.specs.Plain.{HoldsAtMostText, count_after, opens_left}
use Rattle.progress_laws.proofs.Begun.{end_idle}
use Rattle.progress_laws.proofs.Texts.{behind_one, one_if}

-- ---- what a caller holds of a name

abbrev pub held_by : World → ℕ → List ℕ → ℕ
held_by w k x = held_of w.refs k (device_named w.setup w.live x)

-- a deed changes it as its line says
moves : (h : List Event) (w : World) (j k : ℕ) (d : Deed) (x : List ℕ) → MayRun w.setup → Kept w → next w j ≡ Does d → Counted h w
    → held_by (after w j d) k x + one_if (j == k && returns (printed w j d) x) ≡ held_by w k x + one_if (j == k && opens (printed w j d) x)
unfolding event_of
moves h w j k d x may kept e counted =
    let later : granted (h ++ event_of w j d ∷ []) k x ≡ held_by (after w j d) k x + returned (h ++ event_of w j d ∷ []) k x = ((counted_after h w j d may kept e counted).names x).held k in
    let now : granted h k x ≡ held_by w k x + returned h k x = (counted.names x).held k in
    let more : granted (h ++ event_of w j d ∷ []) k x ≡ granted h k x + one_if (j == k && opens (printed w j d) x) = granted_on h (event_of w j d) k x in
    let less : returned (h ++ event_of w j d ∷ []) k x ≡ returned h k x + one_if (j == k && returns (printed w j d) x) = returned_on h (event_of w j d) k x in
    omega (arith, later, now, more, less)

-- a deed of another caller leaves it
others_hold : (h : List Event) (w : World) (j k : ℕ) (d : Deed) (x : List ℕ) → j ≢ k → MayRun w.setup → Kept w → next w j ≡ Does d → Counted h w → held_by (after w j d) k x ≡ held_by w k x
others_hold h w j k d x other may kept e counted =
    let off = ne_eqb j k other in
    omega (arith, moves h w j k d x may kept e counted, ap (λ (b : Bool). one_if (b && returns (printed w j d) x)) off, ap (λ (b : Bool). one_if (b && opens (printed w j d) x)) off)

-- one's own, by its line
own_moves : (h : List Event) (w : World) (k : ℕ) (d : Deed) (a : Act) (x : List ℕ) → printed w k d ≡ a → MayRun w.setup → Kept w → next w k ≡ Does d → Counted h w
    → held_by (after w k d) k x + one_if (returns a x) ≡ held_by w k x + one_if (opens a x)
own_moves h w k d a x line may kept e counted =
    let on = eq-eqb k k refl in
    omega (
      arith,
      moves h w k k d x may kept e counted,
      ap (λ (b : Bool). one_if (b && returns (printed w k d) x)) on,
      ap (λ (b : Bool). one_if (b && opens (printed w k d) x)) on,
      ap (λ (b : Act). one_if (returns b x)) line,
      ap (λ (b : Act). one_if (opens b x)) line,
    )

-- ---- a close

one_deed : (a b : Deed) → Does a ≡ Does b → a ≡ b
one_deed a b h = cc

no_frames : (w : World) (k : ℕ) → Kept w → k ≢ 0 → (caller_at w k).doing ≡ activity.Idle → (caller_at w k).stack ≡ []
no_frames w k kept later idle = cases (caller_at w k).stack refl
  where
    cases : (fs : List Frame) → (caller_at w k).stack ≡ fs → fs ≡ []
    cases [] e = refl
    cases (f ∷ fs) e =
        let scans : (caller_at w k).doing ≡ activity.Scans = (kept.sound.callers k).frames (later_test k later) (λ none. absurd cc) in
        absurd cc

-- a caller that is idle does what its next command says
deed_is : (w : World) (k : ℕ) (d : Deed) (said : Command) → Kept w → k ≢ 0 → next w k ≡ Does d → (caller_at w k).doing ≡ activity.Idle → command_of w k ≡ Some said → rules.is_power said ≡ false
    → command_deed w k ((caller_at w k).over + 1) said ≡ d
unfolding next_command
deed_is w k d said kept later e idle says plain =
    let top : on_top w k (caller_at w k).stack ≡ Does d = sym (ap (by_activity w k) idle) ∙ (doing_so w k d e).does in
    let bare : on_top w k [] ≡ Does d = sym (ap (on_top w k) (no_frames w k kept later idle)) ∙ top in
    let script : next_command w k ≡ Does d = sym (ap (λ (b : Bool). if b then next_boot w else next_command w k) (ne_eqb k 0 later)) ∙ bare in
    let starts : starting w k said ≡ Does d = sym (ap (λ (o : Option Command). option_map_or (starting w k) o (closing w k)) says) ∙ script in
    let does : Does (command_deed w k ((caller_at w k).over + 1) said) ≡ Does d =
    sym (ap (λ (b : Bool). option_map_or (λ (j : ℕ). Waits (wait.Power j)) (if b then other_turn w.power_owner k else None) (Does (command_deed w k ((caller_at w k).over + 1) said))) plain) ∙ starts in
    one_deed _ d does

-- a reference comes back, or there was none
closes : (w : World) (k n : ℕ) (d : Deed) (name x : List ℕ) → command_of w k ≡ Some (command.CloseDev name) → command_deed w k n (command.CloseDev name) ≡ d
    → (returns (printed w k d) x ≡ bytes_eq name x) ⊎ (held_by w k name ≡ 0)
unfolding command_deed printed
closes w k n d name x says is = by_device (device_named w.setup w.live name) refl is
  where
    by_held : (v : Dev) (b : Bool) → device_named w.setup w.live name ≡ Some v → is_held w k v.serial ≡ b → (if b then Close v.serial else Refuse refusal.NotHeld) ≡ d
        → (returns (printed w k d) x ≡ bytes_eq name x) ⊎ (held_by w k name ≡ 0)
    by_held v true e h deed =
        let line : printed w k (Close v.serial) ≡ act.CloseDev name reply.Ok = answered_is w k reply.Ok (command.CloseDev name) says in
        inl (ap (λ (y : Deed). returns (printed w k y) x) (sym deed) ∙ ap (λ (a : Act). returns a x) line)
    by_held v false e h deed = inr (ap (held_of w.refs k) e ∙ not_held_counts w.refs k v.serial h)

    by_device : (o : Option Dev) → device_named w.setup w.live name ≡ o → option_map_or (λ v. if is_held w k v.serial then Close v.serial else Refuse refusal.NotHeld) o (Refuse refusal.NotHeld) ≡ d
        → (returns (printed w k d) x ≡ bytes_eq name x) ⊎ (held_by w k name ≡ 0)
    by_device None e deed = inr (ap (held_of w.refs k) e)
    by_device (Some v) e deed = by_held v (is_held w k v.serial) e refl deed

-- ---- a command more

granted_low : (a b : Bool) → one_if (a && b) ≤ one_if b
granted_low true b = omega arith
granted_low false true = omega arith
granted_low false false = omega arith

closed_low : (before now n : ℕ) (b r : Bool) → now + one_if r ≡ before → before ≤ n → (r ≡ b) ⊎ (b ≡ true → before ≡ 0) → now ≤ n - one_if b
closed_low before now n b r moved low (inl same) = omega (arith, moved, low, ap one_if same)
closed_low before now n true r moved low (inr none) = omega (arith, moved, low, none refl)
closed_low before now n false r moved low (inr none) = omega (arith, moved, low)

module _ (h : List Event) (w : World) (k : ℕ) (d : Deed) (may : MayRun w.setup) (kept : Kept w) (e : next w k ≡ Does d) (counted : Counted h w) where
  stays_low : (n : ℕ) (a : Act) (x : List ℕ) → printed w k d ≡ a → opens a x ≡ false → held_by w k x ≤ n → held_by (after w k d) k x ≤ n
  stays_low n a x line off low = omega (arith, own_moves h w k d a x line may kept e counted, ap one_if off, low)

  opens_low : (n : ℕ) (a : Act) (name x : List ℕ) (r : Reply) → printed w k d ≡ a → opens a x ≡ (is_ok r && bytes_eq name x) → held_by w k x ≤ n
      → held_by (after w k d) k x ≤ n + one_if (bytes_eq name x)
  opens_low n a name x r line on low = omega (arith, own_moves h w k d a x line may kept e counted, ap one_if on, granted_low (is_ok r) (bytes_eq name x), low)

  closes_low : (n : ℕ) (name x : List ℕ) (r : Reply) → printed w k d ≡ act.CloseDev name r → k ≢ 0 → (caller_at w k).doing ≡ activity.Idle → command_of w k ≡ Some (command.CloseDev name)
      → held_by w k x ≤ n → held_by (after w k d) k x ≤ n - one_if (bytes_eq name x)
  closes_low n name x r line later idle says low =
      let moved = own_moves h w k d (printed w k d) x refl may kept e counted in
      let off : opens (printed w k d) x ≡ false = ap (λ (a : Act). opens a x) line in
      let sum : held_by (after w k d) k x + one_if (returns (printed w k d) x) ≡ held_by w k x = omega (arith, moved, ap one_if off) in
      closed_low (held_by w k x) (held_by (after w k d) k x) n (bytes_eq name x) (returns (printed w k d) x) sum low
      (elim (closes w k ((caller_at w k).over + 1) d name x says (deed_is w k d (command.CloseDev name) kept later e idle says refl)) [
        | inl same ↦ inl same
        | inr none ↦ inr (λ is. subst (λ (y : List ℕ). held_by w k y ≡ 0) (bytes_same name x is) none)
      ])

  most_next : (n : ℕ) (said : Command) (r : Reply) (x : List ℕ) → printed w k d ≡ told w said r → k ≢ 0 → (caller_at w k).doing ≡ activity.Idle → command_of w k ≡ Some said
      → held_by w k x ≤ n → held_by (after w k d) k x ≤ count_after n said x
  most_next n (command.OpenDev name) r x line later idle says low = opens_low n (act.OpenDev name r) name x r line refl low
  most_next n (command.OpenSole name) r x line later idle says low = opens_low n (act.OpenSole name r) name x r line refl low
  most_next n (command.CloseDev name) r x line later idle says low = closes_low n name x r line later idle says low
  most_next n said r x line later idle says low = stays_low n _ x line refl low

-- ---- how far a caller is

abbrev begun_at : World → ℕ → ℕ
begun_at w k = begun_by (caller_at w k).over (caller_at w k).doing

-- what stands behind a list
record Follows (left : List Command) (c : Command) : Type 0 where
  rest : List Command
  is : left ≡ c ∷ rest

follows : (done left : List Command) (c : Command) → slice_get (done ++ left) (length done) ≡ Some c → Follows left c
follows [] [] c e = absurd cc
follows [] (x ∷ xs) c e = record { rest = xs; is = ap (λ (y : Command). y ∷ xs) (cc) }
follows (x ∷ done) left c e = follows done left c e

quiet_none : (act : Act) (x : List ℕ) → is_answer act ≡ false → opens act x ≡ false
quiet_none (act.OpenDev device r) x h = absurd cc
quiet_none (act.OpenSole device r) x h = absurd cc
quiet_none (act.CloseDev device r) x h = refl
quiet_none (act.IoStart device value r) x h = refl
quiet_none _ x h = refl

module _ (h : List Event) (w : World) (may : MayRun w.setup) (kept : Kept w) (counted : Counted h w) where
  -- the same commands, and no more of any name
  same_text : (j k : ℕ) (d : Deed) → begun_at (after w j d) k ≡ begun_at w k → ((x : List ℕ) → held_by (after w j d) k x ≤ held_by w k x) → HoldsAtMostText w k → HoldsAtMostText (after w j d) k
  same_text j k d same low at = record {
    begun = at.begun;
    left = at.left;
    script = ap (λ (s : Setup). script_of s k) (after_setup w j d) ∙ at.script;
    many = at.many ∙ sym same;
    most = λ x. omega (arith, low x, at.most x);
  }

  other_text : (j k : ℕ) (d : Deed) → j ≢ k → next w j ≡ Does d → HoldsAtMostText w k → HoldsAtMostText (after w j d) k
  other_text j k d other e at =
      same_text j k d (ap (λ (c : Caller). begun_by c.over c.doing) (others_stay w j k d (λ same. other (sym same))))
      (λ x. omega (arith, others_hold h w j k d x other may kept e counted)) at

  none_text : (k : ℕ) (d : Deed) → next w k ≡ Does d → AnswersNone w k d → HoldsAtMostText w k → HoldsAtMostText (after w k d) k
  none_text k d e none at =
      let less : begun_of (caller_at w k) + 0 ≡ begun_of (caller_at w k) = omega arith in
      same_text k k d (none.on.begun ∙ less)
      (λ x. stays_low h w k d may kept e counted (held_by w k x) (printed w k d) x refl (quiet_none (printed w k d) x none.line) (omega arith)) at

  next_text : (k : ℕ) (d : Deed) → k ≢ 0 → next w k ≡ Does d → AnswersNext w k d → HoldsAtMostText w k → HoldsAtMostText (after w k d) k
  next_text k d later e one at =
      let idle : begun_at w k ≡ (caller_at w k).over = ap (begun_by (caller_at w k).over) one.idle in
      let place : slice_get (at.begun ++ at.left) (length at.begun) ≡ Some one.said =
      ap (λ (s : List Command). slice_get s (length at.begun)) (sym at.script) ∙ ap (slice_get (script_of w.setup k)) (at.many ∙ idle) ∙ sym (command_is w k later) ∙ one.command in
      let rest : Follows at.left one.said = follows at.begun at.left one.said place in
      let whole : at.begun ++ at.left ≡ (at.begun ++ one.said ∷ []) ++ rest.rest = ap (λ (l : List Command). at.begun ++ l) rest.is ∙ sym (append_assoc at.begun (one.said ∷ []) rest.rest) in
      record {
        begun = at.begun ++ one.said ∷ [];
        left = rest.rest;
        script = ap (λ (s : Setup). script_of s k) (after_setup w k d) ∙ at.script ∙ whole;
        many = length-append at.begun (one.said ∷ []) ∙ ap (λ (n : ℕ). n + 1) at.many ∙ sym one.on.begun;
        most = λ x.
            subst (λ (n : ℕ). held_by (after w k d) k x ≤ n) (sym (behind_one 0 at.begun one.said x))
            (most_next h w k d may kept e counted (opens_left at.begun x) one.said one.reply x one.line later one.idle one.command (at.most x));
      }

  end_text : (k : ℕ) → next w k ≡ Does EndCaller → HoldsAtMostText w k → HoldsAtMostText (after w k EndCaller) k
  unfolding after printed
  end_text k e at =
      let ended : caller_at (after w k EndCaller) k ≡ record { over = (caller_at w k).over; doing = activity.Ended; stack = (caller_at w k).stack } = caller_here w k _ (doing_there w k EndCaller e) in
      same_text k k EndCaller (ap (λ (c : Caller). begun_by c.over c.doing) ended ∙ sym (ap (begun_by (caller_at w k).over) (end_idle w k kept e)))
      (λ x. stays_low h w k EndCaller may kept e counted (held_by w k x) act.End x refl refl (omega arith)) at

  own_text : (k : ℕ) (d : Deed) → k ≢ 0 → next w k ≡ Does d → HoldsAtMostText w k → HoldsAtMostText (after w k d) k
  own_text k d later e at = elim (kind_of w k kept d e) [
    | inl one ↦ next_text k d later e one at
    | inr others ↦ elim others [
      | inl none ↦ none_text k d e none at
      | inr end ↦ subst (λ (x : Deed). HoldsAtMostText (after w k x) k) (sym end) (end_text k (subst (λ (x : Deed). next w k ≡ Does x) end e) at)
    ]
  ]

  pub text_after : (j k : ℕ) (d : Deed) → k ≢ 0 → next w j ≡ Does d → HoldsAtMostText w k → HoldsAtMostText (after w j d) k
  text_after j k d later e at = cases (j == k) refl
    where
      cases : (b : Bool) → (j == k) ≡ b → HoldsAtMostText (after w j d) k
      cases true is =
          let same : j ≡ k = eqb-true j k is in
          subst (HoldsAtMostText (after w j d)) same (own_text j d (λ zero. later (sym same ∙ zero)) e (subst (HoldsAtMostText w) (sym same) at))
      cases false is = other_text j k d (λ same. clash (j == k) (eq-eqb j k same) is) e at

-- ---- before any event

opens_at : (scripts : List (List Command)) (k : ℕ) (c : Caller) → slice_index_or (map (λ (script : List Command). beginning []) scripts) k nobody ≡ c → begun_by c.over c.doing ≡ 0
opens_at [] k c e = rw (← e) refl
opens_at (x ∷ xs) zero c e = rw (← e) refl
opens_at (x ∷ xs) (suc k) c e = opens_at xs k c e

pub text_open : (s : Setup) (k : ℕ) → HoldsAtMostText (opening s) (suc k)
unfolding opening
text_open s k = record {
  begun = [];
  left = slice_index_or s.scripts k [];
  script = refl;
  many = sym (opens_at s.scripts k _ refl);
  most = λ x. omega arith;
}
