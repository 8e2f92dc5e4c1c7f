-- What a deed means for the leases of its caller: one device is held that was not, one no longer, or none of both.
use Rattle.std.proofs.Common.{◌≡◌, ◌≢◌, ◌==◌, ◌&&◌, ◌||◌, ℕ, Bool, true, false, not, nat_lt, List, [], ◌∷◌, find, Option, Some, None, refl, sym, ◌∙◌, ap, subst, eq-eqb}
use Rattle.std.specs.Prelude.{if◌then◌else◌}
use Rattle.run_rules.specs.References.{count_in}
use Rattle.std.specs.Option.{option_map_or}
use Rattle.std.proofs.Math.Bool.{and-not_self}
use Rattle.std.proofs.lemmas.Bool.{eqb-true}
use Rattle.run_rules.specs.declared.world.Dev.{Dev}
use Rattle.run_rules.specs.World.{World, device_at, is_held, is_live}
use Rattle.run_rules.specs.declared.deed.Deed.{Deed}
use Rattle.run_rules.specs.declared.deed.Deed.TheVariants.{Search, EndScan, BeginInterrupts, Finalise, EndCaller, Drop, Refuse, Open, Close, Start, Done, Detach, Free, Rescan, BeginPower, Sleep, Wake, EndPower, Plug, Unplug, Tell}
use Rattle.run_rules.specs.declared.deed.Choice.TheVariants.{Does}
use Rattle.run_rules.specs.Next.{next}
use Rattle.run_rules.specs.After.{after}
use Rattle.run_rules.proofs.Turns.{find_same}
use Rattle.run_sound.specs.Holding.{HoldsLess, HoldsMore, opened_by, returned_by}
use Rattle.run_sound.proofs.Holding.{holds_opened, holds_returned, holds_same}
use Rattle.run_sound.proofs.Spots.{other_way}
use Rattle.dev_board.specs.declared.answer.LeaseStep.{LeaseStep}
use Rattle.dev_board.specs.declared.answer.LeaseStep.TheVariants.{Keep, Take, Give}
use Rattle.dev_board.specs.Witness.{lease_step}
use Rattle.deed_effect.proofs.GoneLaws.{found_there}

find_never : (p : Dev → Bool) (live : List Dev) → ((d : Dev) → p d ≡ false) → find p live ≡ None
find_never p [] h = refl
find_never p (d ∷ ds) h = rw (h d) (find_never p ds h)

-- a live device is found, whatever the answer would be without it
found_either : (live : List Dev) (s : ℕ) (f : Dev → LeaseStep) (x y : LeaseStep) → is_live live s ≡ true → option_map_or f (device_at live s) x ≡ option_map_or f (device_at live s) y
found_either live s f x y h = cases (device_at live s) refl
  where
    cases : (o : Option Dev) → device_at live s ≡ o → option_map_or f o x ≡ option_map_or f o y
    cases (Some d) e = refl
    cases None e = absurd (found_there live s h e)

-- neither, where the references stay
pub lease_keeps : (w : World) (k : ℕ) (d : Deed) → opened_by d ≡ None → returned_by d ≡ None → lease_step w (after w k d) k ≡ Keep
unfolding lease_step
lease_keeps w k d a b =
    rw (
      find_never (λ (x : Dev). is_held (after w k d) k x.serial && not (is_held w k x.serial)) w.live
          (λ x. ap (λ (h : Bool). h && not (is_held w k x.serial)) (holds_same w k d a b k x.serial) ∙ and-not_self (is_held w k x.serial)),
      find_never (λ (x : Dev). is_held w k x.serial && not (is_held (after w k d) k x.serial)) w.live
          (λ x. ap (λ (h : Bool). is_held w k x.serial && not h) (holds_same w k d a b k x.serial) ∙ and-not_self (is_held w k x.serial)),
    ) refl

-- a device is held that was not
only_new : (s x : ℕ) (own : Bool) (held : Bool) → (s == x) ≡ own → (s ≡ x → held ≡ false) → ((own || held) && not held) ≡ (x == s)
only_new s x true held e free = let is : s ≡ x = eqb-true s x e in rw (free is) (sym (eq-eqb x s (sym is)))
only_new s x false held e free = and-not_self held ∙ sym (other_way s x e)

pub lease_takes : (w : World) (k s : ℕ) (sole : Bool) → next w k ≡ Does (Open s sole) → is_held w k s ≡ false → lease_step w (after w k (Open s sole)) k ≡ option_map_or (λ d. Take d.spot) (device_at w.live s) Keep
unfolding lease_step
lease_takes w k s sole e free =
    let more : HoldsMore w k (Open s sole) s = holds_opened w k s sole e in
    rw (find_same (λ (x : Dev). is_held (after w k (Open s sole)) k x.serial && not (is_held w k x.serial)) (λ (x : Dev). x.serial == s) w.live
    (λ x. ap (λ (h : Bool). h && not (is_held w k x.serial)) (more.holds x.serial) ∙ only_new s x.serial (s == x.serial) (is_held w k x.serial) refl (λ is. rw (← is) free)))
    (found_either w.live s (λ d. Take d.spot) _ Keep more.live)

-- where the same devices are held as before, nothing is taken or given back
same_keeps : (w v : World) (k : ℕ) → ((x : ℕ) → is_held v k x ≡ is_held w k x) → lease_step w v k ≡ Keep
unfolding lease_step
same_keeps w v k same =
    rw (
      find_never (λ (x : Dev). is_held v k x.serial && not (is_held w k x.serial)) w.live (λ x. ap (λ (h : Bool). h && not (is_held w k x.serial)) (same x.serial) ∙ and-not_self (is_held w k x.serial)),
      find_never (λ (x : Dev). is_held w k x.serial && not (is_held v k x.serial)) w.live (λ x. ap (λ (h : Bool). is_held w k x.serial && not h) (same x.serial) ∙ and-not_self (is_held w k x.serial)),
    ) refl

-- a further reference takes nothing
pub lease_has : (w : World) (k s : ℕ) (sole : Bool) → next w k ≡ Does (Open s sole) → is_held w k s ≡ true → lease_step w (after w k (Open s sole)) k ≡ Keep
lease_has w k s sole e held =
    let more : HoldsMore w k (Open s sole) s = holds_opened w k s sole e in
    same_keeps w (after w k (Open s sole)) k (λ x. more.holds x ∙ cases (s == x) x refl)
  where
    cases : (b : Bool) → (x : ℕ) → (s == x) ≡ b → (b || is_held w k x) ≡ is_held w k x
    cases true x h = sym (subst (λ y. is_held w k y ≡ true) (eqb-true s x h) held)
    cases false x h = refl

-- a device is held no longer
none_new : (own held : Bool) → ((if own then false else held) && not held) ≡ false
none_new true held = refl
none_new false held = and-not_self held

only_gone : (s x : ℕ) (own : Bool) (held : Bool) → (s == x) ≡ own → (s ≡ x → held ≡ true) → (held && not (if own then false else held)) ≡ (x == s)
only_gone s x true held e had = let is : s ≡ x = eqb-true s x e in rw (had is) (sym (eq-eqb x s (sym is)))
only_gone s x false held e had = and-not_self held ∙ sym (other_way s x e)

pub lease_gives : (w : World) (k s : ℕ) (d : Deed) → next w k ≡ Does d → returned_by d ≡ Some s → nat_lt 1 (count_in w.refs k s) ≡ false
    → lease_step w (after w k d) k ≡ option_map_or (λ d. Give d.spot) (device_at w.live s) Keep
unfolding lease_step
lease_gives w k s d e back last =
    let less : HoldsLess w k d s = holds_returned w k s d e back in
    let holds : (x : ℕ) → is_held (after w k d) k x ≡ (if s == x then false else is_held w k x) = λ x. less.holds x ∙ ap (λ (b : Bool). if s == x then b else is_held w k x) last in
    rw (
      find_never (λ (x : Dev). is_held (after w k d) k x.serial && not (is_held w k x.serial)) w.live
          (λ x. ap (λ (h : Bool). h && not (is_held w k x.serial)) (holds x.serial) ∙ none_new (s == x.serial) (is_held w k x.serial)),
      find_same (λ (x : Dev). is_held w k x.serial && not (is_held (after w k d) k x.serial)) (λ (x : Dev). x.serial == s) w.live
          (λ x. ap (λ (h : Bool). is_held w k x.serial && not h) (holds x.serial) ∙ only_gone s x.serial (s == x.serial) (is_held w k x.serial) refl (λ is. rw (← is) less.held)),
    ) refl

-- where more than one is held, the return of one gives nothing back
pub lease_stays : (w : World) (k s : ℕ) (d : Deed) → next w k ≡ Does d → returned_by d ≡ Some s → nat_lt 1 (count_in w.refs k s) ≡ true → lease_step w (after w k d) k ≡ Keep
lease_stays w k s d e back more =
    let less : HoldsLess w k d s = holds_returned w k s d e back in
    same_keeps w (after w k d) k (λ x. less.holds x ∙ ap (λ (b : Bool). if s == x then b else is_held w k x) more ∙ cases (s == x) x refl less.held)
  where
    cases : (b : Bool) (x : ℕ) → (s == x) ≡ b → is_held w k s ≡ true → (if b then true else is_held w k x) ≡ is_held w k x
    cases true x h held = sym (subst (λ y. is_held w k y ≡ true) (eqb-true s x h) held)
    cases false x h held = refl

-- what an open and a return mean, by what is held before
pub opens_step : (w : World) (k s : ℕ) (sole : Bool) → next w k ≡ Does (Open s sole)
    → lease_step w (after w k (Open s sole)) k ≡ (if is_held w k s then Keep else option_map_or (λ d. Take d.spot) (device_at w.live s) Keep)
opens_step w k s sole e = cases (is_held w k s) refl
  where
    cases : (b : Bool) → is_held w k s ≡ b → lease_step w (after w k (Open s sole)) k ≡ (if b then Keep else option_map_or (λ d. Take d.spot) (device_at w.live s) Keep)
    cases true h = lease_has w k s sole e h
    cases false h = lease_takes w k s sole e h

pub returns_step : (w : World) (k s : ℕ) (d : Deed) → next w k ≡ Does d → returned_by d ≡ Some s
    → lease_step w (after w k d) k ≡ (if nat_lt 1 (count_in w.refs k s) then Keep else option_map_or (λ d. Give d.spot) (device_at w.live s) Keep)
returns_step w k s d e back = cases (nat_lt 1 (count_in w.refs k s)) refl
  where
    cases : (b : Bool) → nat_lt 1 (count_in w.refs k s) ≡ b → lease_step w (after w k d) k ≡ (if b then Keep else option_map_or (λ d. Give d.spot) (device_at w.live s) Keep)
    cases true h = lease_stays w k s d e back h
    cases false h = lease_gives w k s d e back h

-- the deeds that open or close nothing
opens_none : (d : Deed) → ((s : ℕ) (sole : Bool) → d ≢ Open s sole) → opened_by d ≡ None
opens_none (Search p spot to got) a = refl
opens_none (EndScan p) a = refl
opens_none BeginInterrupts a = refl
opens_none (Finalise s shown got listed anew) a = refl
opens_none EndCaller a = refl
opens_none (Drop s) a = refl
opens_none (Refuse why) a = refl
opens_none (Open s sole) a = absurd (a s sole refl)
opens_none (Close s) a = refl
opens_none (Start ticket) a = refl
opens_none (Done ticket) a = refl
opens_none (Detach s) a = refl
opens_none (Free s) a = refl
opens_none (Rescan s only) a = refl
opens_none (BeginPower kind s) a = refl
opens_none (Sleep s) a = refl
opens_none (Wake s) a = refl
opens_none (EndPower end) a = refl
opens_none (Plug x) a = refl
opens_none (Unplug x of) a = refl
opens_none Tell a = refl

returns_none : (d : Deed) → ((s : ℕ) → d ≢ Close s) → ((s : ℕ) → d ≢ Drop s) → returned_by d ≡ None
returns_none (Search p spot to got) a b = refl
returns_none (EndScan p) a b = refl
returns_none BeginInterrupts a b = refl
returns_none (Finalise s shown got listed anew) a b = refl
returns_none EndCaller a b = refl
returns_none (Drop s) a b = absurd (b s refl)
returns_none (Refuse why) a b = refl
returns_none (Open s sole) a b = refl
returns_none (Close s) a b = absurd (a s refl)
returns_none (Start ticket) a b = refl
returns_none (Done ticket) a b = refl
returns_none (Detach s) a b = refl
returns_none (Free s) a b = refl
returns_none (Rescan s only) a b = refl
returns_none (BeginPower kind s) a b = refl
returns_none (Sleep s) a b = refl
returns_none (Wake s) a b = refl
returns_none (EndPower end) a b = refl
returns_none (Plug x) a b = refl
returns_none (Unplug x of) a b = refl
returns_none Tell a b = refl

pub deed_keeps : (w : World) (k : ℕ) (d : Deed) → ((s : ℕ) (sole : Bool) → d ≢ Open s sole) → ((s : ℕ) → d ≢ Close s) → ((s : ℕ) → d ≢ Drop s) → lease_step w (after w k d) k ≡ Keep
deed_keeps w k d a b c = lease_keeps w k d (opens_none d a) (returns_none d b c)
