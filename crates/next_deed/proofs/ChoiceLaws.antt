-- What keeps devices from going, and which device is found.
use Rattle.std.proofs.Common.{◌≡◌, ◌<◌, ◌||◌, ◌&&◌, ◌==◌, not, ℕ, ◌+◌, Bool, true, false, cond, List, [], ◌∷◌, ◌++◌, length, get_or, take, map, filter, find, Option, Some, None, refl, sym, ap, ◌∙◌, eq-eqb, ne_eqb, arith}
use Rattle.std.specs.Prelude.{IsTrue}
use Rattle.std.specs.List.{AllByRecursion, Contains, list_any}
use Rattle.std.specs.Option.{option_map_or}
use Rattle.std.proofs.lemmas.List.Folds.{list_any-append, list_any_more}
use Rattle.run_rules.specs.declared.world.Deferred.{Deferred}
use Rattle.run_rules.specs.declared.world.Dev.{Dev}
use Rattle.run_rules.specs.declared.world.Setup.{Setup}
use Rattle.run_rules.specs.World.{World, device_at, device_on, frame_serial, has, holds_in, is_live, is_pinned, is_under, policy_of, serial_of}
use Rattle.run_rules.specs.declared.deed.CommandRefusal.TheVariants.{Busy}
use Rattle.run_rules.specs.declared.deed.Deed.{Deed}
use Rattle.run_rules.specs.declared.deed.Deed.TheVariants.{Refuse, Drop, EndCaller, Unplug}
use Rattle.run_rules.specs.declared.deed.Choice.TheVariants.{Does}
use Rattle.run_rules.specs.Next.{closing, first_held, hindered, next_sleep, unless_hindered, unplugging}
use Rattle.run_rules.specs.Sound.{EachLater, IsApart}
use Rattle.run_rules.proofs.Devices.{all_both, all_imp}
use Rattle.run_sound.specs.Kept.{Kept}
use Rattle.run_sound.proofs.Members.{contained_live, found_contained, found_from_end}
use Rattle.run_rules.proofs.Order.{device_found}
use Rattle.ref_ledger.specs.Refs.{IsLeastHeld}
use Rattle.ref_ledger.proofs.HeldLaws.{first_held_is}
use Rattle.detach_engine.specs.Hindrance.{AreMarksOf, Marked, hindrance}
use Rattle.detach_engine.proofs.MarkLaws.{hindered_is}
use Rattle.next_deed.specs.Choices.{serials_where}
use Rattle.run_world.specs.declared.caller.CallerState.{CallerState}
use Rattle.run_world.specs.declared.parts.Core.{Core}
use Rattle.run_world.specs.View.{callers_of, world_of}

-- ---- pins

framed_is : (cs : List CallerState) (s : ℕ) → list_any (λ c. list_any (λ f. frame_serial f == s) c.stack.frames) cs ≡ list_any (λ c. list_any (λ f. frame_serial f == s) c.stack) (callers_of cs)
framed_is [] s = refl
framed_is (c ∷ cs) s = ap (λ b. list_any (λ f. frame_serial f == s) c.stack.frames || b) (framed_is cs s)

pins_are : (s : Setup) (c : Core) (x : ℕ)
    → is_pinned (world_of s c) x ≡ (list_any (λ c. list_any (λ f. frame_serial f == x) c.stack.frames) c.callers.items || list_any (λ e. e.child == x) c.deferred)
unfolding is_pinned
pins_are s c x = ap (λ b. b || list_any (λ e. e.child == x) c.deferred) (sym (framed_is c.callers.items x))

pub pinned_framed : (s : Setup) (c : Core) (x : ℕ) (cs : List CallerState) (framed : Bool) → cs ≡ c.callers.items → framed ≡ list_any (λ c. list_any (λ f. frame_serial f == x) c.stack.frames) cs → framed ≡ true
    → framed ≡ is_pinned (world_of s c) x
pinned_framed s c x cs framed same is on =
    on ∙ sym (pins_are s c x ∙ ap (λ b. b || list_any (λ e. e.child == x) c.deferred) (ap (list_any (λ c. list_any (λ f. frame_serial f == x) c.stack.frames)) (sym same) ∙ sym is ∙ on))

pub pinned_put_off : (s : Setup) (c : Core) (x : ℕ) (cs : List CallerState) (framed put : Bool) → cs ≡ c.callers.items → framed ≡ list_any (λ c. list_any (λ f. frame_serial f == x) c.stack.frames) cs → framed ≡ false
    → put ≡ list_any (λ e. e.child == x) c.deferred → put ≡ is_pinned (world_of s c) x
pinned_put_off s c x cs framed put same is off put_is =
    put_is ∙ sym (pins_are s c x ∙ ap (λ b. b || list_any (λ e. e.child == x) c.deferred) (ap (list_any (λ c. list_any (λ f. frame_serial f == x) c.stack.frames)) (sym same) ∙ sym is ∙ off))

-- the serials of one more caller's frames
pub pins_more : (cs : List CallerState) (i x : ℕ) (c : CallerState) (old new : List ℕ) → i < length cs → c ≡ get_or cs i c
    → has old x ≡ list_any (λ c. list_any (λ f. frame_serial f == x) c.stack.frames) (take i cs) → has new x ≡ (has old x || list_any (λ f. frame_serial f == x) c.stack.frames)
    → has new x ≡ list_any (λ c. list_any (λ f. frame_serial f == x) c.stack.frames) (take (i + 1) cs)
pins_more cs i x c old new lt is so_far more =
    more ∙ ap (λ b. b || list_any (λ f. frame_serial f == x) c.stack.frames) so_far
    ∙ ap (λ (d : CallerState). list_any (λ c. list_any (λ f. frame_serial f == x) c.stack.frames) (take i cs) || list_any (λ f. frame_serial f == x) d.stack.frames) is
    ∙ sym (list_any_more (λ (c : CallerState). list_any (λ f. frame_serial f == x) c.stack.frames) cs i c lt)

any_child : (x : ℕ) (es : List Deferred) → has (map (λ e. e.child) es) x ≡ list_any (λ e. e.child == x) es
any_child x [] = refl
any_child x (e ∷ es) = ap (λ b. e.child == x || b) (any_child x es)

-- with those of the scans that were put off they are the serials of all that is pinned
pub pinned_all : (s : Setup) (c : Core) (x : ℕ) (cs : List CallerState) (old new : List ℕ) → cs ≡ c.callers.items
    → has old x ≡ list_any (λ c. list_any (λ f. frame_serial f == x) c.stack.frames) cs → new ≡ old ++ map (λ e. e.child) c.deferred → has new x ≡ is_pinned (world_of s c) x
pinned_all s c x cs old new same so_far e =
    ap (λ xs. has xs x) e ∙ list_any-append (λ y. y == x) old (map (λ e. e.child) c.deferred)
    ∙ ap (λ b. b || has (map (λ e. e.child) c.deferred) x) (so_far ∙ ap (list_any (λ c. list_any (λ f. frame_serial f == x) c.stack.frames)) same)
    ∙ ap (λ b. list_any (λ c. list_any (λ f. frame_serial f == x) c.stack.frames) c.callers.items || b) (any_child x c.deferred)
    ∙ sym (pins_are s c x)

-- ---- what is found has its own serial

later_all : (s : Setup) (live : List Dev) → EachLater (IsApart s) live → EachLater (λ d e. d.serial < e.serial) live
later_all s [] h = tt
later_all s (d ∷ ds) h = (all_imp (IsApart s d) (λ e. d.serial < e.serial) (λ e a. a.later) ds h.0, later_all s ds h.1)

pub serials_rise : (w : World) → Kept w → EachLater (λ d e. d.serial < e.serial) w.live
serials_rise w kept = later_all w.setup w.live kept.sound.devices.apart

at_own : (live : List Dev) (d : Dev) → EachLater (λ d e. d.serial < e.serial) live → Contains live d → device_at live d.serial ≡ Some d
at_own live d later there = device_found live there.0 d.serial d later there.1 (ap (λ (e : Dev). e.serial) there.2) ∙ ap Some there.2

pub at_found : (w : World) (p : Dev → Bool) (d : Dev) → Kept w → find p w.live ≡ Some d → device_at w.live d.serial ≡ Some d
at_found w p d kept e = at_own w.live d (serials_rise w kept) (found_contained p w.live d e)

-- of a suspension: the device that sleeps next
pub sleeper_there : (live : List Dev) (target : ℕ) (d : Dev) → EachLater (λ d e. d.serial < e.serial) live → next_sleep live target ≡ Some d → device_at live d.serial ≡ Some d
unfolding next_sleep
sleeper_there live target d later e = at_own live d later (found_from_end (λ d. not d.asleep && is_under live target d.serial) live d e)

pub sleeper_is : (live : List Dev) (target s : ℕ) → EachLater (λ d e. d.serial < e.serial) live → Some s ≡ serial_of (next_sleep live target) → next_sleep live target ≡ device_at live s
sleeper_is live target s later e = cases (next_sleep live target) refl e
  where
    cases : (o : Option Dev) → next_sleep live target ≡ o → Some s ≡ serial_of o → o ≡ device_at live s
    cases None h is = absurd cc
    cases (Some d) h is = let same : d.serial ≡ s = cc in sym (sleeper_there live target d later h) ∙ ap (device_at live) same

-- ---- marks

none_marked : (p : Dev → Bool) (live : List Dev) (s : ℕ) → AllByRecursion (λ e. s < e.serial) live → has (serials_where p live) s ≡ false
none_marked p [] s h = refl
none_marked p (d ∷ ds) s h = cases (p d) (none_marked p ds s h.1)
  where
    cases : (b : Bool) → has (serials_where p ds) s ≡ false → has (map (λ e. e.serial) (cond b (d ∷ filter p ds) (filter p ds))) s ≡ false
    cases true rest = rw (ne_eqb d.serial s (λ e. omega (arith, e, h.0))) rest
    cases false rest = rest

-- whether the first of them is marked
first_marked : (p : Dev → Bool) (d : Dev) (ds : List Dev) → AllByRecursion (λ e. d.serial < e.serial) ds → has (serials_where p (d ∷ ds)) d.serial ≡ p d
first_marked p d ds h = cases (p d) (none_marked p ds d.serial h)
  where
    cases : (b : Bool) → has (serials_where p ds) d.serial ≡ false → has (map (λ e. e.serial) (cond b (d ∷ filter p ds) (filter p ds))) d.serial ≡ b
    cases true rest = rw (eq-eqb d.serial d.serial refl) refl
    cases false rest = rest

-- the first of them is no other one
skip_marked : (p : Dev → Bool) (d : Dev) (ds : List Dev) (s : ℕ) → d.serial < s → has (serials_where p (d ∷ ds)) s ≡ has (serials_where p ds) s
skip_marked p d ds s lt = cases (p d)
  where
    cases : (b : Bool) → has (map (λ e. e.serial) (cond b (d ∷ filter p ds) (filter p ds))) s ≡ has (serials_where p ds) s
    cases true = rw (ne_eqb d.serial s (λ e. omega (arith, e, lt))) refl
    cases false = refl

pub each_marked : (p : Dev → Bool) (live : List Dev) → EachLater (λ d e. d.serial < e.serial) live → AllByRecursion (λ d. has (serials_where p live) d.serial ≡ p d) live
each_marked p [] later = tt
each_marked p (d ∷ ds) later = (
  first_marked p d ds later.0,
  all_both (λ e. d.serial < e.serial) (λ e. has (serials_where p ds) e.serial ≡ p e) (λ e. has (serials_where p (d ∷ ds)) e.serial ≡ p e)
      (λ e lt is. skip_marked p d ds e.serial lt ∙ is) ds later.0 (each_marked p ds later.1),
)

all_of : (P : Dev → Type 0) (ds : List Dev) → ((d : Dev) → P d) → AllByRecursion P ds
all_of P [] h = tt
all_of P (d ∷ ds) h = (h d, all_of P ds h)

pub marks_are : (w : World) (m : Marked) (target : ℕ) (forced : Bool) → Kept w
    → ((x : ℕ) → has m.pinned x ≡ is_pinned w x) → ((x : ℕ) → has m.undetachable x ≡ has (serials_where (λ d. (policy_of w.setup d.row).nodetach) w.live) x) → AreMarksOf w target forced m
marks_are w m target forced kept pinned undetachable =
    record {
      pinned = all_of (λ d. IsTrue (is_under w.live target d.serial) → has m.pinned d.serial ≡ is_pinned w d.serial) w.live (λ d under. pinned d.serial);
      undetachable = λ may. all_imp (λ (d : Dev). has (serials_where (λ e. (policy_of w.setup e.row).nodetach) w.live) d.serial ≡ (policy_of w.setup d.row).nodetach)
          (λ d. IsTrue (is_under w.live target d.serial) → has m.undetachable d.serial ≡ (policy_of w.setup d.row).nodetach)
          (λ d is under. undetachable d.serial ∙ is) w.live (each_marked (λ d. (policy_of w.setup d.row).nodetach) w.live (serials_rise w kept));
    }

pub hindered_by : (w : World) (m : Marked) (s k : ℕ) (forced : Bool) → AreMarksOf w s forced m → serial_of (hindrance w.live w.refs m s k forced) ≡ serial_of (hindered w s k forced)
hindered_by w m s k forced are = ap serial_of (hindered_is w m s k forced are)

-- ---- who is in the way, by its serial

pub busy_with : (w : World) (k s x : ℕ) (forced : Bool) (deed : Deed) → Some x ≡ serial_of (hindered w s k forced) → unless_hindered w k s forced deed ≡ Refuse (Busy x)
busy_with w k s x forced deed e = cases (hindered w s k forced) e
  where
    cases : (o : Option Dev) → Some x ≡ serial_of o → option_map_or (λ (d : Dev). Refuse (Busy d.serial)) o deed ≡ Refuse (Busy x)
    cases None is = absurd cc
    cases (Some d) is = let same : d.serial ≡ x = cc in ap (λ n. Refuse (Busy n)) same

-- ---- what stands on a spot, by its serial

pub stands_live : (live : List Dev) (x s : ℕ) → Some s ≡ serial_of (device_on live x) → IsTrue (is_live live s)
stands_live live x s e = cases (device_on live x) refl e
  where
    cases : (o : Option Dev) → device_on live x ≡ o → Some s ≡ serial_of o → is_live live s ≡ true
    cases None h is = absurd cc
    cases (Some d) h is = let same : s ≡ d.serial = cc in ap (is_live live) same ∙ contained_live live d (found_contained (λ d. d.spot == x) live d h)

pub unplugs : (w : World) (k x s : ℕ) → Some s ≡ serial_of (device_on w.live x) → unplugging w k x ≡ unless_hindered w k s true (Unplug x (Some s))
unplugs w k x s e = cases (device_on w.live x) e
  where
    cases : (o : Option Dev) → Some s ≡ serial_of o
        → option_map_or (λ d. unless_hindered w k d.serial true (Unplug x (Some d.serial))) o (Unplug x None) ≡ unless_hindered w k s true (Unplug x (Some s))
    cases None is = absurd cc
    cases (Some d) is = let same : d.serial ≡ s = cc in ap (λ n. unless_hindered w k n true (Unplug x (Some n))) same

-- ---- after the last command

abbrev RefsLive : World → Type 0
RefsLive w = AllByRecursion (λ r. IsTrue (is_live w.live r.serial)) w.refs

closes : (w : World) (k : ℕ) (o : Option ℕ) → o ≡ serial_of (first_held w k) → closing w k ≡ option_map_or (λ s. Does (Drop s)) o (Does EndCaller)
closes w k o is = cases (first_held w k) o is
  where
    cases : (d : Option Dev) (o : Option ℕ) → o ≡ serial_of d → option_map_or (λ (d : Dev). Does (Drop d.serial)) d (Does EndCaller) ≡ option_map_or (λ s. Does (Drop s)) o (Does EndCaller)
    cases None None e = refl
    cases None (Some s) e = absurd cc
    cases (Some d) None e = absurd cc
    cases (Some d) (Some s) e = let same : d.serial ≡ s = cc in ap (λ n. Does (Drop n)) same

pub closing_drops : (w : World) (k s : ℕ) → EachLater (λ d e. d.serial < e.serial) w.live → RefsLive w → IsLeastHeld w.refs k s → closing w k ≡ Does (Drop s)
closing_drops w k s later lives least = closes w k (Some s) (first_held_is w k (Some s) later lives least)

pub closing_ends : (w : World) (k : ℕ) → EachLater (λ d e. d.serial < e.serial) w.live → RefsLive w → ((s : ℕ) → holds_in w.refs k s ≡ false) → closing w k ≡ Does EndCaller
closing_ends w k later lives none = closes w k None (first_held_is w k None later lives none)
