-- What a removal leaves.
use Rattle.std.proofs.Common.{◌≡◌, ◌≢◌, ◌<◌, ℕ, Bool, true, false, not, ◌||◌, ◌==◌, cond, List, [], ◌∷◌, Option, Some, None, refl, sym, ap, ◌∙◌, subst, arith, eqb-true}
use Rattle.std.specs.Prelude.{filter, ◌↔◌}
use Rattle.std.specs.List.{AllByRecursion, Contains}
use Rattle.std.proofs.lemmas.Bool.{not-true, or_right, ne_eqb}
use Rattle.run_rules.specs.declared.world.Dev.{Dev}
use Rattle.run_rules.specs.World.{has}
use Rattle.run_rules.specs.Sound.{EachLater, IsApart, IsPlaced}
use Rattle.run_rules.proofs.Devices.{all_imp}
use Rattle.run_sound.proofs.Callers.{clash}
use Rattle.run_sound.proofs.Members.{any_passed, later_passed}
use Rattle.live_rules.specs.declared.plan.LiveReply.TheVariants as reply
use Rattle.live_rules.specs.Live.{Answer, LiveWorld, LiveSite, after, doomed, freed, hinders, is_doomed, is_in, is_known, opening, remove, remove_unless, removed, spared}
use Rattle.live_rules.specs.Laws.{Frees, IsSound, RemovesFree}
use Rattle.live_rules.proofs.Doomed.{after_parents, doomed_device}
use Rattle.live_rules.proofs.Kept.{removed_sound, stays_sound}
use Rattle.live_rules.proofs.Lists.{filter_in, filter_out, later_reversed, reverse_in, reverse_out}

-- ---- groups

any_filtered : (q : ℕ → Bool) (on : List ℕ) (h : ℕ) → has (filter q on) h ≡ true → has on h ≡ true
any_filtered q [] h k = absurd cc
any_filtered q (x ∷ on) h k = cases (λ e. any_filtered q on h e) (q x) k
  where
    more : (has (filter q on) h ≡ true → has on h ≡ true) → (b : Bool) → (b || has (filter q on) h) ≡ true → (b || has on h) ≡ true
    more rest true e = refl
    more rest false e = rest e

    cases : (has (filter q on) h ≡ true → has on h ≡ true) → (b : Bool) → has (cond b (x ∷ filter q on) (filter q on)) h ≡ true → ((x == h) || has on h) ≡ true
    cases rest true e = more rest (x == h) e
    cases rest false e = or_right (x == h) (has on h) (rest e)

none_filtered : (g : ℕ) (on : List ℕ) → has (filter (λ y. not (y == g)) on) g ≡ false
none_filtered g [] = refl
none_filtered g (x ∷ on) = cases (none_filtered g on) (x == g) refl
  where
    cases : has (filter (λ y. not (y == g)) on) g ≡ false → (b : Bool) → (x == g) ≡ b → has (cond (not b) (x ∷ filter (λ y. not (y == g)) on) (filter (λ y. not (y == g)) on)) g ≡ false
    cases rest true e = rest
    cases rest false e = rw e rest

group_left : (on : List ℕ) (g h : ℕ) → has (filter (λ y. not (y == g)) on) h ≡ true ↔ ((has on h ≡ true) × (h ≢ g))
group_left on g h = (
  λ k. (any_filtered (λ y. not (y == g)) on h k, λ same. clash (has (filter (λ y. not (y == g)) on) g) (subst (λ (i : ℕ). has (filter (λ y. not (y == g)) on) i ≡ true) same k) (none_filtered g on)),
  λ both. any_passed (λ y. y == h) (λ y. not (y == g)) on (λ y at. ap not (ne_eqb y g (λ e. both.1 (sym (eqb-true y h at) ∙ e)))) both.0,
)

-- ---- devices

negated : (b : Bool) → b ≡ false → not b ≡ true
negated b e = rw e refl

left_is : (t : LiveSite) (w : LiveWorld) (g : ℕ) (d : Dev) → Contains (spared t w g) d ↔ (Contains w.live d × (is_doomed t w.live g d.serial ≡ false))
unfolding spared
left_is t w g d = (
  λ here. let both = filter_out (λ (e : Dev). not (is_doomed t w.live g e.serial)) w.live d here in (both.0, not-true (is_doomed t w.live g d.serial) both.1),
  λ both. filter_in (λ (e : Dev). not (is_doomed t w.live g e.serial)) w.live d both.0 (negated (is_doomed t w.live g d.serial) both.1),
)

gone_is : (t : LiveSite) (w : LiveWorld) (g : ℕ) (d : Dev) → Contains (freed t w g) d ↔ (Contains w.live d × (is_doomed t w.live g d.serial ≡ true))
unfolding freed doomed
gone_is t w g d = (
  λ here. filter_out (λ (e : Dev). is_doomed t w.live g e.serial) w.live d (reverse_out (filter (λ (e : Dev). is_doomed t w.live g e.serial) w.live) d here),
  λ both. reverse_in (filter (λ (e : Dev). is_doomed t w.live g e.serial) w.live) d (filter_in (λ (e : Dev). is_doomed t w.live g e.serial) w.live d both.0 both.1),
)

pub child_doomed : (t : LiveSite) (w : LiveWorld) (g : ℕ) (d e : Dev) → IsSound t w → Contains w.live e → e.parent ≡ d.serial → is_doomed t w.live g d.serial ≡ true → is_doomed t w.live g e.serial ≡ true
child_doomed t w g d e h there child k =
    doomed_device t w.live w.next g e h.devices there ∙ or_right (is_in t g e.row) (is_doomed t w.live g e.parent) (ap (λ (n : ℕ). is_doomed t w.live g n) child ∙ k)

-- an earlier device is no child of a later one
no_later_parent : (t : LiveSite) (live : List Dev) → EachLater (IsApart t.setup) live → AllByRecursion (λ (d : Dev). d.parent < d.serial) live → EachLater (λ (d e : Dev). d.parent ≢ e.serial) live
no_later_parent t [] h p = tt
no_later_parent t (d ∷ ds) h p =
    (all_imp (IsApart t.setup d) (λ (e : Dev). d.parent ≢ e.serial) (λ e a same. let less : d.parent < d.serial = p.0 in absurd (omega (arith, a.later, less, same))) ds h.0, no_later_parent t ds h.1 p.1)

children_before : (t : LiveSite) (w : LiveWorld) (g : ℕ) → IsSound t w → EachLater (λ (d e : Dev). e.parent ≢ d.serial) (freed t w g)
unfolding freed doomed
children_before t w g h =
    later_reversed (λ (d e : Dev). d.parent ≢ e.serial) (filter (λ (d : Dev). is_doomed t w.live g d.serial) w.live)
    (later_passed (λ (d e : Dev). d.parent ≢ e.serial) (λ (d : Dev). is_doomed t w.live g d.serial) w.live
    (no_later_parent t w.live h.devices.apart (after_parents t.setup w.live w.next h.devices)))

parents_live : (t : LiveSite) (v : LiveWorld) → IsSound t v → AllByRecursion (λ (d : Dev). is_known v d.parent ≡ true) v.live
parents_live t v h = all_imp (IsPlaced v.live v.next) (λ (d : Dev). is_known v d.parent ≡ true) (λ d p. p.parent_live) v.live h.devices.placed

-- ---- the answer

frees : (t : LiveSite) (w : LiveWorld) (g : ℕ) → IsSound t w → Frees t w g (remove_unless t w g None)
unfolding remove_unless removed
frees t w g h = record {
  left = λ d. left_is t w g d;
  next = refl;
  on = λ k. group_left w.on g k;
  told = refl;
  gone = λ d. gone_is t w g d;
  children_too = λ d e here there child k. child_doomed t w g d e h there child k;
  children_first = children_before t w g h;
  parents = parents_live t (removed t w g) (removed_sound t w g h);
}

busy : (t : LiveSite) (w : LiveWorld) (g : ℕ) (d : Dev) → (remove_unless t w g (Some d)).reply ≡ reply.Ok → ⊥
unfolding remove_unless
busy t w g d e = absurd cc

unless_frees : (t : LiveSite) (w : LiveWorld) (g : ℕ) (o : Option Dev) → IsSound t w → (remove_unless t w g o).reply ≡ reply.Ok → Frees t w g (remove_unless t w g o)
unless_frees t w g None h k = frees t w g h
unless_frees t w g (Some d) h k = absurd (busy t w g d k)

pub remove_frees : (t : LiveSite) (w : LiveWorld) (g : ℕ) → IsSound t w → (remove t w g).reply ≡ reply.Ok → Frees t w g (remove t w g)
unfolding remove
remove_frees t w g h = cases (has w.on g)
  where
    off : Answer
    off = record { reply = reply.OffAlready; lines = []; world = w }

    cases : (b : Bool) → (cond b (remove_unless t w g (hinders t w g)) off).reply ≡ reply.Ok → Frees t w g (cond b (remove_unless t w g (hinders t w g)) off)
    cases true k = unless_frees t w g (hinders t w g) h k
    cases false k = absurd cc

pub removes_free : RemovesFree
removes_free t cs g k = remove_frees t (after t opening cs) g (stays_sound t cs) k
