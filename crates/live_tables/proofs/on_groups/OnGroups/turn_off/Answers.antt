use Rattle.std.proofs.Common.{◌≡◌, ◌≢◌, ◌∙◌, ◌==◌, refl, ℕ, ◌<◌, List, ap, subst, sym, arith, length, set, false, not}
use Rattle.std.proofs.lemmas.List.{length-set}
use Rattle.run_rules.specs.Sound.{EachLater}
use Rattle.run_rules.specs.World.{has}
use Rattle.run_sound.proofs.Callers.{all_filter}
use Rattle.run_sound.proofs.Members.{later_passed}
use Rattle.live_tables.specs.Groups.{Switches}
use Rattle.live_tables.proofs.GroupLaws.{filter_reversed, marked_less}
use Rattle.live_tables.proofs.on_groups.OnGroups.turn_off.Goals as goal

pub invariant_of-self : goal.invariant_of-self
invariant_of-self c =
    let it = c.self.inside in
    let g = c.args.group in
    let there : g < length it.marks.items = omega (arith, c.requires.there, ap (λ (s : Switches). s.count) c.self.view_is) in
    let same : length (set it.marks.items g false) ≡ length it.marks.items = length-set it.marks.items g false in
    record {
      marked = λ h. marked_less it.marks.items it.list.items g there c.self.invariant.marked h ∙ ap (λ (l : List ℕ). has l h) (sym c.take_out.ensures.items);
      once = subst (EachLater (λ h k. h ≢ k)) (sym c.take_out.ensures.items) (later_passed (λ h k. h ≢ k) (λ (h : ℕ). not (h == g)) it.list.items c.self.invariant.once);
      there = rw (c.take_out.ensures.items, same) (all_filter (λ (h : ℕ). h < length it.marks.items) (λ h. not (h == g)) it.list.items c.self.invariant.there);
      room = omega (arith, same, c.self.invariant.room, c.take_out.ensures.capacity);
    }

pub returns : goal.returns
returns c =
    let it = c.self.inside in
    rw (← c.self.view_is, c.take_out.ensures.items, filter_reversed (λ (h : ℕ). not (h == c.args.group)) it.list.items, length-set it.marks.items c.args.group false) refl
