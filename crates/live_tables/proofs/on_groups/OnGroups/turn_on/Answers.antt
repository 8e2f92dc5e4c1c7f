use Rattle.std.proofs.Common.{◌≡◌, ◌≢◌, ◌∙◌, refl, ℕ, ◌<◌, ◌∷◌, [], List, ap, subst, sym, arith, length, set, false, true}
use Rattle.std.proofs.lemmas.List.{length-set, reverse-append}
use Rattle.run_rules.specs.World.{has}
use Rattle.run_rules.proofs.Devices.{all_snoc}
use Rattle.run_rules.specs.Sound.{EachLater}
use Rattle.live_tables.specs.Groups.{Switches}
use Rattle.live_tables.proofs.GroupLaws.{has_reversed, has_room, marked_more, once_more}
use Rattle.live_tables.proofs.on_groups.OnGroups.turn_on.Goals as goal

pub push_reserved-requires : goal.push_reserved-requires
push_reserved-requires c =
    let it = c.self.inside in
    let off : has it.list.items c.args.group ≡ false = sym (has_reversed it.list.items c.args.group) ∙ ap (λ (s : Switches). has s.on c.args.group) c.self.view_is ∙ c.requires.off in
    omega (arith, it.list.ok.0, ap (λ (s : Switches). s.count) c.self.view_is, has_room it.list.items (length it.marks.items) c.args.group off (omega (arith, c.requires.there, ap (λ (s : Switches). s.count) c.self.view_is)) c.self.invariant.once c.self.invariant.there, c.self.invariant.room)

pub invariant_of-self : goal.invariant_of-self
invariant_of-self c =
    let it = c.self.inside in
    let g = c.args.group in
    let off : has it.list.items g ≡ false = sym (has_reversed it.list.items g) ∙ ap (λ (s : Switches). has s.on g) c.self.view_is ∙ c.requires.off in
    let there : g < length it.marks.items = omega (arith, c.requires.there, ap (λ (s : Switches). s.count) c.self.view_is) in
    let same : length (set it.marks.items g true) ≡ length it.marks.items = length-set it.marks.items g true in
    record {
      marked = λ h. marked_more it.marks.items it.list.items g there c.self.invariant.marked h ∙ ap (λ (l : List ℕ). has l h) (sym c.push_reserved.ensures.items);
      once = subst (EachLater (λ h k. h ≢ k)) (sym c.push_reserved.ensures.items) (once_more it.list.items g off c.self.invariant.once);
      there = rw (c.push_reserved.ensures.items, same) (all_snoc (λ (h : ℕ). h < length it.marks.items) it.list.items g c.self.invariant.there there);
      room = omega (arith, same, c.self.invariant.room, c.push_reserved.ensures.capacity);
    }

pub returns : goal.returns
returns c =
    let it = c.self.inside in
    rw (← c.self.view_is, c.push_reserved.ensures.items, reverse-append it.list.items (c.args.group ∷ []), length-set it.marks.items c.args.group true) refl
