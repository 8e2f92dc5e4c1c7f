use Rattle.std.proofs.Common.{◌≡◌, ◌∙◌, ◌-◌, ◌<◌, ◌≤◌, ◌==◌, ◌&&◌, ℕ, true, List, ap, sym, subst}
use Rattle.run_rules.specs.declared.world.Ref.{Ref}
use Rattle.run_rules.specs.World.{holds_in}
use Rattle.run_rules.specs.References.{given_back, is_of}
use Rattle.plain_world.specs.Tallies.{tally_at}
use Rattle.plain_world.proofs.Stands.{one_if}
use Rattle.plain_world.proofs.TallyLaws.{count_without, held_by_tally, none_by_tally, same_device, same_holder}
use Rattle.plain_world.proofs.refs.Refs.take_out.Goals as goal

pub invariant_of-self : goal.invariant_of-self
invariant_of-self c =
    let old = c.self.inside in
    let refs = old.refs.items in
    let k = c.args.caller in
    let of = c.args.of in
    let counted : c.count_at.result ≡ tally_at old.callers.items k of = c.count_at.ensures ∙ ap (λ (ts : List (List ℕ)). tally_at ts k of) c.deref.ensures.value in
    let held : holds_in refs k of ≡ true = held_by_tally refs old.devices old.callers.items k of c.self.invariant (subst (λ (n : ℕ). 0 < n) counted c.if-count_at-gt0.true) in
    rw c.take_first.ensures (record {
      by_all =
          λ s.
          c.leave.ensures s ∙ ap (λ (n : ℕ). n - one_if (of == s)) (c.self.invariant.by_all s)
          ∙ sym (count_without (is_of k of) (λ (r : Ref). r.serial == s) (of == s) refs held (same_device k of s));
      by_each =
          λ j s.
          c.leave_for.ensures j s ∙ ap (λ (n : ℕ). n - one_if (of == s && k == j)) (c.self.invariant.by_each j s)
          ∙ sym (count_without (is_of k of) (is_of j s) (of == s && k == j) refs held (same_holder k of j s));
    })

pub returns-else-count_at-gt0 : goal.returns-else-count_at-gt0
returns-else-count_at-gt0 c =
    let old = c.self.inside in
    let k = c.args.caller in
    let of = c.args.of in
    let counted : c.count_at.result ≡ tally_at old.callers.items k of = c.count_at.ensures ∙ ap (λ (ts : List (List ℕ)). tally_at ts k of) c.deref.ensures.value in
    subst (λ (rs : List Ref). rs ≡ given_back rs k of) c.self.view_is
    (none_by_tally old.refs.items old.devices old.callers.items k of c.self.invariant (subst (λ (n : ℕ). n ≤ 0) counted c.if-count_at-gt0.false))
