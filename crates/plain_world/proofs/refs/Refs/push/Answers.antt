use Rattle.std.proofs.Common.{◌∙◌, ◌+◌, ◌==◌, ℕ, ap, sym, arith}
use Rattle.std.proofs.lemmas.List.Sums.{count_by-le-length}
use Rattle.run_rules.specs.declared.world.Ref.{Ref}
use Rattle.run_rules.specs.References.{is_of}
use Rattle.run_rules.proofs.References.{count_granted}
use Rattle.plain_world.proofs.Stands.{one_if}
use Rattle.plain_world.proofs.TallyLaws.{refs_to_more}
use Rattle.plain_world.proofs.refs.Refs.push.Goals as goal

pub enter-requires : goal.enter-requires
enter-requires c =
    let old = c.self.inside.refs in
    let s = c.args.held.serial in
    let same = old.ok.0 in
    let low = old.ok.1 in
    let within = old.small in
    record {
      reached = c.in_ok-reach.ensures.ok;
      low = omega (arith, c.in_ok-reach.ensures.same s, c.self.invariant.by_all s, count_by-le-length (λ (r : Ref). r.serial == s) old.items, same, low, within);
    }

pub enter_for-requires : goal.enter_for-requires
enter_for-requires c =
    let old = c.self.inside.refs in
    let k = c.args.held.caller in
    let s = c.args.held.serial in
    let same = old.ok.0 in
    let low = old.ok.1 in
    let within = old.small in
    record {
      room = c.in_ok-reach_for.ensures.ok;
      low = omega (arith, c.in_ok-reach_for.ensures.same k s, c.self.invariant.by_each k s, count_by-le-length (is_of k s) old.items, same, low, within);
    }

pub invariant_of-self-2 : goal.invariant_of-self-2
invariant_of-self-2 c =
    let old = c.self.inside.refs.items in
    let held = c.args.held in
    rw c.in_ok-push.ensures.items (record {
      by_all =
          λ s.
          c.enter.ensures s ∙ ap (λ (n : ℕ). n + one_if (held.serial == s)) (c.in_ok-reach.ensures.same s ∙ c.self.invariant.by_all s)
          ∙ sym (refs_to_more old held s);
      by_each =
          λ k s.
          c.enter_for.ensures k s ∙ ap (λ (n : ℕ). n + one_if (is_of k s held)) (c.in_ok-reach_for.ensures.same k s ∙ c.self.invariant.by_each k s)
          ∙ sym (count_granted old held k s);
    })
