use Rattle.std.proofs.Common.{◌∙◌, ◌-◌, ◌==◌, ◌&&◌, ℕ, List, ap, sym}
use Rattle.std.specs.Prelude.{count_by}
use Rattle.run_rules.specs.After.{same_key}
use Rattle.run_rules.specs.declared.world.Deferred.{Deferred}
use Rattle.plain_world.proofs.TallyLaws.{count_kept}
use Rattle.plain_world.proofs.put_off.PutOff.forget.Goals as goal

pub invariant_of-self : goal.invariant_of-self
invariant_of-self c =
    let scans = c.self.inside.scans.items in
    let gone = λ (s : ℕ) (e : Deferred). same_key e.key c.args.which && e.child == s in
    rw c.take_out.ensures
    (λ s.
    c.uncount.ensures s ∙ ap (λ (n : ℕ). n - count_by (gone s) c.deref.result.now) (c.self.invariant s)
    ∙ ap (λ (es : List Deferred). count_by (λ (e : Deferred). e.child == s) scans - count_by (gone s) es) c.deref.ensures.value
    ∙ sym (count_kept (λ (e : Deferred). e.child == s) (λ (e : Deferred). same_key e.key c.args.which) scans))
