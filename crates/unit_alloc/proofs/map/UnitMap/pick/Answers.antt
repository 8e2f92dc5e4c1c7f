use Rattle.std.proofs.Common.{◌≡◌, ◌≤◌, ◌*◌, ◌+◌, ◌∙◌, ℕ, max, ap, subst, arith}
use Rattle.cf_types.specs.Gather.{is_in}
use Rattle.unit_alloc.specs.Taken.{IsLeastFree, is_set}
use Rattle.unit_alloc.proofs.BitmapLaws.{picked}
use Rattle.unit_alloc.proofs.FreeLaws.{all_pass}
use Rattle.unit_alloc.proofs.map.UnitMap.pick.Goals as goal

least_of : (c : goal.After-first_clear) → IsLeastFree (λ n. is_in n c.args.self.now) c.args.first c.first_clear.result
least_of c =
    let from : c.max-from.result ≡ max c.args.first (64 * c.self.inside.full) = c.max-from.ensures ∙ ap (λ n. max n (64 * c.self.inside.full)) c.from.ensures in
    picked c.self.inside.words.items c.args.self.now c.self.inside.full c.args.first c.first_clear.result c.self.invariant c.self.view_is
    (subst (λ (n : ℕ). IsLeastFree (is_set c.self.inside.words.items) n c.first_clear.result) from (rw (← c.deref.ensures.value) c.first_clear.ensures))

pub overflow_cast-result : goal.overflow_cast-result
overflow_cast-result c =
    let least = least_of c in
    let few : c.first_clear.result ≤ _ + c.args.first = all_pass (λ n. is_in n c.args.self.now) c.args.first c.first_clear.result (λ k low high. least.least k low high) in
    omega (arith, few, c.requires.few c.first_clear.result, c.requires.first)

pub returns : goal.returns
returns c = least_of c
