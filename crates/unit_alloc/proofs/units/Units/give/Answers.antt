use Rattle.std.proofs.Common.{◌≡◌, ◌<◌, ◌∙◌, List, ℕ, [], ap, subst, length, slice_index_or, slice_set, arith}
use Rattle.std.proofs.lemmas.List.{get_or_default}
use Rattle.unit_alloc.specs.Taken.{GivenBack}
use Rattle.unit_alloc.proofs.TakenLaws.{given_by}
use Rattle.unit_alloc.proofs.units.Units.give.Goals as goal

pub returns : goal.returns
returns c =
    let lists : List (List ℕ) = c.self.inside.maps.items in
    let within : c.args.device < length lists = omega (arith, ap length c.self.view_is, c.requires.device) in
    let was : c.index_mut.result.now ≡ slice_index_or lists c.args.device [] = c.index_mut.ensures.value ∙ get_or_default lists c.args.device _ [] within in
    subst (λ (old : List (List ℕ)). GivenBack old (slice_set lists c.args.device c.give.new.self) c.args.device c.args.unit) c.self.view_is
    (given_by lists c.args.device c.args.unit c.give.new.self within (rw (← was) c.give.ensures))
