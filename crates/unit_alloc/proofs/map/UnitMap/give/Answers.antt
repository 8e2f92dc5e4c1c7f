use Rattle.std.proofs.Common.{◌≡◌, ◌*◌, ◌<◌, ◌/◌, ◌%◌, ◌^◌, ◌-◌, ◌∙◌, ◌&&◌, ◌==◌, not, ℕ, List, sym, ap, length, bit_and, slice_set, slice_index_or, arith}
use Rattle.std.proofs.lemmas.List.{get_or_default}
use Rattle.cf_types.specs.Gather.{is_in}
use Rattle.unit_alloc.specs.Taken.{is_set}
use Rattle.unit_alloc.proofs.BitmapLaws.{set_is, set_less, within}
use Rattle.unit_alloc.proofs.map.UnitMap.give.Goals as goal

pub index-requires : goal.index-requires
index-requires c =
    let words : List ℕ = c.self.inside.words.items in
    let room : c.args.unit / 64 < length words = within words c.args.unit (sym (set_is words c.args.unit) ∙ ap (is_in c.args.unit) c.self.view_is ∙ c.requires) in
    omega arith

pub index_mut-requires : goal.index_mut-requires
index_mut-requires c =
    let words : List ℕ = c.self.inside.words.items in
    let room : c.args.unit / 64 < length words = within words c.args.unit (sym (set_is words c.args.unit) ∙ ap (is_in c.args.unit) c.self.view_is ∙ c.requires) in
    omega arith

pub returns : goal.returns
returns c = λ n.
    (let words : List ℕ = c.self.inside.words.items in
    let room : c.args.unit / 64 < length words = within words c.args.unit (sym (set_is words c.args.unit) ∙ ap (is_in c.args.unit) c.self.view_is ∙ c.requires) in
    let was : c.index.result.now ≡ slice_index_or words (c.args.unit / 64) 0 = c.index.ensures ∙ get_or_default words (c.args.unit / 64) _ 0 room in
    set_is _ n ∙ ap (λ w. is_set (slice_set words (c.args.unit / 64) (bit_and w (2 ^ 64 - 1 - 1 * 2 ^ (c.args.unit % 64) % 2 ^ 64))) n) was ∙ set_less words c.args.unit n room
    ∙ ap (λ b. not (c.args.unit == n) && b) (sym (set_is words n) ∙ ap (is_in n) c.self.view_is))
