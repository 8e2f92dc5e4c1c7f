use Rattle.std.proofs.Common.{◌≡◌, ◌*◌, ◌<◌, ◌+◌, ◌/◌, ◌%◌, ◌^◌, ◌∙◌, ◌||◌, ◌==◌, ℕ, List, inl, inr, sym, ap, length, bit_or, slice_set, slice_index_or, arith}
use Rattle.std.proofs.lemmas.Bool.{or_left}
use Rattle.std.proofs.lemmas.List.{get_or_default, length-set, get_or-set_same}
use Rattle.cf_types.specs.Gather.{is_in}
use Rattle.unit_alloc.specs.Taken.{IsGrown, is_set}
use Rattle.unit_alloc.proofs.BitmapLaws.{full_word, set_is, set_more}
use Rattle.unit_alloc.proofs.map.UnitMap.take.Goals as goal

pub invariant_of-self-2 : goal.invariant_of-self-2
invariant_of-self-2 c =
    let words : List ℕ = c.grow.new.words.items in
    let grown : IsGrown c.self.inside.words.items (c.args.unit / 64 + 1) words = c.in_ok-grow.ensures.ok in
    let room : c.args.unit / 64 < length words = omega (arith, grown.words) in
    let was : c.index.result.now ≡ slice_index_or words (c.args.unit / 64) 0 = c.index.ensures ∙ get_or_default words (c.args.unit / 64) _ 0 room in
    let word : ℕ = bit_or c.index.result.now (1 * 2 ^ (c.args.unit % 64) % 2 ^ 64) in
    let new : List ℕ = slice_set words (c.args.unit / 64) word in
    record {
      short = omega (arith, length-set words (c.args.unit / 64) word, grown.words, c.self.invariant.short);
      before = λ n low. elim (c.raised-self-inside.ensures (n / 64) (omega arith)) [
        | inl less ↦
            ap (λ w. is_set (slice_set words (c.args.unit / 64) (bit_or w (1 * 2 ^ (c.args.unit % 64) % 2 ^ 64))) n) was ∙ set_more words c.args.unit n room
            ∙ or_left (is_set words n) (c.args.unit == n) (grown.set n ∙ c.self.invariant.before n (omega arith))
        | inr here ↦ full_word new n (ap (λ p. slice_index_or new p 0) here.0 ∙ get_or-set_same words (c.args.unit / 64) word 0 room ∙ here.1)
      ];
    }

pub returns-clause-ok : goal.returns-clause-ok
returns-clause-ok c = λ n.
    (let words : List ℕ = c.grow.new.words.items in
    let grown : IsGrown c.self.inside.words.items (c.args.unit / 64 + 1) words = c.in_ok-grow.ensures.ok in
    let room : c.args.unit / 64 < length words = omega (arith, grown.words) in
    let was : c.index.result.now ≡ slice_index_or words (c.args.unit / 64) 0 = c.index.ensures ∙ get_or_default words (c.args.unit / 64) _ 0 room in
    set_is _ n ∙ ap (λ w. is_set (slice_set words (c.args.unit / 64) (bit_or w (1 * 2 ^ (c.args.unit % 64) % 2 ^ 64))) n) was ∙ set_more words c.args.unit n room
    ∙ ap (λ b. b || c.args.unit == n) (grown.set n ∙ sym (set_is c.self.inside.words.items n) ∙ ap (is_in n) c.self.view_is))
