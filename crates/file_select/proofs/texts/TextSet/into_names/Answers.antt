use Rattle.std.proofs.Common.{◌∙◌, List, ℕ, subst}
use Rattle.std.specs.List.Sorted.{IsStrictlySortedBy}
use Rattle.std.specs.Cmp.Lexicographic.{slice_cmp}
use Rattle.std.specs.Ordering.{nat_cmp}
use Rattle.file_select.proofs.TextLemmas.{named_more, short_rest, texts_ordered}
use Rattle.file_select.proofs.texts.TextSet.into_names.Goals as goal

pub loop-text-preserved : goal.loop-text-preserved
loop-text-preserved c = record {
  parts = named_more c.loop-text.names.items c.loop-text.texts.keys c.pop_first.new.self.keys c.in-Some.text c.in_ok-make.field-0 c.push.new.self.items c.in-Some.ensures.removal c.in_ok-push.ensures.items (c.in_ok-make.ensures ∙ c.deref.ensures.value) ∙ c.loop-text.invariant.parts;
  short = short_rest c.loop-text.texts.keys c.pop_first.new.self.keys c.in-Some.text c.in-Some.ensures.removal c.loop-text.invariant.short;
}

pub returns-clause-ordered : goal.returns-clause-ordered
returns-clause-ordered c = subst (λ (ts : List (List ℕ)). IsStrictlySortedBy (slice_cmp nat_cmp) ts) c.self.view_is (texts_ordered c.self.inside.texts.keys c.len.ensures.ordered)
