use Rattle.std.proofs.Common.{◌≡◌, ℕ, ◌∙◌, ◌≤◌, ◌∷◌, List, Option, length, map, take, subst, sym, ap}
use Rattle.config_rules.specs.Reading.{under_prefix}
use Rattle.cf_expand.specs.Paths.{AreNested, behind, end_of, path_at}
use Rattle.cf_expand.specs.declared.prefixes.PathSpan.{PathSpan}
use Rattle.cf_expand.proofs.PathLemmas.{nested_push, nested_within, paths_push}
use Rattle.cf_expand.proofs.prefixes.Prefixes.push.Goals as goal

pub invariant_of-self-in_err-push_front : goal.invariant_of-self-in_err-push_front
invariant_of-self-in_err-push_front c =
    let m = length c.add_path.new.text.items in
    let spans = c.self.inside.spans.items in
    subst (λ (ss : List PathSpan). AreNested m ss) (sym c.in_err-push_front.ensures.items)
    (nested_within (length c.self.inside.text.items) m spans c.self.invariant (subst (λ (top : Option PathSpan). end_of top ≤ m) c.top_of-top.ensures c.in_ok-span.ensures.within))

pub invariant_of-self-2 : goal.invariant_of-self-2
invariant_of-self-2 c =
    let m = length c.add_path.new.text.items in
    let spans = c.self.inside.spans.items in
    subst (λ (ss : List PathSpan). AreNested m ss) (sym c.in_ok-push_front.ensures.items)
    (nested_push (length c.self.inside.text.items) m spans c.in_ok-span.span c.self.invariant c.in_ok-span.ensures.span.0 c.in_ok-span.ensures.span.1
    (subst (λ (top : Option PathSpan). end_of top ≤ c.in_ok-span.span.end) c.top_of-top.ensures c.in_ok-span.ensures.span.2))

pub returns : goal.returns
returns c =
    let old = c.self.inside.text.items in
    let new = c.add_path.new.text.items in
    let spans = c.self.inside.spans.items in
    ap (map (path_at new)) c.in_ok-push_front.ensures.items
    ∙ paths_push old new (length old) spans c.in_ok-span.span c.args.path.now c.self.invariant
    (subst (λ (top : Option PathSpan). take (end_of top) new ≡ take (end_of top) old) c.top_of-top.ensures c.in_ok-span.ensures.kept)
    (c.in_ok-span.ensures.path ∙ ap (λ (top : Option PathSpan). behind old top c.args.path.now) c.top_of-top.ensures)
    ∙ ap (λ (paths : List (List ℕ)). under_prefix paths c.args.path.now ∷ paths) c.self.view_is
