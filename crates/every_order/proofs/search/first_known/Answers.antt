use Rattle.std.proofs.Common.{◌≡◌, ◌∙◌, ℕ, nat_eq, List, [], ◌∷◌, ◌++◌, length, Some, None, refl, sym, ap, subst}
use Rattle.std.specs.HashMap.{Updates}
use Rattle.every_order.specs.declared.known.Known.{Known}
use Rattle.every_order.specs.declared.known.Met.{Met}
use Rattle.every_order.proofs.Indexing.{get_none, indexed_more, indexed_none}
use Rattle.every_order.proofs.search.first_known.Goals as goal

pub returns : goal.returns
returns c =
    let one : Met = record { plain = c.args.start; from = 0; caller = 0; depth = 0; print = c.print_of-print.result; earlier = None } in
    let old : Known = record { met = c.new-met.result; heads = c.new-heads.result } in
    let new : Known = record { met = c.push.new.self; heads = c.insert.new.self } in
    let none : c.new-met.result.items ≡ [] = c.new-met.ensures.items in
    record {
      one = one;
      met = c.in_ok-push.ensures.items ∙ ap (λ (l : List Met). l ++ one ∷ []) none;
      world = refl;
      depth = refl;
      indexed =
          indexed_more old new one (indexed_none old none c.new-heads.ensures.empty) (λ s. sym (c.print_of-print.ensures s)) (sym (get_none old c.new-heads.ensures.empty c.print_of-print.result)) (record {
            met = c.in_ok-push.ensures.items;
            heads = subst (λ (n : ℕ). Updates nat_eq c.new-heads.result c.insert.new.self c.print_of-print.result (Some n)) (sym (ap (λ (l : List Met). length l) none)) c.in_ok-insert.ensures.updates;
          });
    }
