use Rattle.std.proofs.Common.{◌≡◌, ap, sym, ◌∙◌, Some, None, List, ◌∷◌, [], ◌++◌}
use Rattle.std.specs.Prelude.{nat_eq}
use Rattle.std.specs.HashMap.{get}
use Rattle.std.specs.Borrow.{Bor}
use Rattle.std.proofs.lemmas.List.{map-append, get_or_default}
use Rattle.cf_types.specs.declared.instance.Instance.{Instance}
use Rattle.cf_rows.specs.Rows.{seen}
use Rattle.cf_rows.proofs.GroupLemmas.{add_known, add_new, differ}
use Rattle.cf_rows.proofs.units.add.Goals as goal

pub returns-in-Some : goal.returns-in-Some
returns-in-Some c = λ insts kept.
    let at : get nat_eq c.args.places.now c.args.unit ≡ Some c.in-Some.place = cc (c.copied.ensures, c.get.ensures.value, c.in-Some.is) in
    add_known insts c.args.instance.now c.args.groups.now.items _ c.args.unit c.in-Some.place c.push.new.self kept c.requires.unit at
    (ap seen c.in_ok-push.ensures.ok ∙ map-append (λ (x : Bor Instance). x.now) c.index_mut-group.result.now (c.args.instance ∷ [])
    ∙ ap (λ (xs : List (Bor Instance)). seen xs ++ c.args.instance.now ∷ []) (c.index_mut-group.ensures.value ∙ get_or_default c.args.groups.now.items c.in-Some.place _ [] (c.requires.within c.args.unit c.in-Some.place at)))

pub returns : goal.returns
returns c = λ insts kept.
    let none : get nat_eq c.args.places.now c.args.unit ≡ None = cc (c.copied.ensures, c.get.ensures.value, c.in_default.is) in
    let group : seen c.make.result ≡ c.args.instance.now ∷ [] = ap seen c.make.ensures in
    rw c.in_ok-push-2.ensures.items (
    add_new insts c.args.instance.now c.args.groups.now.items (get nat_eq c.args.places.now) (get nat_eq c.insert.new.self) c.args.unit c.make.result kept c.requires.unit none
    (c.in_ok-insert.ensures.updates.1 ∙ ap (λ n. Some n) (c.len.ensures ∙ c.args.groups.now.ok.0))
    (λ v h. c.in_ok-insert.ensures.updates.2 v (differ c.args.unit v (λ e. h (sym e))))
    group
    )
