use Rattle.std.proofs.Common.{◌≡◌, ◌∙◌, ◌<◌, ◌%◌, ◌∷◌, ◌++◌, [], ℕ, List, length, get_or, ap, sym, arith}
use Rattle.std.specs.Global.{Global}
use Rattle.std.specs.Prelude.{Vec}
use Rattle.std.proofs.lemmas.List.{get_or-map}
use Rattle.run_rules.specs.declared.world.Dev.{Dev}
use Rattle.plain_names.specs.Kin.{lists_of}
use Rattle.plain_names.proofs.KinLaws.{device_more}
use Rattle.plain_names.proofs.kin.add.Goals as goal

pub returns : goal.returns
returns c =
    let old = c.args.lists.now.items in
    let k = c.place_of-place.result in
    let d = c.args.device in
    let items = λ (v : Vec Dev Global). v.items in
    let lt : k < length old = omega (arith, c.place_of-place.ensures.within, c.len.ensures) in
    let at : c.index_mut.result.now.items ≡ get_or (lists_of old) k [] = ap items c.index_mut.ensures.value ∙ sym (get_or-map items old k c.index_mut.result.now [] lt) in
    let more : c.push.new.self.items ≡ get_or (lists_of old) k [] ++ d ∷ [] = c.in_ok-push.ensures.items ∙ ap (λ (xs : List Dev). xs ++ d ∷ []) at in
    let size : c.len.result ≡ length old = omega (arith, c.len.ensures) in
    let place : k ≡ d.parent % length old = c.place_of-place.ensures.is ∙ ap (λ (n : ℕ). d.parent % n) size in
    device_more old k d c.push.new.self lt place more
