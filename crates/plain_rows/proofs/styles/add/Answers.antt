use Rattle.std.proofs.Common.{◌∙◌, ◌==◌, ◌&&◌, Bool, Option, Some, [], ap, refl, sym}
use Rattle.std.specs.Global.{Global}
use Rattle.std.specs.Prelude.{OnOk, Result, Ok, Err, Vec, if◌then◌else◌}
use Rattle.std.proofs.lemmas.List.{get_or-map}
use Rattle.cf_types.specs.declared.machine.StyleLine.{StyleLine}
use Rattle.plain_rows.proofs.StyleLaws.{list_put}
use Rattle.plain_rows.proofs.styles.add.Goals as goal

ok_more : {A B P Q : Type 0} (r : Result A B) → OnOk r P → (P → Q) → OnOk r Q
ok_more (Ok x) p f = f p
ok_more (Err e) p f = tt

pub returns : goal.returns
returns c =
    let line = c.args.line.now in
    ok_more c.put.result c.put.ensures (λ e k a.
    list_put c.reach.new.lists.items _ line.attach line c.put.new.list c.index_mut.result.now.items c.in_ok-reach.ensures.ok
    (ap (λ (v : Vec StyleLine Global). v.items) c.index_mut.ensures.value ∙ sym (get_or-map (λ (v : Vec StyleLine Global). v.items) c.reach.new.lists.items line.attach c.index_mut.result.now [] c.in_ok-reach.ensures.ok))
    refl e k a
    ∙ ap (λ (o : Option Bool). if line.attach == k && line.attr == a then Some line.indirect else o) (c.in_ok-reach.ensures.same k a))
