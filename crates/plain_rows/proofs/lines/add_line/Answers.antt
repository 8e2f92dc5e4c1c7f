use Rattle.std.proofs.Common.{◌∙◌, ◌<◌, [], ap, arith, length, refl, sym}
use Rattle.std.specs.Global.{Global}
use Rattle.std.specs.Prelude.{Vec}
use Rattle.std.proofs.lemmas.List.{get_or-map}
use Rattle.cf_types.specs.declared.machine.MatchLine.{MatchLine}
use Rattle.run_rules.proofs.MatchLines.{line_there}
use Rattle.plain_rows.proofs.lines.add_line.Goals as goal

pub returns-in_ok-push : goal.returns-in_ok-push
returns-in_ok-push c =
    let within : c.in-Some.spot < length c.args.lists.now.items = omega (arith, c.if-place-len.true, c.len.ensures) in
    line_there c.in-Some.spot c.args.lists.now.items _ c.push.new.self c.index_mut.result.now.items c.args.line.now c.in-Some.is within
    (ap (λ (v : Vec MatchLine Global). v.items) c.index_mut.ensures.value ∙ sym (get_or-map (λ (v : Vec MatchLine Global). v.items) c.args.lists.now.items c.in-Some.spot c.index_mut.result.now [] within))
    c.in_ok-push.ensures.items refl
