use Rattle.std.proofs.Common.{refl}
use Rattle.config_rules.specs.Meaning.{inst_of}
use Rattle.cf_select.proofs.ReachedLemmas.{serves_then}
use Rattle.cf_select.proofs.WantLemmas.{three_wants}
use Rattle.cf_select.proofs.marks.serve_attr.Goals as goal

pub serve_want-requires-2 : goal.serve_want-requires-2
serve_want-requires-2 c = c.in_ok-serve_want.ensures.within

pub serve_want-requires-3 : goal.serve_want-requires-3
serve_want-requires-3 c = c.in_ok-serve_want-2.ensures.within

pub returns : goal.returns
returns c =
    serves_then _ _ _ _ _ _ _ _ _ _ _ _ (serves_then _ _ _ _ _ _ _ _ _ _ _ _ c.in_ok-serve_want.ensures c.in_ok-serve_want-2.ensures refl) c.in_ok-serve_want-3.ensures
    (three_wants (inst_of c.args.instance.now) c.args.attr c.own_carrier-own.result c.own_carrier-own.ensures)
