use Rattle.config_rules.specs.Meaning.{inst_of}
use Rattle.cf_select.proofs.ReachedLemmas.{serves_none, serves_then}
use Rattle.cf_select.proofs.WantLemmas.{wants_of_more}
use Rattle.cf_select.proofs.marks.serve.Goals as goal

pub loop-attr-init : goal.loop-attr-init
loop-attr-init c = serves_none _ _ _ c.requires.within

pub serve_attr-requires : goal.serve_attr-requires
serve_attr-requires c = c.loop-attr.invariant.within

pub loop-attr-preserved : goal.loop-attr-preserved
loop-attr-preserved c =
    serves_then _ _ _ _ _ _ _ _ _ _ _ _ c.loop-attr.invariant c.in_ok-serve_attr.ensures (wants_of_more (inst_of c.args.instance.now) _ c.loop-attr.attr-index c.loop-attr-test.true)
