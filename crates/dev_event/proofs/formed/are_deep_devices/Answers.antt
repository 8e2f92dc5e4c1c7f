use Rattle.std.proofs.Common.{List, refl, sym, subst}
use Rattle.std.specs.List.{AllByRecursion}
use Rattle.std.proofs.lemmas.List.{take_all}
use Rattle.run_rules.specs.declared.event.DepthName.{DepthName}
use Rattle.run_rules.specs.Lines.{IsFormedDepthName}
use Rattle.run_rules.proofs.FormedNames.{all_get}
use Rattle.dev_event.proofs.Names.{one_more}
use Rattle.dev_event.proofs.formed.are_deep_devices.Goals as goal

pub loop-one-preserved : goal.loop-one-preserved
loop-one-preserved c =
    one_more IsFormedDepthName c.args.names.now c.loop-one.one-index c.one-item.result c.loop-one-test.true c.loop-one.invariant
    (subst IsFormedDepthName c.one-item.is (c.if-not-is_deep_device.ensures.0 refl))

pub returns-then-not-is_deep_device : goal.returns-then-not-is_deep_device
returns-then-not-is_deep_device c = (
  λ never. absurd cc,
  λ all. c.if-not-is_deep_device.ensures.1 (subst IsFormedDepthName (sym c.one-item.is) (all_get IsFormedDepthName c.args.names.now c.loop-one.one-index c.one-item.result all c.loop-one-test.true)),
)

pub returns : goal.returns
returns c = (
  λ done. let P : List DepthName → Type 0 = λ names. AllByRecursion IsFormedDepthName names in
      subst P (take_all c.loop-one.one-index c.args.names.now c.loop-one-test.false) c.loop-one.invariant,
  λ all. refl,
)
