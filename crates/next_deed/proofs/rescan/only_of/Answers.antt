use Rattle.std.proofs.Common.{◌∙◌, ap, sym, Some}
use Rattle.run_rules.specs.Next.{rescan_of}
use Rattle.next_deed.proofs.RescanLaws.{rescan_all}
use Rattle.next_deed.proofs.rescan.only_of.Goals as goal

pub returns-in-None : goal.returns-in-None
returns-in-None c = λ d offered. rescan_all c.args.going.now d c.args.attr.now c.args.given.now c.in-None.is

pub returns-in-Some : goal.returns-in-Some
returns-in-Some c = λ d offered.
    ap (λ o. rescan_of c.args.going.now d o c.args.given.now) (c.in-Some.is ∙ ap Some (sym c.bytes.ensures.bytes)) ∙ c.attr_of.ensures d offered
