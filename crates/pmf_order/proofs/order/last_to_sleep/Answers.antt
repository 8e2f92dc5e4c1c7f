use Rattle.std.proofs.Common.{◌∙◌, ap, false, sym, None, arith}
use Rattle.run_rules.specs.declared.world.Dev.{Dev}
use Rattle.run_rules.specs.World.{serial_of}
use Rattle.run_rules.proofs.FromEnd.{left_all, left_found, left_more, left_none}
use Rattle.pmf_order.specs.Resting.{sleeps}
use Rattle.pmf_order.proofs.order.last_to_sleep.Goals as goal

-- what stands past the end
abbrev blank : Dev
blank = record { serial = 0; row = 0; unit = 0; parent = 0; spot = 0; asleep = false; condemned = None }

pub loop-place-init : goal.loop-place-init
loop-place-init c = record {
  left = left_all (sleeps c.args.tree.now.live c.args.target) c.args.among.now;
  noted = c.none-strangers.ensures c.args.tree.now.live c.args.target;
}

pub loop-place-preserved : goal.loop-place-preserved
loop-place-preserved c = record {
  left = left_more (sleeps c.args.tree.now.live c.args.target) c.args.among.now c.loop-place.place blank (omega arith) (omega arith)
      (sym c.is_to_sleep.ensures.is ∙ c.if-is_to_sleep.false) c.loop-place.invariant.left;
  noted = c.is_to_sleep.ensures.noted;
}

pub returns-then-is_to_sleep : goal.returns-then-is_to_sleep
returns-then-is_to_sleep c =
    ap serial_of (left_found (sleeps c.args.tree.now.live c.args.target) c.args.among.now c.loop-place.place blank (omega arith) (omega arith)
    (sym c.is_to_sleep.ensures.is ∙ c.if-is_to_sleep.true) c.loop-place.invariant.left)

pub returns : goal.returns
returns c = ap serial_of (left_none (sleeps c.args.tree.now.live c.args.target) c.args.among.now c.loop-place.place (omega arith) c.loop-place.invariant.left)
