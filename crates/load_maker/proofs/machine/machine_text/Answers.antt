use Rattle.load_maker.specs.Generated as generated
use Rattle.load_maker.proofs.Lines.{one_more_spot}
use Rattle.load_maker.proofs.machine.machine_text.Goals as goal

pub loop-number-init : goal.loop-number-init
unfolding generated.machine_text
loop-number-init c = c.in_ok-text.ensures.items

pub loop-number-preserved : goal.loop-number-preserved
loop-number-preserved c = one_more_spot c.loop-number.number c.loop-number.text.items c.put_lines.new.out.items c.loop-number.invariant c.in_ok-put_lines.ensures
