use Rattle.std.proofs.Common.{subst, sym}
use Rattle.run_world.specs.Going.{GoesOn}
use Rattle.dev_board.proofs.Opening.{begins, first_books, first_goes}
use Rattle.dev_board.proofs.board.Board.on_site.Goals as goal

pub opening_core-requires : goal.opening_core-requires
opening_core-requires c = record { few = c.requires.may.machine.few_spots; few_devices = c.requires.may.tables.graph.few_devices }

pub invariant_of-held : goal.invariant_of-held
invariant_of-held c = first_books c.args.site.setup c.in-Ok.core c.in-Ok.ensures

pub invariant_of-state : goal.invariant_of-state
invariant_of-state c = subst GoesOn (sym c.in-Ok.ensures.world) (first_goes c.args.site.setup c.requires.may c.requires.scripts)

pub invariant_of-result : goal.invariant_of-result
invariant_of-result c = begins c.args.site.setup _ c.in-Ok.ensures.world c.new.ensures.items

pub returns-in-Ok-clause-world : goal.returns-in-Ok-clause-world
returns-in-Ok-clause-world c = c.in-Ok.ensures.world
