use Rattle.deed_effect.proofs.slots.deed_in_room.Goals as goal

pub returns-in-Free-clause-done : goal.returns-in-Free-clause-done
returns-in-Free-clause-done g c = rw c.in-Free.is c.free_with.ensures.freed

pub returns-in-Free-clause-halt : goal.returns-in-Free-clause-halt
returns-in-Free-clause-halt g c = rw c.in-Free.is c.free_with.ensures.halt

pub returns-in-Free-clause-quiet : goal.returns-in-Free-clause-quiet
returns-in-Free-clause-quiet g c = c.free_with.ensures.quiet

pub returns-in-Free-clause-same : goal.returns-in-Free-clause-same
returns-in-Free-clause-same g c = c.free_with.ensures.same

pub returns-in-Free-clause-agree : goal.returns-in-Free-clause-agree
returns-in-Free-clause-agree g c = c.free_with.ensures.agree

pub returns-in-Free-clause-books : goal.returns-in-Free-clause-books
returns-in-Free-clause-books g c = c.free_with.ensures.books

pub returns-in_default-clause-done : goal.returns-in_default-clause-done
returns-in_default-clause-done g c = c.do_with.ensures.done

pub returns-in_default-clause-quiet : goal.returns-in_default-clause-quiet
returns-in_default-clause-quiet g c = c.do_with.ensures.quiet

pub returns-in_default-clause-same : goal.returns-in_default-clause-same
returns-in_default-clause-same g c = c.do_with.ensures.same

pub returns-in_default-clause-halt : goal.returns-in_default-clause-halt
returns-in_default-clause-halt g c = c.do_with.ensures.halt

pub returns-in_default-clause-agree : goal.returns-in_default-clause-agree
returns-in_default-clause-agree g c = c.do_with.ensures.agree

pub returns-in_default-clause-books : goal.returns-in_default-clause-books
returns-in_default-clause-books g c = c.do_with.ensures.books

pub free_with-requires : goal.free_with-requires
free_with-requires g c = record {
  may = c.requires.may;
  books = c.requires.books;
  kept = c.requires.kept;
  caller = c.requires.caller;
  chosen = rw c.in-Free.is at c.requires.chosen;
  agree = c.requires.agree;
}

pub do_with-requires : goal.do_with-requires
do_with-requires g c = record {
  may = c.requires.may;
  books = c.requires.books;
  kept = c.requires.kept;
  caller = c.requires.caller;
  chosen = c.requires.chosen;
  agree = c.requires.agree;
  next = c.requires.next;
  room = c.requires.room;
  other = c.in_default.not-Free;
}
