use Rattle.cf_compile.proofs.build.split_by_root.Goals as goal

pub returns : goal.returns
returns c d is =
    record {
      marks = c.in_ok-marks.marks;
      is_rooted = c.in_ok-marks.ensures.tables d is;
      rooted = rw c.items.ensures at c.in_ok-split_by_marks.ensures.rooted;
      orphans = rw c.items.ensures at c.in_ok-split_by_marks.ensures.orphans;
    }
