use Rattle.run_world.proofs.going.Going.keep_tree.Goals as goal

pub invariant_of-held : goal.invariant_of-held
invariant_of-held c = record {
  marks = c.held.invariant.marks;
  units = c.held.invariant.units;
  drivers = c.held.invariant.drivers;
  recent = c.keep_tree.ensures c.held.inside.site.setup c.held.invariant.recent;
}
