use Rattle.plain_names.proofs.tree.line_of.Goals as goal

pub holds_on-requires : goal.holds_on-requires
holds_on-requires c = c.requires.counted
