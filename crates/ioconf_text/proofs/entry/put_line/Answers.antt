use Rattle.ioconf_text.proofs.entry.put_line.Goals as goal

pub graph_of-requires : goal.graph_of-requires
graph_of-requires c = c.requires.graph
