pub use Rattle.attr_graph.specs.Graphs
