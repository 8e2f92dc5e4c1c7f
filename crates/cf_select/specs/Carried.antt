-- Which instance can carry which, by a graph of attributes and devices.
use Rattle.std.specs.Prelude.{ℕ, Bool, List, [], length}
use Rattle.std.specs.List.{slice_index_or}
use Rattle.attr_graph.specs.Reach.{Shape}
use Rattle.cf_types.specs.Gather.{is_in}
use Rattle.cf_types.specs.Offers.{interfaces_of}
use Rattle.config_rules.specs.Select as select
use Rattle.config_rules.specs.Select.{AreRooted, carries_at, is_at_root_at}

-- what a device offers, as the graph has it
abbrev pub interfaces_in : Shape → ℕ → List ℕ
interfaces_in graph device = interfaces_of graph.attrs (slice_index_or graph.devices device [])

abbrev pub offered_in : Shape → ℕ → ℕ → Bool
offered_in graph device a = is_in a (interfaces_in graph device)

-- exactly those of the first n are marked from which a chain of carriers leads to the root
abbrev pub ReachedIn : Shape → List select.Inst → ℕ → List Bool → Type 0
ReachedIn graph insts n marks = AreRooted (is_at_root_at insts) (carries_at (offered_in graph) insts) n marks

-- one truth value for each instance, true exactly where a chain of carriers leads to the root
abbrev pub RootedIn : Shape → List select.Inst → List Bool → Type 0
RootedIn graph insts marks = AreRooted (is_at_root_at insts) (carries_at (offered_in graph) insts) (length insts) marks
