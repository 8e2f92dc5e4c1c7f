use Rattle.std.proofs.Common.{rules}
use Rattle.machine_model.proofs.NameLemmas.{none_yet}
use Rattle.machine_model.proofs.names.no_names.Goals as goal

pub returns : goal.returns
returns c =
    none_yet (record { names = c.in_ok-with_capacity.field-0; slots = c.in_ok-vec.field-0; rest = c.new.result }) c.slots_for.result c.slots_for.ensures c.in_ok-with_capacity.ensures.items (c.in_ok-vec.ensures.items_if_clones_equal (λ y h. search rules)) c.new.ensures.items
