use Rattle.std.proofs.Common.{◌∙◌}
use Rattle.cf_types.specs.Offers.{named_by}
use Rattle.file_select.proofs.SeenLemmas.{seen_none}
use Rattle.file_select.proofs.marks.none_seen.Goals as goal

pub returns : goal.returns
returns c = λ marks.
    record {
      devices = seen_none named_by c.args.tables.now.devices c.in_ok-devices.devices.items marks (c.in_ok-devices.ensures.size ∙ c.len.ensures) c.in_ok-devices.ensures.none;
      attaches = seen_none (λ x. x.needs) c.args.tables.now.attaches c.in_ok-attaches.attaches.items marks (c.in_ok-attaches.ensures.size ∙ c.len-2.ensures) c.in_ok-attaches.ensures.none;
    }
