use Rattle.std.proofs.Common.{sym, subst, rules}
use Rattle.cf_types.specs.declared.declared.Declared.{Declared}
use Rattle.cf_names.specs.Indexed.{IsIndexOf}
use Rattle.cf_names.proofs.catalog.settle.Goals as goal

pub returns-then-is_err-clause-index : goal.returns-then-is_err-clause-index
returns-then-is_err-clause-index c =
    subst (λ (d : Declared). IsIndexOf d c.make-then-is_err.result) (sym c.no_lists.ensures)
    (record {
      of_attrs = c.make-then-is_err.ensures.attrs;
      of_device_names = c.make-then-is_err.ensures.devices;
      of_attach_names = c.make-then-is_err.ensures.attaches;
      of_attaches = λ q. search rules;
      of_spots = c.make-then-is_err.ensures.spots;
    })
