use Rattle.std.proofs.Common.{◌+◌, ◌∙◌, ap, sym, refl}
use Rattle.config_rules.specs.Reading.{Reading, reader}
use Rattle.cf_expand.proofs.ReaderLemmas.{cutting_is, opened_reads, uncut_reads}
use Rattle.cf_expand.proofs.open.open.Goals as goal

pub returns-in-Ok-clause-below : goal.returns-in-Ok-clause-below
returns-in-Ok-clause-below c =
    (refl, refl, cutting_is c.deref-2.result.now c.from_vec.result c.in-Ok.cutting (c.deref-2.ensures.value ∙ sym c.from_vec.ensures) c.in-Ok.ensures.cut c.in-Ok.ensures.closed c.in-Ok.ensures.rest)

pub returns-in-Ok-clause-read : goal.returns-in-Ok-clause-read
returns-in-Ok-clause-read c = λ files around.
    opened_reads c.args.limits.levels files around c.args.name c.args.text.items c.from_vec.result c.deref-2.result.now c.items-2.result.now c.in-Ok.cutting c.files_len-number.result c.read_alone.new.progress c.push_file.new.self
    c.files_len-number.ensures c.from_vec.ensures c.deref-2.ensures.value c.items-2.ensures c.in_ok-push_file.ensures c.in-Ok.ensures.exact
    ∙ ap (λ (r : Reading). reader (c.args.limits.levels + 1) files around c.args.name c.args.text.items r) (c.in_ok-read_alone.ensures.same c.if-branch.false)

pub returns-in-Err-Fault-clause-read : goal.returns-in-Err-Fault-clause-read
returns-in-Err-Fault-clause-read c = λ files around.
    uncut_reads c.args.limits.levels files around c.args.name c.args.text.items c.deref-2.result.now c.items-2.result.now c.items-in-Err-Fault.result.now c.in-Err-Fault.line c.in-Err-Fault.code c.read_alone.new.progress c.push_file.new.self c.refuse.new.self
    c.deref-2.ensures.value c.items-2.ensures c.items-in-Err-Fault.ensures c.in_ok-push_file.ensures (rw c.in-Err-Fault.field-0-is at c.in-Err-Fault.ensures.exact) c.in_ok-refuse-in-Err-Fault.ensures
    ∙ ap (λ (r : Reading). reader (c.args.limits.levels + 1) files around c.args.name c.args.text.items r) (c.in_ok-read_alone.ensures.same c.if-branch.false)
