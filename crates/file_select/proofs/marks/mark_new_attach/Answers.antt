use Rattle.std.proofs.Common.{◌<◌, [], arith, length, List, refl, subst, sym}
use Rattle.std.specs.Prelude.{flat_map}
use Rattle.std.specs.List.{All}
use Rattle.cf_types.specs.declared.tables.Attach.{Attach}
use Rattle.file_rules.specs.Chosen.{attach_in}
use Rattle.file_select.proofs.MarkLemmas.{all_size}
use Rattle.file_select.proofs.RowLemmas.{front_all}
use Rattle.file_select.proofs.SeenLemmas.{adds_again, adds_there, mark_read, seen_one}
use Rattle.file_select.proofs.marks.mark_new_attach.Goals as goal

pub returns-then-index-clause-marks : goal.returns-then-index-clause-marks
returns-then-index-clause-marks c =
    adds_again c.args.marks.now _
    (λ a k. c.requires.seen.marked c.args.row.now.attach a (mark_read c.args.seen.now.items c.args.row.now.attach c.index.result.now (omega (arith, c.requires.attach, c.requires.seen.size)) c.index.ensures c.if-index.true) k)

pub mark_all-requires : goal.mark_all-requires
mark_all-requires c =
    all_size c.args.marks.now c.args.marks.now c.items.result.now c.attach_of.result.now.needs refl c.items.ensures
    (front_all (λ a. a < length c.args.marks.now) c.attach_of.result.now.needs [] (subst (λ (xs : List Attach). All (λ a. a < length c.args.marks.now) (flat_map (λ x. x.needs) xs)) c.attach_of.ensures c.requires.within))

pub returns-clause-marks : goal.returns-clause-marks
returns-clause-marks c =
    adds_there (λ (x : Attach). x.needs) (attach_in c.args.attaches.now c.args.row.now) c.attach_of.result.now c.args.marks.now c.mark_all.new.marks c.items.result.now c.attach_of.ensures c.items.ensures c.mark_all.ensures

pub returns-clause-seen : goal.returns-clause-seen
returns-clause-seen c =
    seen_one (λ (x : Attach). x.needs) c.args.attaches.now c.args.seen.now.items _ c.args.marks.now c.mark_all.new.marks c.args.row.now.attach refl c.requires.seen
    (adds_there (λ (x : Attach). x.needs) (attach_in c.args.attaches.now c.args.row.now) c.attach_of.result.now c.args.marks.now c.mark_all.new.marks c.items.result.now c.attach_of.ensures c.items.ensures c.mark_all.ensures)
