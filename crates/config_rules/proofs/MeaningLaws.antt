-- A configuration means one set of tables.
use Rattle.std.proofs.Common.{◌≡◌, ℕ, List, [], map, length, ap, sym, ◌∙◌}
use Rattle.cf_types.specs.declared.tables.Tables.{Tables}
use Rattle.config_rules.specs.Reading.{Files, reading}
use Rattle.config_rules.specs.Declared.{declared}
use Rattle.config_rules.specs.Fault.{stmts_of}
use Rattle.config_rules.specs.Select.{is_at_root_at, carries_at, offered_by}
use Rattle.config_rules.specs.Meaning.{inst_of, surviving, tables_of, Means}
use Rattle.config_rules.proofs.RootedLaws.{marks_one}

pub means_one : (files : Files) (name : List ℕ) (tables others : Tables) → Means files name tables → Means files name others → tables ≡ others
means_one files name tables others a b =
    let stmts = stmts_of (reading files name).placed in
    let insts = map inst_of (surviving [] stmts) in
    a.shown
    ∙ ap (tables_of (reading files name)) (marks_one (is_at_root_at insts) (carries_at (offered_by (declared stmts)) insts) (length insts) a.marks b.marks a.rooted b.rooted)
    ∙ sym b.shown
