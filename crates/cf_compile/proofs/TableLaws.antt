-- The tables of accepted statements, put together from their parts.
use Rattle.std.proofs.Common.{◌≡◌, ℕ, ◌<◌, Bool, true, false, None, List, [], length, refl, ap, sym, ◌∙◌, subst, All, get_or, map}
use Rattle.std.proofs.lemmas.List.{length-map}
use Rattle.cf_types.specs.Offers.{named_by}
use Rattle.cf_types.specs.declared.declared.Declared.{Declared}
use Rattle.cf_types.specs.declared.instance.Instance.{Instance}
use Rattle.cf_types.specs.declared.stmt.Item.{Item}
use Rattle.cf_types.specs.declared.stmt.ItemKind.TheVariants as of_kind
use Rattle.cf_types.specs.declared.stmt.Placed.{Placed}
use Rattle.cf_types.specs.declared.tables.Pseudo.{Pseudo}
use Rattle.cf_types.specs.declared.tables.Row.{Row}
use Rattle.cf_types.specs.declared.tables.Warning.{Warning}
use Rattle.attr_graph.specs.Reach.{Shape}
use Rattle.config_rules.specs.Declared.{declared}
use Rattle.config_rules.specs.Fault.{first_code, stmts_of}
use Rattle.config_rules.specs.Meaning.{file_systems_in, makeoptions_in, marked, options_in, pseudos_in, rows_of, surviving, tables_of, warnings}
use Rattle.config_rules.specs.Reading.{Reading}
use Rattle.config_rules.specs.Select.{kept_items}
use Rattle.attr_graph.specs.Graphs.{IsGraphOf}
use Rattle.cf_declare.proofs.InstanceLaws.{surviving_sound}
use Rattle.cf_rows.specs.Idle.{AreInOrder, ArePlacesOfOrphans}
use Rattle.cf_rows.specs.Rows.{UnitFits}
use Rattle.cf_rows.proofs.SelectionLaws.{marked_all, marked_ordered, surviving_ordered}
use Rattle.config_rules.specs.Written.{AreWritten, IsWritten}
use Rattle.std.proofs.lemmas.List.Elements.{All-map}
use Rattle.config_laws.proofs.InstanceLaws.{surviving_fit}

-- the devices of the surviving instances are in the graph
pub devices_known : (files : List (List ℕ)) (placed : List Placed) (lists : Declared) (graph : Shape) (insts : List Instance)
    → first_code files [] placed ≡ None → lists ≡ declared (stmts_of placed) → IsGraphOf lists graph → insts ≡ surviving [] (stmts_of placed)
    → All (λ x. x.joined.device < length graph.devices) insts
devices_known files placed lists graph insts none declares is standing =
    let sound = surviving_sound files placed none in
    let size : length graph.devices ≡ length (declared (stmts_of placed)).devices =
    ap length is.devices ∙ length-map lists.devices named_by ∙ ap (λ (d : Declared). length d.devices) declares in
    subst (λ (is : List Instance). All (λ x. x.joined.device < length graph.devices) is) (sym standing)
    (λ k d p. subst (λ (n : ℕ). (get_or (surviving [] (stmts_of placed)) k d).joined.device < n) (sym size) (sound k d p).has_device)

-- the units of those that are marked fit
pub marked_fit : (placed : List Placed) (insts shown : List Instance) (marks : List Bool) → AreWritten placed → insts ≡ surviving [] (stmts_of placed)
    → shown ≡ marked true insts marks → All UnitFits shown
marked_fit placed insts shown marks written standing is =
    subst (λ (is : List Instance). All UnitFits is) (sym (is ∙ ap (λ (xs : List Instance). marked true xs marks) standing))
    (marked_all UnitFits true (surviving [] (stmts_of placed)) marks (surviving_fit (stmts_of placed) (All-map IsWritten (λ (p : Placed). p.stmt) placed written.each)))

-- the places are those of the orphans, which stand in the order of their statements
pub orphans_placed : (placed : List Placed) (insts : List Instance) (marks : List Bool) (places : List ℕ) → insts ≡ surviving [] (stmts_of placed)
    → places ≡ map (λ i. i.stmt) (marked false insts marks) → ArePlacesOfOrphans places (marked false insts marks)
orphans_placed placed insts marks places standing is = record {
  each = is;
  in_order = subst (λ (xs : List Instance). AreInOrder (marked false xs marks)) (sym standing)
      (marked_ordered false (surviving [] (stmts_of placed)) marks (surviving_ordered [] (stmts_of placed)));
}

-- the parts are those of the tables that are meant
pub tables_are : (r : Reading) (marks : List Bool) (lists : Declared) (insts rooted orphans : List Instance) (rows : List Row) (pseudos : List Pseudo) (options makeoptions : List Item) (file_systems : List (List ℕ)) (warned : List Warning)
    → lists ≡ declared (stmts_of r.placed) → insts ≡ surviving [] (stmts_of r.placed) → rooted ≡ marked true insts marks → orphans ≡ marked false insts marks
    → rows ≡ rows_of (length lists.devices) rooted
    → pseudos ≡ kept_items of_kind.PseudoDevice pseudos_in (λ p. p.name) (stmts_of r.placed)
    → options ≡ kept_items of_kind.Options options_in (λ i. i.name) (stmts_of r.placed)
    → makeoptions ≡ kept_items of_kind.MakeOptions makeoptions_in (λ i. i.name) (stmts_of r.placed)
    → file_systems ≡ kept_items of_kind.FileSystem file_systems_in (λ n. n) (stmts_of r.placed)
    → warned ≡ warnings r.files orphans [] r.placed
    → record { attrs = lists.attrs; devices = lists.devices; attaches = lists.attaches; rows = rows; pseudos = pseudos; options = options; makeoptions = makeoptions; file_systems = file_systems; warnings = warned }
    ≡ tables_of r marks
tables_are r marks lists insts rooted orphans rows pseudos options makeoptions file_systems warned declares standing is_rooted is_orphan a b c d e f =
    rw (f, a, b, c, d, e, is_rooted, is_orphan, standing, declares) refl
