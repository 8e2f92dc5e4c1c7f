use Rattle.std.proofs.Common.{◌≡◌, ◌++◌, drop}
use Rattle.cf_types.specs.declared.stmt.ItemKind.TheVariants as of_kind
use Rattle.config_rules.specs.Fault.{stmts_of}
use Rattle.config_rules.specs.Meaning.{file_systems_in, makeoptions_in, options_in, pseudos_in}
use Rattle.config_rules.specs.Select.{kept_items}
use Rattle.cf_options.proofs.kept.kept_items.Given as goal

abbrev pub invariant-loop-i : goal.invariant-loop-i
invariant-loop-i l =
    (l.kept.pseudos ++ kept_items of_kind.PseudoDevice pseudos_in (λ p. p.name) (stmts_of (drop l.i l.placed)) ≡ kept_items of_kind.PseudoDevice pseudos_in (λ p. p.name) (stmts_of l.placed))
    × (l.kept.options ++ kept_items of_kind.Options options_in (λ i. i.name) (stmts_of (drop l.i l.placed)) ≡ kept_items of_kind.Options options_in (λ i. i.name) (stmts_of l.placed))
    × (l.kept.makeoptions ++ kept_items of_kind.MakeOptions makeoptions_in (λ i. i.name) (stmts_of (drop l.i l.placed)) ≡ kept_items of_kind.MakeOptions makeoptions_in (λ i. i.name) (stmts_of l.placed))
    × (l.kept.file_systems ++ kept_items of_kind.FileSystem file_systems_in (λ n. n) (stmts_of (drop l.i l.placed)) ≡ kept_items of_kind.FileSystem file_systems_in (λ n. n) (stmts_of l.placed))
