use Rattle.cf_options.specs.Last.{is_dropped}
use Rattle.std.proofs.Common.{ℕ, List, refl}
use Rattle.cf_types.specs.declared.stmt.Item.{Item}
use Rattle.cf_types.specs.declared.stmt.ItemKind.TheVariants as of_kind
use Rattle.cf_types.specs.declared.tables.Pseudo.{Pseudo}
use Rattle.config_rules.specs.Meaning.{file_systems_in, makeoptions_in, options_in, pseudos_in}
use Rattle.cf_options.proofs.KeptLemmas.{kept_more, kept_ends}
use Rattle.cf_options.proofs.kept.kept_items.Goals as goal

pub loop-i-preserved : goal.loop-i-preserved
loop-i-preserved c =
    let so_far = c.loop-i.invariant in
    let more = c.in_ok-push_statement.ensures in (
      kept_more of_kind.PseudoDevice pseudos_in (λ (p : Pseudo). p.name) (is_dropped c.args.last.now.pseudos c.loop-i.i) c.args.placed.now c.loop-i.i c.index-placed-i.result (pseudos_in c.index-placed-i.result.stmt) c.loop-i.kept.pseudos c.push_statement.new.kept.pseudos _
          c.loop-i-test.true c.index-placed-i.is (c.requires.pseudos c.loop-i.i) refl so_far.0 more.pseudos,
      kept_more of_kind.Options options_in (λ (i : Item). i.name) (is_dropped c.args.last.now.options c.loop-i.i) c.args.placed.now c.loop-i.i c.index-placed-i.result (options_in c.index-placed-i.result.stmt) c.loop-i.kept.options c.push_statement.new.kept.options _
          c.loop-i-test.true c.index-placed-i.is (c.requires.options c.loop-i.i) refl so_far.1 more.options,
      kept_more of_kind.MakeOptions makeoptions_in (λ (i : Item). i.name) (is_dropped c.args.last.now.makeoptions c.loop-i.i) c.args.placed.now c.loop-i.i c.index-placed-i.result (makeoptions_in c.index-placed-i.result.stmt) c.loop-i.kept.makeoptions c.push_statement.new.kept.makeoptions _
          c.loop-i-test.true c.index-placed-i.is (c.requires.makeoptions c.loop-i.i) refl so_far.2 more.makeoptions,
      kept_more of_kind.FileSystem file_systems_in (λ (n : List ℕ). n) (is_dropped c.args.last.now.file_systems c.loop-i.i) c.args.placed.now c.loop-i.i c.index-placed-i.result (file_systems_in c.index-placed-i.result.stmt) c.loop-i.kept.file_systems c.push_statement.new.kept.file_systems _
          c.loop-i-test.true c.index-placed-i.is (c.requires.file_systems c.loop-i.i) refl so_far.3 more.file_systems,
    )

pub returns-clause-pseudos : goal.returns-clause-pseudos
returns-clause-pseudos c = kept_ends of_kind.PseudoDevice pseudos_in (λ (p : Pseudo). p.name) c.args.placed.now c.loop-i.i c.loop-i.kept.pseudos _ c.loop-i-test.false c.loop-i.invariant.0

pub returns-clause-options : goal.returns-clause-options
returns-clause-options c = kept_ends of_kind.Options options_in (λ (i : Item). i.name) c.args.placed.now c.loop-i.i c.loop-i.kept.options _ c.loop-i-test.false c.loop-i.invariant.1

pub returns-clause-makeoptions : goal.returns-clause-makeoptions
returns-clause-makeoptions c = kept_ends of_kind.MakeOptions makeoptions_in (λ (i : Item). i.name) c.args.placed.now c.loop-i.i c.loop-i.kept.makeoptions _ c.loop-i-test.false c.loop-i.invariant.2

pub returns-clause-file_systems : goal.returns-clause-file_systems
returns-clause-file_systems c = kept_ends of_kind.FileSystem file_systems_in (λ (n : List ℕ). n) c.args.placed.now c.loop-i.i c.loop-i.kept.file_systems _ c.loop-i-test.false c.loop-i.invariant.3
