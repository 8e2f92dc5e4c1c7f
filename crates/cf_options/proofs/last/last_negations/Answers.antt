use Rattle.std.proofs.Common.{◌≡◌, ℕ, ◌∙◌, ◌+◌, List, ap, drop}
use Rattle.std.specs.List.{list_any}
use Rattle.std.proofs.lemmas.List.{take_all}
use Rattle.cf_types.specs.declared.stmt.ItemKind.{ItemKind}
use Rattle.cf_types.specs.declared.stmt.ItemKind.TheVariants as of_kind
use Rattle.cf_types.specs.declared.stmt.Placed.{Placed}
use Rattle.config_rules.specs.Select.{drops}
use Rattle.cf_options.specs.Last.{is_behind, is_negated_behind, last_of}
use Rattle.cf_options.proofs.LastLemmas.{last_more, last_none}
use Rattle.cf_options.proofs.last.last_negations.Goals as goal

pub loop-i-init : goal.loop-i-init
loop-i-init c = λ kind k q. last_none (λ (p : Placed). drops kind q p.stmt) k _ (c.nothing_negated-last.ensures kind q)

pub loop-i-preserved : goal.loop-i-preserved
loop-i-preserved c =
    λ kind k q. last_more (λ (p : Placed). drops kind q p.stmt) c.args.placed.now c.loop-i.i c.index-placed-i.result k (last_of c.loop-i.last kind q) _
    c.loop-i-test.true c.index-placed-i.is (c.loop-i.invariant kind k q) (c.in_ok-note_statement.ensures kind q)

pub returns : goal.returns
returns c =
    let all : (kind : ItemKind) (k : ℕ) (q : List ℕ) → is_behind k (last_of c.loop-i.last kind q) ≡ is_negated_behind c.args.placed.now kind k q =
    λ kind k q. c.loop-i.invariant kind k q ∙ ap (λ (ps : List Placed). list_any (λ p. drops kind q p.stmt) (drop (k + 1) ps)) (take_all c.loop-i.i c.args.placed.now c.loop-i-test.false) in
    record {
      options = all of_kind.Options;
      makeoptions = all of_kind.MakeOptions;
      pseudos = all of_kind.PseudoDevice;
      file_systems = all of_kind.FileSystem;
    }
