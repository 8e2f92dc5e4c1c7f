use Rattle.std.proofs.Common.{◌≡◌, ◌∙◌, [], List, ℕ, refl, subst, sym}
use Rattle.std.proofs.lemmas.Bool.{eqb-true}
use Rattle.std.proofs.lemmas.List.{nil_from_length}
use Rattle.cf_io.specs.Told.{Takes}
use Rattle.cf_io.proofs.GrowsLemmas.{grows_nothing, takes_flushed}
use Rattle.app_output.proofs.status.tell.Goals as goal

pub returns : goal.returns
returns g c =
    let empty : c.args.text.now ≡ [] = nil_from_length c.args.text.now (eqb-true _ _ (sym c.is_empty.ensures ∙ c.if-not-is_empty.false)) in
    subst (λ (text : List ℕ). Takes text (g.E.Sink.told c.args.err.now) (g.E.Sink.told c.flush.new.self)) (sym empty)
    (takes_flushed [] c.flush.result _ _ _ (grows_nothing (g.E.Sink.told c.args.err.now)) refl c.flush.ensures.flushed)
