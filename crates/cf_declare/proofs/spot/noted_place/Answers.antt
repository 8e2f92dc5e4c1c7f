use Rattle.std.proofs.Common.{◌∙◌, ap, sym}
use Rattle.std.specs.Prelude.{option_map}
use Rattle.config_rules.specs.Joined.{suits}
use Rattle.cf_declare.specs.FirstSpots.{place_of}
use Rattle.cf_declare.proofs.SpotLemmas.{placed_first}
use Rattle.cf_declare.proofs.spot.noted_place.Goals as goal

pub returns-in-Some : goal.returns-in-Some
returns-in-Some c =
    ap (option_map place_of) (sym c.in-Some.is ∙ c.first_suiting.ensures)
    ∙ placed_first c.args.declared.now c.args.device (suits c.args.declared.now c.args.target)

pub returns-in-None : goal.returns-in-None
returns-in-None c =
    ap (option_map place_of) (sym c.in-None.is ∙ c.first_suiting.ensures)
    ∙ placed_first c.args.declared.now c.args.device (suits c.args.declared.now c.args.target)
