use Rattle.std.proofs.Common.{List, map, subst, sym, ℕ}
use Rattle.config_rules.specs.Fault.{places_fault}
use Rattle.cf_declare.specs.Declare.{place_named}
use Rattle.cf_declare.specs.Judging.{Judges}
use Rattle.cf_declare.proofs.FaultLemmas.{only_one}
use Rattle.cf_declare.proofs.fault.places_found.Goals as goal

pub returns-in-len1 : goal.returns-in-len1
returns-in-len1 c =
    subst (λ (names : List (List ℕ)). Judges (places_fault c.args.declared.now names) (map (place_named c.args.declared.now) names) c.only_place.result)
    (sym (only_one c.args.names.now c.name-item.result c.in-len1.len_at_least c.in-len1.len_below c.name-item.is)) c.only_place.ensures
