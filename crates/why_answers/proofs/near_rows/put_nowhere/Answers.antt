use Rattle.std.proofs.Common.{◌≡◌, ◌∙◌, ◌++◌, ℕ, List, ap, subst}
use Rattle.std.specs.Prelude.{codes, OnOk}
use Rattle.cf_types.specs.declared.tables.Place.{Place}
use Rattle.config_rules.specs.Listing.{place_name}
use Rattle.run_rules.specs.declared.world.Setup.{Setup}
use Rattle.why_answers.proofs.Puts.{both}
use Rattle.why_answers.proofs.near_rows.put_nowhere.Goals as goal

pub returns : goal.returns
returns c =
    let named = c.place_name.ensures ∙ ap (λ (s : Setup). place_name s.tables c.place_of_row.result) c.rules.view_is ∙ ap (λ (place : Place). place_name c.args.rules.now.tables place) c.place_of_row.ensures in
    subst (λ (name : List ℕ). OnOk c.put_bytes-2.result (c.put_bytes-2.new.out.items ≡ c.args.out.now.items ++ (codes "no search came to a spot at " ++ name))) named
    (both c.put_bytes-2.result c.args.out.now.items c.put_bytes.new.out.items c.put_bytes-2.new.out.items (codes "no search came to a spot at ") c.place_name.result.now
    c.in_ok-put_bytes.ensures.ok c.put_bytes-2.ensures.ok)
