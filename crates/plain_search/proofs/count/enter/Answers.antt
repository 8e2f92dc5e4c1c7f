use Rattle.std.proofs.Common.{◌∙◌, ◌≡◌, ◌+◌, ℕ, ap, arith, slice_index_or}
use Rattle.run_rules.specs.declared.world.Setup.{Setup}
use Rattle.plain_rows.specs.Taken.{is_of, one_if}
use Rattle.plain_rows.proofs.DriverLaws.{at_most_one, listed_times}
use Rattle.plain_search.proofs.count.enter.Goals as goal

pub enter-requires-clause-low : goal.enter-requires-clause-low
enter-requires-clause-low c = λ r.
    let rows : c.items.result.now ≡ c.args.rules.now.tables.rows = c.items.ensures ∙ ap (λ (s : Setup). s.tables.rows) c.rules.view_is in
    let once = listed_times c.items.result.now c.args.rules.now.tables.rows c.args.drivers.now c.rows.result.now c.driver_of-driver.result c.args.unit r rows c.requires.driven c.rows.ensures in
    omega (arith, once, at_most_one (is_of c.args.rules.now.tables.rows c.driver_of-driver.result c.args.unit r), c.requires.low r)

pub returns-clause-numbers : goal.returns-clause-numbers
returns-clause-numbers c = λ r.
    let rows : c.items.result.now ≡ c.args.rules.now.tables.rows = c.items.ensures ∙ ap (λ (s : Setup). s.tables.rows) c.rules.view_is in
    let once = listed_times c.items.result.now c.args.rules.now.tables.rows c.args.drivers.now c.rows.result.now c.driver_of-driver.result c.args.unit r rows c.requires.driven c.rows.ensures in
    c.enter.ensures.numbers r
    ∙ ap (λ (n : ℕ). slice_index_or c.args.taken.now r 0 + n) (once ∙ ap (λ (d : ℕ). one_if (is_of c.args.rules.now.tables.rows d c.args.unit r)) c.driver_of-driver.ensures)
