use Rattle.std.proofs.Common.{◌≡◌, ◌∙◌, None, sym, subst, ap}
use Rattle.std.proofs.lemmas.Bool.{ne_eqb}
use Rattle.run_rules.specs.Search.{driver_at}
use Rattle.live_rules.specs.Live.{LiveWorld, search_below}
use Rattle.live_tables.specs.Coming.{Searched}
use Rattle.live_tables.proofs.Offers.{live_at, none_below, root_below}
use Rattle.live_tables.proofs.live_tables.LiveTables.search_below.Goals as goal

pub search_device-requires-clause-known : goal.search_device-requires-clause-known
search_device-requires-clause-known c = live_at c.args.self.now c.args.parent c.in-Some.driver (sym c.driver_at.ensures ∙ c.in-Some.is)

pub returns-in-None : goal.returns-in-None
returns-in-None c =
    let none : driver_at c.args.self.now.site.setup c.args.self.now.world.live 0 ≡ None = ap (driver_at c.args.self.now.site.setup c.args.self.now.world.live) (sym c.if-parent-eq0.true) ∙ sym c.driver_at.ensures ∙ c.in-None.is in
    subst (λ (w : LiveWorld). Searched c.args.self.now c.search_place.new.self w c.args.lines.now.items c.search_place.new.lines.items c.search_place.result)
    (root_below c.args.self.now none ∙ ap (search_below c.args.self.now.site c.args.self.now.world) (sym c.if-parent-eq0.true)) c.search_place.ensures

pub returns-in-None-2 : goal.returns-in-None-2
returns-in-None-2 c = none_below c.args.self.now c.args.parent c.args.lines.now.items (sym c.driver_at.ensures ∙ c.in-None.is) (ne_eqb c.args.parent 0 c.if-parent-eq0.false)
