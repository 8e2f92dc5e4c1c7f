use Rattle.std.proofs.Common.{◌∙◌, sym}
use Rattle.run_rules.specs.Search.{spot_of}
use Rattle.run_sound.proofs.Callers.{clash}
use Rattle.live_tables.proofs.Comings.{child_hangs, may_come, spot_came, spot_same}
use Rattle.live_tables.proofs.live_tables.LiveTables.search_spot.Goals as goal

pub attach-requires : goal.attach-requires
attach-requires c = record {
  may = may_come c.args.self.now c.args.parent c.args.place c.args.spot c.in-Some.row c.requires.parent (sym c.is_free.ensures ∙ c.if-not-is_free.false) (sym c.winner.ensures ∙ c.in-Some.is);
}

pub winner-requires-clause-here : goal.winner-requires-clause-here
winner-requires-clause-here c = child_hangs c.args.self.now.site.setup.machine (spot_of c.args.self.now.world.live c.args.parent) c.args.place c.args.spot c.requires.child

pub returns-then-not-is_free : goal.returns-then-not-is_free
returns-then-not-is_free c =
    spot_same c.args.self.now c.args.parent c.args.place c.args.spot c.args.lines.now.items (λ free. clash c.is_free.result (c.is_free.ensures ∙ free) c.if-not-is_free.true)

pub returns-in-Some : goal.returns-in-Some
returns-in-Some c =
    spot_came c.args.self.now c.attach.new.self c.args.parent c.args.place c.args.spot c.in-Some.row c.args.lines.now.items c.attach.new.lines.items c.attach.result
    (sym c.is_free.ensures ∙ c.if-not-is_free.false) (sym c.winner.ensures ∙ c.in-Some.is) c.attach.ensures.ok c.attach.ensures.line c.attach.ensures.err c.attach.ensures.no_line

pub returns-in-None : goal.returns-in-None
returns-in-None c = spot_same c.args.self.now c.args.parent c.args.place c.args.spot c.args.lines.now.items (λ free. sym c.winner.ensures ∙ c.in-None.is)
