-- What is told of every order, by the runs of the definitions.
use Rattle.std.proofs.Common.{◌≡◌, ◌∙◌, ℕ, List, map, ap, refl, sym, subst}
use Rattle.std.proofs.lemmas.List.Elements.{All-weaker}
use Rattle.progress_laws.specs.Still.{HaveAllEnded, IsStuck}
use Rattle.every_order.specs.Every.{IsEveryOrder}
use Rattle.every_order.specs.Kinds.{wait_text}
use Rattle.every_order.specs.Ways.{AreWays, IsShortest}
use Rattle.every_order.specs.declared.every.Every.{Every}
use Rattle.every_order.specs.declared.ways.Way.{Way}
use Rattle.every_order.proofs.Reaching.{as_runs, is_played}
use Rattle.run_rules.specs.declared.world.Setup.{Setup}
use Rattle.run_rules.specs.Run.{played}
use Rattle.run_rules.specs.Tree.{tree_text}
use Rattle.run_rules.specs.World.{World}
use Rattle.app_every.specs.Laws.{AreTold, EveryTellsRuns, IsPlayedTo}

-- a shortest order, played
played_to : (w : World) (Kind : World → Type 0) (text_of : World → List ℕ) (way : Way) → IsShortest w Kind text_of way.text.items way.order.items → IsPlayedTo w Kind text_of way
played_to w Kind text_of way shortest =
    let to = shortest.way in
    let is : (played w way.order.items).1 ≡ to.world = is_played w way.order.items to.world to.leads in
    (subst Kind (sym is) to.kind, ap text_of is ∙ to.same)

told_ways : (w : World) (Kind : World → Type 0) (text_of : World → List ℕ) (ways : List Way) → AreWays w Kind text_of ways → AreTold w Kind text_of ways
told_ways w Kind text_of ways are = record {
  played = All-weaker (λ way. IsShortest w Kind text_of way.text.items way.order.items) (IsPlayedTo w Kind text_of) (played_to w Kind text_of) ways are.real;
  all = λ h v run kind. are.every (map (λ e. e.caller) h) v ((as_runs w (map (λ e. e.caller) h) v).1 (record { events = h; run = run; callers = refl })) kind;
}

pub every_tells_runs : EveryTellsRuns
every_tells_runs s most e found = record {
  world = found.world;
  booted = found.booted;
  ends = told_ways found.world HaveAllEnded tree_text e.ends.items found.every.ends;
  stuck = told_ways found.world IsStuck wait_text e.stuck.items found.every.stuck;
}
