-- What a reading answers, and how it goes on.
use Rattle.std.specs.Prelude.{◌≡◌, ℕ, ⊤, List, ◌++◌}
use Rattle.std.specs.declared.result.Result.{Result}
use Rattle.std.specs.declared.result.Result.TheVariants.{Ok, Err}
use Rattle.cf_types.specs.declared.tree.DevLine.{DevLine}
use Rattle.run_rules.specs.declared.event.Event.{Event}
use Rattle.run_rules.specs.declared.world.Setup.{Setup}
use Rattle.run_rules.specs.Reread.{reread}
use Rattle.run_rules.specs.Tree.{tree_lines}
use Rattle.run_rules.specs.World.{World, opening}
use Rattle.history_laws.specs.Reliable.{IsReliable}
use Rattle.replay_laws.specs.Taken.{Takes}
use Rattle.history_replay.specs.declared.history.Replayed.{Replayed}
use Rattle.history_replay.specs.declared.history.ReplayStop.{ReplayStop}
use Rattle.history_replay.specs.declared.history.ReplayStop.TheVariants.{Bad, Memory}

-- the same with these events before its own
abbrev pub behind : List Event → Result (List Event × World) ℕ → Result (List Event × World) ℕ
behind before (Ok run) = Ok (before ++ run.0, run.1)
behind before (Err bad) = Err bad

-- a refusal is of the bad line, or memory ran out
abbrev pub IsStop : ReplayStop → Result (List Event × World) ℕ → Type 0
IsStop Memory r = ⊤
IsStop (Bad line) (Err bad) = line ≡ bad
IsStop (Bad line) (Ok run) = ⊥

-- the events, which lead to the world, or such a refusal
abbrev pub IsRead : Result (List Event × World) ℕ → Result (List Event) ReplayStop → World → Type 0
IsRead r (Ok events) w = r ≡ Ok (events, w)
IsRead r (Err stop) w = IsStop stop r

-- the events and the tree of the world that they lead to
abbrev pub IsReplay : Result (List Event × World) ℕ → Result Replayed ReplayStop → Type 0
IsReplay r (Ok told) = (v : World) × (r ≡ Ok (told.events, v)) × (told.tree ≡ tree_lines v)
IsReplay r (Err stop) = IsStop stop r

-- and the tree alone
abbrev pub IsTree : Result (List Event × World) ℕ → Result (List DevLine) ReplayStop → Type 0
IsTree r (Ok tree) = (h : List Event) × (v : World) × (r ≡ Ok (h, v)) × (tree ≡ tree_lines v)
IsTree r (Err stop) = IsStop stop r

-- what a text tells from the opening world on
abbrev pub Rereads : Setup → List ℕ → Result Replayed ReplayStop → Type 0
Rereads s text r = IsReplay (reread (opening s) text) r

abbrev pub Replays : Setup → List ℕ → Result (List DevLine) ReplayStop → Type 0
Replays s text r = IsTree (reread (opening s) text) r

-- the text is taken as a history that may be relied on, which leads to this tree
abbrev pub IsReliableTree : Setup → List ℕ → List DevLine → Type 0
IsReliableTree s text tree = (h : List Event) × (v : World) × Takes s text h v × IsReliable h v × (tree ≡ tree_lines v)
