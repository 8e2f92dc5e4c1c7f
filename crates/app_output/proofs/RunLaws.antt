-- The parts of a run's text, one behind the other.
use Rattle.std.proofs.Common.{◌≡◌, ℕ, List, ◌++◌, map, refl, ap, ◌∙◌, subst}
use Rattle.std.specs.Prelude.{codes, Result}
use Rattle.cf_types.specs.Lines.{text_of}
use Rattle.cf_types.specs.declared.tables.Tables.{Tables}
use Rattle.cf_types.specs.declared.tree.DevLine.{DevLine}
use Rattle.cf_io.specs.Told.{Told, Grows}
use Rattle.config_rules.specs.Listing.{listing}
use Rattle.run_rules.specs.declared.event.Event.{Event}
use Rattle.run_rules.specs.Lines as history
use Rattle.run_rules.specs.Tree as tree
use Rattle.run_rules.specs.World.{World}
use Rattle.app_output.specs.Output.{Puts, Stops}
use Rattle.app_output.specs.RunText.{run_text, tree_of}
use Rattle.app_output.specs.declared.stop.OutputStop.{OutputStop}
use Rattle.app_output.proofs.Puts.{puts_stops, puts_then}

-- a history is its head and the lines of its events
history_parts : (h : List Event) → codes "history 2\n" ++ text_of (map history.line_of h) ≡ history.lines h
unfolding history.lines
history_parts h = refl

pub history_stops : (h : List Event) (rest : List ℕ) (old new : Told) (stop : OutputStop) → Stops (codes "history 2\n" ++ text_of (map history.line_of h)) old new stop
    → Stops (history.lines h ++ rest) old new stop
history_stops h rest old new stop stops =
    puts_stops (history.lines h) rest old new stop (subst (λ (text : List ℕ). Stops text old new stop) (history_parts h) stops)

pub history_then : {A : Type 0} (h : List Event) (rest : List ℕ) (old mid new : Told) (result : Result A OutputStop)
    → Grows (codes "history 2\n" ++ text_of (map history.line_of h)) old mid × (mid.faults ≡ old.faults) → Puts rest mid new result → Puts (history.lines h ++ rest) old new result
history_then h rest old mid new result put behind =
    puts_then (history.lines h) rest old mid new result (subst (λ (text : List ℕ). Grows text old mid) (history_parts h) put.0, put.1) behind

-- a tree is its head and the lines of its devices
pub tree_is : (w : World) (devices : List DevLine) → devices ≡ tree.tree_lines w → tree_of devices ≡ tree.tree_text w
unfolding tree.tree_text
tree_is w devices is = ap (λ (ls : List DevLine). tree_of ls) is

pub tree_put : {A : Type 0} (w : World) (devices : List DevLine) (old new : Told) (result : Result A OutputStop) → devices ≡ tree.tree_lines w
    → Puts (tree_of devices) old new result → Puts (tree.tree_text w) old new result
tree_put w devices old new result is put = subst (λ (text : List ℕ). Puts text old new result) (tree_is w devices is) put

-- the listing, and then the history and the tree
run_parts : (tables : Tables) (h : List Event) (w : World) → listing tables ++ (history.lines h ++ tree.tree_text w) ≡ run_text tables h w
unfolding run_text
run_parts tables h w = refl

pub run_stops : (t tables : Tables) (h : List Event) (w : World) (old new : Told) (stop : OutputStop) → t ≡ tables → Stops (listing t) old new stop → Stops (run_text tables h w) old new stop
run_stops t tables h w old new stop is stops =
    subst (λ (text : List ℕ). Stops text old new stop) (ap (λ (x : Tables). listing x ++ (history.lines h ++ tree.tree_text w)) is ∙ run_parts tables h w)
    (puts_stops (listing t) (history.lines h ++ tree.tree_text w) old new stop stops)

pub run_then : {A : Type 0} (t tables : Tables) (h : List Event) (w : World) (old mid new : Told) (result : Result A OutputStop) → t ≡ tables
    → Grows (listing t) old mid × (mid.faults ≡ old.faults) → Puts (history.lines h ++ tree.tree_text w) mid new result → Puts (run_text tables h w) old new result
run_then t tables h w old mid new result is head rest =
    subst (λ (text : List ℕ). Puts text old new result) (ap (λ (x : Tables). listing x ++ (history.lines h ++ tree.tree_text w)) is ∙ run_parts tables h w)
    (puts_then (listing t) (history.lines h ++ tree.tree_text w) old mid new result head rest)
