-- What the removal of a group answers.
use Rattle.std.proofs.Common.{◌≡◌, ◌<◌, ◌==◌, ℕ, true, false, not, List, ◌++◌, length, map, Some, None, refl}
use Rattle.std.specs.Prelude.{filter}
use Rattle.std.specs.List.{AllByRecursion}
use Rattle.run_rules.specs.declared.world.Dev.{Dev}
use Rattle.run_rules.specs.World.{has, name_of, policy_of}
use Rattle.run_rules.proofs.Devices.{found_in}
use Rattle.run_sound.proofs.Callers.{all_filter}
use Rattle.run_sound.proofs.Members.{each_of, each_passed}
use Rattle.std.proofs.lemmas.Bool.{not-true}
use Rattle.live_rules.specs.declared.plan.LiveLine.{LiveLine}
use Rattle.live_rules.specs.declared.plan.LiveReply.TheVariants as reply
use Rattle.live_rules.specs.Laws.{IsSound}
use Rattle.live_rules.specs.Live.{LiveWorld, LiveSite, doomed, freed, freed_line, hinders, is_doomed, is_in, remove, remove_unless, removed, spared}
use Rattle.live_rules.proofs.Appends.{append_nil}
use Rattle.live_rules.proofs.Kept.{not_in}
use Rattle.live_tables.specs.Answers.{Answers}
use Rattle.live_tables.specs.Going.{with_groups, with_live}
use Rattle.live_tables.specs.Running.{Running}

pub is_off_already : (r : Running) (g : ℕ) (lines : List LiveLine) → has r.world.on g ≡ false → Answers r r lines lines (remove r.site r.world g) reply.OffAlready
unfolding remove
is_off_already r g lines off = rw off (record { reply = refl; leaves = record { running = refl; lines = append_nil lines } })

pub is_busy : (r : Running) (g : ℕ) (d : Dev) (name : List ℕ) (lines : List LiveLine) → has r.world.on g ≡ true → hinders r.site r.world g ≡ Some d → name ≡ name_of r.site.setup d
    → Answers r r lines lines (remove r.site r.world g) (reply.Busy name)
unfolding remove remove_unless
is_busy r g d name lines on some is = rw (on, some, is) (record { reply = refl; leaves = record { running = refl; lines = append_nil lines } })

pub is_removed : (r v : Running) (g : ℕ) (old new : List LiveLine) → has r.world.on g ≡ true → hinders r.site r.world g ≡ None
    → v ≡ with_groups (with_live r (spared r.site r.world g)) (filter (λ h. not (h == g)) r.world.on) → new ≡ old ++ map (freed_line r.site) (freed r.site r.world g)
    → Answers r v old new (remove r.site r.world g) reply.Ok
unfolding remove remove_unless removed
is_removed r v g old new on none is told = rw (on, none) (record { reply = refl; leaves = record { running = is; lines = told } })

-- what hinders came by a row that is there
pub hindering_row : (t : LiveSite) (w : LiveWorld) (g : ℕ) (d : Dev) → IsSound t w → hinders t w g ≡ Some d → d.row < length t.setup.tables.rows
unfolding hinders doomed
hindering_row t w g d h some =
    found_in (λ (e : Dev). e.row < length t.setup.tables.rows) (λ (e : Dev). (policy_of t.setup e.row).nodetach) (filter (λ (e : Dev). is_doomed t w.live g e.serial) w.live) d
    (all_filter (λ (e : Dev). e.row < length t.setup.tables.rows) (λ (e : Dev). is_doomed t w.live g e.serial) w.live h.rows) some

-- none of those that are left is in the group
pub none_in : (t : LiveSite) (w : LiveWorld) (g : ℕ) → IsSound t w → AllByRecursion (λ (d : Dev). is_in t g d.row ≡ false) (spared t w g)
unfolding spared
none_in t w g h =
    each_passed (λ (d : Dev). is_in t g d.row ≡ false) (λ (d : Dev). not (is_doomed t w.live g d.serial)) w.live
    (each_of (λ (d : Dev). not (is_doomed t w.live g d.serial) ≡ true → is_in t g d.row ≡ false) w.live (λ d here pass. not_in t w g d h here (not-true (is_doomed t w.live g d.serial) pass)))
