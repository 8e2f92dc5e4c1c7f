-- How many events the scripts' callers did, and how many of them have ended: this project's profile.
use Rattle.std.specs.Prelude.{ℕ, Bool, true, false, not, ◌&&◌, ◌==◌, List, count_by}
use Rattle.run_rules.specs.declared.event.Event.{Event}
use Rattle.run_rules.specs.declared.event.Act.{Act}
use Rattle.run_rules.specs.declared.event.Act.TheVariants as act

abbrev pub is_end : Act → Bool
is_end act.End = true
is_end _ = false

-- the event of a script's caller, and the one with which it ends
abbrev pub is_of_script : Event → Bool
is_of_script e = not (e.caller == 0)

unfoldable pub closes_script : Event → Bool
closes_script e = is_of_script e && is_end e.act

abbrev pub dids_of : List Event → ℕ
dids_of h = count_by is_of_script h

abbrev pub ends_of : List Event → ℕ
ends_of h = count_by closes_script h
