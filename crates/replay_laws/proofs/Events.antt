-- What is printed of a deed is of one line.
use Rattle.std.proofs.Common.{◌≡◌, ℕ, true, List, [], ◌∷◌, ◌++◌, length, map, decimal, Option, Some, None, option_map, refl}
use Rattle.std.specs.Prelude.{IfSome, All, codes}
use Rattle.std.specs.List.{AllByRecursion}
use Rattle.std.proofs.lemmas.List.Elements.{All-head}
use Rattle.cf_types.specs.declared.machine.Command.{Command}
use Rattle.cf_types.specs.declared.machine.Command.TheVariants as command
use Rattle.config_rules.specs.ScriptText.{FormedCommand, is_operand}
use Rattle.run_rules.specs.declared.deed.Deed.{Deed}
use Rattle.run_rules.specs.declared.deed.Deed.TheVariants.{Search, EndScan, BeginInterrupts, Finalise, EndCaller, Drop, Refuse, Done, Free, Sleep, Wake, EndPower}
use Rattle.run_rules.specs.declared.deed.PowerEnd.{PowerEnd}
use Rattle.run_rules.specs.declared.deed.PowerEnd.TheVariants as ends
use Rattle.run_rules.specs.declared.deed.CommandRefusal.{CommandRefusal}
use Rattle.run_rules.specs.declared.deed.CommandRefusal.TheVariants as refusal
use Rattle.run_rules.specs.declared.event.Act.TheVariants as act
use Rattle.run_rules.specs.declared.event.Format.{Format}
use Rattle.run_rules.specs.declared.event.Format.TheVariants as format
use Rattle.run_rules.specs.declared.event.Reply.{Reply}
use Rattle.run_rules.specs.declared.event.Reply.TheVariants as reply
use Rattle.run_rules.specs.declared.world.Arrival.{Arrival}
use Rattle.run_rules.specs.declared.world.Dev.{Dev}
use Rattle.run_rules.specs.declared.world.Setup.{Setup}
use Rattle.run_rules.specs.Lines.{act_text, act_text_1, line_of, line_of_1}
use Rattle.run_rules.specs.Next.{command_of}
use Rattle.run_rules.specs.Reread.{line_in}
use Rattle.run_rules.specs.Run.{answered, depth_name, end_of, event_of, got_of, list_names, number_of, power_name, printed, reply_of, shown_of, told, tree_names}
use Rattle.run_rules.specs.Tree.{tree_below}
use Rattle.run_rules.specs.World.{World, children, device_named, name_of}
use Rattle.run_sound.specs.Kept.{MayRun}
use Rattle.run_sound.proofs.Reasons.{option_both}
use Rattle.replay_laws.specs.OneLine.{IsOneLine}
use Rattle.replay_laws.specs.Taken.{MayPlay}
use Rattle.replay_laws.proofs.Acts.{PlainAct, PlainGot, PlainReply, PlainShown, act_line, act_line_1}
use Rattle.replay_laws.proofs.Names.{command_formed, live_line, operand_line, parent_line, spot_line, unit_line}
use Rattle.replay_laws.proofs.OneLine.{decimal_line, joined, joined_4}

reply_plain : (w : World) (why : CommandRefusal) → MayRun w.setup → PlainReply (reply_of w why)
reply_plain w refusal.NoDevice may = tt
reply_plain w refusal.Gone may = tt
reply_plain w refusal.Exclusive may = tt
reply_plain w refusal.TooMany may = tt
reply_plain w refusal.Shared may = tt
reply_plain w refusal.NotHeld may = tt
reply_plain w refusal.Asleep may = tt
reply_plain w (refusal.Busy s) may = live_line w s may
reply_plain w refusal.NoRescan may = tt
reply_plain w refusal.BadAttribute may = tt
reply_plain w refusal.BadLocator may = tt
reply_plain w refusal.NoSpot may = tt

end_plain : (w : World) (end : PowerEnd) → MayRun w.setup → PlainReply (end_of w end)
end_plain w ends.Done may = tt
end_plain w ends.Gone may = tt
end_plain w (ends.NotSupported s) may = live_line w s may
end_plain w (ends.Failed s) may = live_line w s may

got_plain : (s : Setup) (got : Option Arrival) → MayRun s → PlainGot (got_of s got)
got_plain s None may = tt
got_plain s (Some a) may = unit_line s a.row a.unit may

shown_plain : (s : Setup) (spot : Option ℕ) (got : Option Arrival) → MayRun s → PlainShown (shown_of s spot got)
shown_plain s None got may = tt
shown_plain s (Some x) got may = (spot_line s x may, got_plain s got may)

-- ---- commands

devices_plain : (s : Setup) (ds : List Dev) → MayRun s → AllByRecursion IsOneLine (map (name_of s) ds)
devices_plain s [] may = tt
devices_plain s (d ∷ ds) may = (unit_line s d.row d.unit may, devices_plain s ds may)

depths_plain : (s : Setup) (es : List (ℕ × Dev)) → MayRun s → AllByRecursion (λ d. IsOneLine d.name) (map (depth_name s) es)
depths_plain s [] may = tt
depths_plain s (e ∷ es) may = (unit_line s e.1.row e.1.unit may, depths_plain s es may)

named_plain : {A B : Type 0} (P : B → Type 0) (f : A → B) (o : Option A) → ((a : A) → P (f a)) → IfSome (option_map f o) P
named_plain P f None h = tt
named_plain P f (Some a) h = h a

list_plain : (w : World) (name : Option (List ℕ)) → MayRun w.setup → IfSome (list_names w name) (AllByRecursion IsOneLine)
unfolding list_names
list_plain w None may = devices_plain w.setup (children w.live 0) may
list_plain w (Some name) may =
    named_plain (AllByRecursion IsOneLine) (λ d. map (name_of w.setup) (children w.live d.serial)) (device_named w.setup w.live name)
    (λ d. devices_plain w.setup (children w.live d.serial) may)

tree_plain : (w : World) (name : Option (List ℕ)) → MayRun w.setup → IfSome (tree_names w name) (AllByRecursion (λ d. IsOneLine d.name))
unfolding tree_names
tree_plain w None may = depths_plain w.setup (tree_below (length w.live) w.live 0 0) may
tree_plain w (Some name) may =
    named_plain (AllByRecursion (λ d. IsOneLine d.name)) (λ (d : Dev). map (depth_name w.setup) ((0, d) ∷ tree_below (length w.live) w.live 1 d.serial)) (device_named w.setup w.live name)
    (λ d. depths_plain w.setup ((0, d) ∷ tree_below (length w.live) w.live 1 d.serial) may)

first_line : (name : List ℕ) (names : List (List ℕ)) → All (λ name. is_operand name ≡ true) (name ∷ names) → IsOneLine name
first_line name names all = operand_line name (All-head (λ name. is_operand name ≡ true) name names all)

told_plain : (w : World) (said : Command) (r : Reply) → MayRun w.setup → FormedCommand said → PlainReply r → PlainAct (told w said r)
told_plain w (command.OpenDev name) r may formed h = (first_line name [] formed.names, h)
told_plain w (command.OpenSole name) r may formed h = (first_line name [] formed.names, h)
told_plain w (command.CloseDev name) r may formed h = (first_line name [] formed.names, h)
told_plain w (command.Io name value) r may formed h = (first_line name [] formed.names, h)
told_plain w (command.Detach name) r may formed h = (first_line name [] formed.names, h)
told_plain w (command.Rescan name None given) r may formed h = (first_line name (map (λ g. g.name) given) formed.names, h)
told_plain w (command.Rescan name (Some attr) given) r may formed h = (first_line name (attr ∷ map (λ g. g.name) given) formed.names, h)
told_plain w (command.ListDev None) r may formed h = (tt, list_plain w None may)
told_plain w (command.ListDev (Some name)) r may formed h = (first_line name [] formed.names, list_plain w (Some name) may)
told_plain w (command.TreeDev None) r may formed h = (tt, tree_plain w None may)
told_plain w (command.TreeDev (Some name)) r may formed h = (first_line name [] formed.names, tree_plain w (Some name) may)
told_plain w (command.Suspend name) r may formed h = (first_line name [] formed.names, h)
told_plain w (command.Resume name) r may formed h = (first_line name [] formed.names, h)
told_plain w (command.ResumeTree name) r may formed h = (first_line name [] formed.names, h)
told_plain w (command.Plug name) r may formed h = (first_line name [] formed.names, h)
told_plain w (command.Unplug name) r may formed h = (first_line name [] formed.names, h)

answered_plain : (w : World) (k : ℕ) (r : Reply) → MayPlay w.setup → PlainReply r → PlainAct (answered w k r)
answered_plain w k r play h =
    option_both PlainAct (λ said. told w said r) (command_of w k) act.End (λ said is. told_plain w said r play.may (command_formed w k said play.scripts is) h) (λ _. tt)

power_line : (c : Option Command) → ((said : Command) → c ≡ Some said → FormedCommand said) → IsOneLine (power_name c)
power_line (Some (command.Suspend name)) formed = first_line name [] (formed (command.Suspend name) refl).names
power_line (Some (command.Resume name)) formed = first_line name [] (formed (command.Resume name) refl).names
power_line (Some (command.ResumeTree name)) formed = first_line name [] (formed (command.ResumeTree name) refl).names
power_line _ formed = refl

-- ---- deeds

printed_plain : (w : World) (k : ℕ) (d : Deed) → MayPlay w.setup → PlainAct (printed w k d)
unfolding printed
printed_plain w k (Search p spot to got) play = (parent_line w.setup w.live p play.may, spot_line w.setup spot play.may, got_plain w.setup got play.may)
printed_plain w k (EndScan p) play = parent_line w.setup w.live p play.may
printed_plain w k BeginInterrupts play = tt
printed_plain w k (Finalise s spot got listed anew) play = (live_line w s play.may, shown_plain w.setup spot got play.may)
printed_plain w k EndCaller play = tt
printed_plain w k (Drop s) play = live_line w s play.may
printed_plain w k (Refuse why) play = answered_plain w k (reply_of w why) play (reply_plain w why play.may)
printed_plain w k (Done ticket) play = live_line w ticket.serial play.may
printed_plain w k (Free s) play = live_line w s play.may
printed_plain w k (Sleep s) play = live_line w s play.may
printed_plain w k (Wake s) play = live_line w s play.may
printed_plain w k (EndPower end) play = (power_line (command_of w k) (λ said is. command_formed w k said play.scripts is), end_plain w end play.may)
printed_plain w k d play = answered_plain w k reply.Ok play tt

pub headed : (caller number : ℕ) (text : List ℕ) → IsOneLine text → IsOneLine (decimal caller ++ codes "." ++ decimal number ++ codes " " ++ text)
headed caller number text h =
    joined (decimal caller ++ codes "." ++ decimal number ++ codes " ") text (joined_4 (decimal caller) (codes ".") (decimal number) (codes " ") (decimal_line caller) refl (decimal_line number) refl) h

pub event_line : (f : Format) (w : World) (k : ℕ) (d : Deed) → MayPlay w.setup → IsOneLine (line_in f (event_of w k d))
unfolding event_of line_of line_of_1
event_line format.First w k d play = headed k (number_of w k) (act_text_1 (printed w k d)) (act_line_1 (printed w k d) (printed_plain w k d play))
event_line format.Second w k d play = headed k (number_of w k) (act_text (printed w k d)) (act_line (printed w k d) (printed_plain w k d play))
