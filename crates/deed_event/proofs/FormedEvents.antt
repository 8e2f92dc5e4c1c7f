-- Each event that a caller does next is formed.
use Rattle.std.proofs.Common.{◌≡◌, ◌<◌, ◌≤◌, ◌^◌, ◌%◌, nat_lt, ℕ, zero, suc, ◌+◌, ◌-◌, ◌==◌, Bool, true, false, ◌||◌, cond, List, [], ◌∷◌, length, map, find, option_map, slice_get, Option, Some, None, refl, sym, subst, inl, inr, arith}
use Rattle.std.specs.Prelude.{⊤, All, IfSome}
use Rattle.std.specs.List.{AllByRecursion, slice_index_or}
use Rattle.std.specs.Option.{option_map_or}
use Rattle.std.proofs.lemmas.Bool.Decides.{nat_tests}
use Rattle.std.proofs.lemmas.Option.{same_Some}
use Rattle.cf_types.specs.declared.machine.Command.{Command}
use Rattle.cf_types.specs.declared.machine.Command.TheVariants as command
use Rattle.cf_types.specs.declared.machine.Given.{Given}
use Rattle.cf_types.specs.declared.machine.Spot.{Spot}
use Rattle.cf_types.specs.declared.machine.Ticket.{Ticket}
use Rattle.cf_types.specs.Lookups.{attr_number, spot_number}
use Rattle.config_rules.specs.MachineText.{is_free_name}
use Rattle.config_rules.specs.ScriptText.{FormedCommand, FormedScript}
use Rattle.run_rules.specs.declared.event.Act.TheVariants as act
use Rattle.run_rules.specs.declared.event.IoAnswer.TheVariants as answer
use Rattle.run_rules.specs.declared.event.PowerKind.{PowerKind}
use Rattle.run_rules.specs.declared.event.PowerKind.TheVariants as kind
use Rattle.run_rules.specs.declared.event.Reply.{Reply}
use Rattle.run_rules.specs.declared.event.Reply.TheVariants as reply
use Rattle.run_rules.specs.declared.world.Arrival.{Arrival}
use Rattle.run_rules.specs.declared.world.Dev.{Dev}
use Rattle.run_rules.specs.declared.world.Position.{Position}
use Rattle.run_rules.specs.declared.world.Setup.{Setup}
use Rattle.run_rules.specs.World.{World, caller_at, children, device_at, device_named, device_on, driver_name, driver_of, has, is_condemned, is_held, is_pinned, is_referred, name_of, offered_by, parent_name, policy_of, root_name, unit_name}
use Rattle.run_rules.specs.declared.deed.Deed.{Deed}
use Rattle.run_rules.specs.declared.deed.Deed.TheVariants.{Search, EndScan, BeginInterrupts, Finalise, EndCaller, Drop, Refuse, Open, Close, Start, Done, Detach, Free, Rescan, BeginPower, Sleep, Wake, EndPower, Plug, Unplug, Tell}
use Rattle.run_rules.specs.declared.deed.Choice.{Choice}
use Rattle.run_rules.specs.declared.deed.Choice.TheVariants.{Does}
use Rattle.run_rules.specs.Next.{command_deed, command_of, has_nothing, hindered, is_hindrance, name_at, next, next_sleep, next_wake, on_device, on_held, powering, rescan_of, suspending, telling, unless_hindered, waking, wanted_of}
use Rattle.run_rules.specs.References.{count_in}
use Rattle.run_rules.specs.Run.{answer_of, answered, depth_name, end_of, event_of, got_of as named_of, list_names, number_of, power_name, printed, reply_of, shown_of, spot_name, told, tree_names}
use Rattle.run_rules.specs.Tree.{tree_below}
use Rattle.run_rules.specs.Lines.{IsDeviceName, IsFormed, IsFormedAct, IsFormedAnswer, IsFormedDepthName, IsFormedGot, IsFormedName, IsFormedShown, IsSpotName, MayClose, MayDetach, MayEndPower, MayOpen, MayOpenSole, MayPlug, MayPower, MayRescan, MayStart, MayTell, MayUnplug}
use Rattle.run_rules.proofs.Devices.{all_both, all_imp}
use Rattle.run_rules.proofs.FormedNames.{device_known, root_known, written_device}
use Rattle.run_sound.specs.Calls.{CallsDevices}
use Rattle.run_sound.proofs.Commands.{Begins, EndsPower}
use Rattle.run_sound.specs.Kept.{Kept, MayRun}
use Rattle.run_sound.specs.Scripts.{power_command}
use Rattle.run_sound.proofs.Arrivals.{finalise_comes, search_comes}
use Rattle.run_sound.proofs.Callers.{all_filter}
use Rattle.run_sound.proofs.Members.{all_flat_of, contained_live, each_mapped, found_contained, found_from_end, found_of}
use Rattle.config_rules.proofs.Parts.{cond_both}
use Rattle.run_sound.proofs.Reasons.{option_both, has_command_reason}
use Rattle.run_sound.proofs.ScriptLaws.{doer_low, over_low}
use Rattle.run_world.specs.Arrivals.{MayArrive}
use Rattle.run_world.specs.Events.{IsLive}
use Rattle.run_world.specs.Arrivals.{got_of}
use Rattle.told_names.specs.Naming.{HasRow}
use Rattle.run_world.specs.Scripted.{FormedScripts}
use Rattle.run_rules.specs.declared.deed.PowerEnd.{PowerEnd}
use Rattle.deed_event.proofs.FormedNames.{driver_written}
use Rattle.run_world.proofs.InputLaws.{bounded}
use Rattle.told_names.proofs.LateLaws.{any_found}
use Rattle.run_world.proofs.StepLaws.{deed_arrives}
use Rattle.run_sound.proofs.Told.{may_be_told, power_end, searched_inside, shown_there}

-- ---- names

abbrev Named : World → Dev → Type 0
Named w d = IsDeviceName (name_of w.setup d)

abbrev AllNamed : World → Type 0
AllNamed w = AllByRecursion (Named w) w.live

row_named : (s : Setup) (r u : ℕ) → MayRun s → r < length s.tables.rows → u < 2 ^ 32 → IsDeviceName (unit_name s r u)
unfolding unit_name
row_named s r u may row small = written_device (driver_name s (driver_of s r)) u (driver_written s r (bounded s may).tables row) small

-- the names of live devices are those of devices
all_named : (w : World) → MayRun w.setup → Kept w → AllNamed w
all_named w may kept =
    all_both (λ (d : Dev). d.row < length w.setup.tables.rows) (λ (d : Dev). d.unit < 2 ^ 32) (Named w) (λ d row small. row_named w.setup d.row d.unit may row small) w.live kept.ranges.devices.rows kept.ranges.devices.units

live_named : (w : World) (s : ℕ) → AllNamed w → IsLive w.live s → IsDeviceName (name_at w s)
live_named w s named live = cases (device_at w.live s) refl
  where
    cases : (o : Option Dev) → device_at w.live s ≡ o → IsDeviceName (option_map_or (name_of w.setup) o [])
    cases None e = absurd (any_found (λ d. d.serial == s) w.live live e)
    cases (Some d) e = found_of (Named w) (λ d. d.serial == s) w.live d named e

parent_known : (w : World) (p : ℕ) → AllNamed w → IsFormedName (parent_name w.setup w.live p)
unfolding parent_name
parent_known w p named = cases (device_at w.live p) refl
  where
    cases : (o : Option Dev) → device_at w.live p ≡ o → IsFormedName (option_map_or (name_of w.setup) o root_name)
    cases None e = root_known
    cases (Some d) e = device_known (name_of w.setup d) (found_of (Named w) (λ d. d.serial == p) w.live d named e)

live_known : (w : World) (s : ℕ) → AllNamed w → IsLive w.live s → IsFormedName (name_at w s)
live_known w s named live = device_known (name_at w s) (live_named w s named live)

-- ---- lists and trees

children_named : (w : World) (p : ℕ) → AllNamed w → AllByRecursion (Named w) (children w.live p)
children_named w p named = all_filter (Named w) (λ d. d.parent == p) w.live named

list_named : (w : World) (p : ℕ) → AllNamed w → AllByRecursion IsDeviceName (map (name_of w.setup) (children w.live p))
list_named w p named = each_mapped IsDeviceName (name_of w.setup) (children w.live p) (children_named w p named)

list_formed : (w : World) (name : Option (List ℕ)) → AllNamed w → IfSome name IsFormedName → MayTell IsDeviceName name (list_names w name)
unfolding list_names
list_formed w None named known = (refl, list_named w 0 named)
list_formed w (Some name) named known = (known, cases (device_named w.setup w.live name))
  where
    cases : (o : Option Dev) → IfSome (option_map (λ d. map (name_of w.setup) (children w.live d.serial)) o) (AllByRecursion IsDeviceName)
    cases None = tt
    cases (Some d) = list_named w d.serial named

abbrev AtNamed : World → ℕ → ℕ × Dev → Type 0
AtNamed w n e = Named w e.1 × (e.0 ≤ n)

-- so many levels below a depth
below_named : (w : World) (n depth p most : ℕ) → AllNamed w → depth + n ≤ suc most → AllByRecursion (AtNamed w most) (tree_below n w.live depth p)
unfolding tree_below
below_named w zero depth p most named fits = tt
below_named w (suc n) depth p most named fits =
    all_flat_of (AtNamed w most) (Named w) (λ d. (depth, d) ∷ tree_below n w.live (depth + 1) d.serial) (children w.live p)
    (λ d h. ((h, omega (arith, fits)), below_named w n (depth + 1) d.serial most named (omega (arith, fits)))) (children_named w p named)

depths_named : (w : World) (most : ℕ) (es : List (ℕ × Dev)) → most < 2 ^ 32 → AllByRecursion (AtNamed w most) es → AllByRecursion IsFormedDepthName (map (depth_name w.setup) es)
depths_named w most es few h =
    each_mapped IsFormedDepthName (depth_name w.setup) es (all_imp (AtNamed w most) (λ e. IsFormedDepthName (depth_name w.setup e)) (λ e at. (at.0, omega (arith, at.1, few))) es h)

tree_formed : (w : World) (name : Option (List ℕ)) → AllNamed w → length w.live < 2 ^ 32 → IfSome name IsFormedName → MayTell IsFormedDepthName name (tree_names w name)
unfolding tree_names
tree_formed w None named few known = (refl, depths_named w (length w.live) (tree_below (length w.live) w.live 0 0) few (below_named w (length w.live) 0 0 (length w.live) named (omega arith)))
tree_formed w (Some name) named few known = (known, cases (device_named w.setup w.live name) refl)
  where
    cases : (o : Option Dev) → device_named w.setup w.live name ≡ o
        → IfSome (option_map (λ d. map (depth_name w.setup) ((0, d) ∷ tree_below (length w.live) w.live 1 d.serial)) o) (AllByRecursion IsFormedDepthName)
    cases None e = tt
    cases (Some d) e = (
      (found_of (Named w) _ w.live d named e, omega arith),
      depths_named w (length w.live) (tree_below (length w.live) w.live 1 d.serial) few (below_named w (length w.live) 1 d.serial (length w.live) named (omega arith)),
    )

-- ---- replies

-- the replies of a command
abbrev Fits : Command → Reply → Type 0
Fits (command.OpenDev name) r = MayOpen r
Fits (command.OpenSole name) r = MayOpenSole r
Fits (command.CloseDev name) r = MayClose r
Fits (command.Io name value) r = MayStart r
Fits (command.Detach name) r = MayDetach r
Fits (command.Rescan name attr given) r = MayRescan r
Fits (command.ListDev name) r = MayPower r
Fits (command.TreeDev name) r = MayPower r
Fits (command.Suspend name) r = MayPower r
Fits (command.Resume name) r = MayPower r
Fits (command.ResumeTree name) r = MayPower r
Fits (command.Plug name) r = MayPlug r
Fits (command.Unplug name) r = MayUnplug r

-- the reply of a deed is one of its command's
abbrev FitsDeed : World → Command → Deed → Type 0
FitsDeed w said (Refuse why) = Fits said (reply_of w why)
FitsDeed w said (Open s sole) = Fits said reply.Ok
FitsDeed w said (Close s) = Fits said reply.Ok
FitsDeed w said (Start ticket) = Fits said reply.Ok
FitsDeed w said (Detach s) = Fits said reply.Ok
FitsDeed w said (Rescan s only) = Fits said reply.Ok
FitsDeed w said (BeginPower kind s) = Fits said reply.Ok
FitsDeed w said (Plug x) = Fits said reply.Ok
FitsDeed w said (Unplug x of) = Fits said reply.Ok
FitsDeed w said Tell = Fits said reply.Ok
FitsDeed w said _ = ⊤

by_if : (w : World) (said : Command) (b : Bool) (x y : Deed) → FitsDeed w said x → FitsDeed w said y → FitsDeed w said (cond b x y)
by_if w said b x y p q = cond_both (FitsDeed w said) b x y (λ e. p) (λ e. q)

by_option : {A : Type 0} (w : World) (said : Command) (f : A → Deed) (o : Option A) (d : Deed) → ((a : A) → o ≡ Some a → FitsDeed w said (f a)) → FitsDeed w said d → FitsDeed w said (option_map_or f o d)
by_option w said f o d p q = option_both (FitsDeed w said) f o d p (λ e. q)

-- who is found is live, and so has a name
found_named : (w : World) (test : Dev → Bool) (d : Dev) → AllNamed w → find test w.live ≡ Some d → IsDeviceName (name_at w d.serial)
found_named w test d named e = live_named w d.serial named (contained_live w.live d (found_contained test w.live d e))

device_fits : (w : World) (said : Command) (name : List ℕ) (body : Dev → Deed) → ((d : Dev) → FitsDeed w said (body d)) → Fits said reply.Gone → Fits said reply.NoDevice
    → FitsDeed w said (on_device w name body)
device_fits w said name body each gone none = by_option w said _ (device_named w.setup w.live name) _ (λ d e. by_if w said (is_condemned d) _ _ gone (each d)) none

held_fits : (w : World) (k : ℕ) (said : Command) (name : List ℕ) (body : Dev → Deed) → ((d : Dev) → FitsDeed w said (body d)) → Fits said reply.NotHeld → FitsDeed w said (on_held w k name body)
held_fits w k said name body each none = by_option w said _ (device_named w.setup w.live name) _ (λ d e. by_if w said (is_held w k d.serial) _ _ (each d) none) none

hindered_fits : (w : World) (k : ℕ) (said : Command) (s : ℕ) (forced : Bool) (deed : Deed) → AllNamed w → ((n : List ℕ) → IsDeviceName n → Fits said (reply.Busy n)) → FitsDeed w said deed
    → FitsDeed w said (unless_hindered w k s forced deed)
unfolding hindered
hindered_fits w k said s forced deed named busy rest =
    by_option w said _ (find (is_hindrance w s k forced) w.live) _ (λ x e. busy (name_at w x.serial) (found_named w (is_hindrance w s k forced) x named e)) rest

telling_fits : (w : World) (said : Command) (name : Option (List ℕ)) → Fits said reply.Ok → Fits said reply.NoDevice → FitsDeed w said (telling w name)
telling_fits w said None fine none = fine
telling_fits w said (Some name) fine none = by_option w said _ (device_named w.setup w.live name) _ (λ d e. fine) none

rescan_fits : (w : World) (d : Dev) (said : Command) (attr : Option (List ℕ)) (given : List Given) → Fits said reply.Ok → Fits said reply.BadLocator → Fits said reply.BadAttribute
    → FitsDeed w said (rescan_of w d attr given)
unfolding rescan_of
rescan_fits w d said None given fine locator attribute = fine
rescan_fits w d said (Some name) given fine locator attribute =
    by_option w said _ (attr_number w.setup.tables.attrs name) _
    (λ a e. by_if w said (has (offered_by w.setup d.row) a) _ _ (by_option w said _ (wanted_of _ given) _ (λ wanted g. fine) locator) attribute) attribute

command_fits : (w : World) (k n : ℕ) (said : Command) → AllNamed w → FitsDeed w said (command_deed w k n said)
unfolding command_deed
command_fits w k n (command.OpenDev name) named =
    let c : Command = command.OpenDev name in
    device_fits w c name _ (λ d. by_if w c (has w.sole d.serial) _ _ tt (by_if w c (nat_lt (count_in w.refs k d.serial) 15) _ _ tt tt)) tt tt
command_fits w k n (command.OpenSole name) named =
    let c : Command = command.OpenSole name in
    device_fits w c name _ (λ d. by_if w c (is_referred w d.serial) _ _ tt tt) tt tt
command_fits w k n (command.CloseDev name) named =
    let c : Command = command.CloseDev name in
    held_fits w k c name _ (λ d. tt) tt
command_fits w k n (command.Io name value) named =
    let c : Command = command.Io name value in
    held_fits w k c name _ (λ d. by_if w c d.asleep _ _ tt tt) tt
command_fits w k n (command.Detach name) named =
    let c : Command = command.Detach name in
    device_fits w c name _ (λ d. hindered_fits w k c d.serial false _ named (λ n h. h) tt) tt tt
command_fits w k n (command.Rescan name attr given) named =
    let c : Command = command.Rescan name attr given in
    by_option w c _ (device_named w.setup w.live name) _
    (λ d e. by_if w c (is_condemned d) _ _ tt
    (by_if w c (is_pinned w d.serial) _ _ (found_named w _ d named e)
    (by_if w c d.asleep _ _ tt
    (by_if w c ((policy_of w.setup d.row).norescan || has_nothing (offered_by w.setup d.row)) _ _ tt
    (rescan_fits w d c attr given tt tt tt))))) tt
command_fits w k n (command.ListDev name) named =
    let c : Command = command.ListDev name in
    telling_fits w c name tt tt
command_fits w k n (command.TreeDev name) named =
    let c : Command = command.TreeDev name in
    telling_fits w c name tt tt
command_fits w k n (command.Suspend name) named =
    let c : Command = command.Suspend name in
    device_fits w c name _ (λ d. tt) tt tt
command_fits w k n (command.Resume name) named =
    let c : Command = command.Resume name in
    device_fits w c name _ (λ d. tt) tt tt
command_fits w k n (command.ResumeTree name) named =
    let c : Command = command.ResumeTree name in
    device_fits w c name _ (λ d. tt) tt tt
command_fits w k n (command.Plug name) named =
    let c : Command = command.Plug name in
    by_option w c _ (spot_number w.setup.machine.spots name) _ (λ x e. tt) tt
command_fits w k n (command.Unplug name) named =
    let c : Command = command.Unplug name in
    by_option w c _ (spot_number w.setup.machine.spots name) _ (λ x e. by_option w c _ (device_on w.live x) _ (λ d f. hindered_fits w k c d.serial true _ named (λ n h. h) tt) tt) tt

value_small : (value : ℕ) → nat_lt value (2 ^ 32) ≡ true → value < 2 ^ 32
value_small value h = grind (arith, nat_tests, h)

-- the line of a formed command is formed
told_formed : (w : World) (said : Command) (r : Reply) → AllNamed w → length w.live < 2 ^ 32 → FormedCommand said → Fits said r → IsFormedAct (told w said r)
told_formed w (command.OpenDev name) r named few formed fits = (formed.names 0 [] (omega arith), fits)
told_formed w (command.OpenSole name) r named few formed fits = (formed.names 0 [] (omega arith), fits)
told_formed w (command.CloseDev name) r named few formed fits = (formed.names 0 [] (omega arith), fits)
told_formed w (command.Io name value) r named few formed fits = (formed.names 0 [] (omega arith), fits, value_small value formed.bounded)
told_formed w (command.Detach name) r named few formed fits = (formed.names 0 [] (omega arith), fits)
told_formed w (command.Rescan name None given) r named few formed fits = (formed.names 0 [] (omega arith), fits)
told_formed w (command.Rescan name (Some attr) given) r named few formed fits = (formed.names 0 [] (omega arith), fits)
told_formed w (command.ListDev None) r named few formed fits = list_formed w None named tt
told_formed w (command.ListDev (Some name)) r named few formed fits = list_formed w (Some name) named (formed.names 0 [] (omega arith))
told_formed w (command.TreeDev None) r named few formed fits = tree_formed w None named few tt
told_formed w (command.TreeDev (Some name)) r named few formed fits = tree_formed w (Some name) named few (formed.names 0 [] (omega arith))
told_formed w (command.Suspend name) r named few formed fits = (formed.names 0 [] (omega arith), fits)
told_formed w (command.Resume name) r named few formed fits = (formed.names 0 [] (omega arith), fits)
told_formed w (command.ResumeTree name) r named few formed fits = (formed.names 0 [] (omega arith), fits)
told_formed w (command.Plug name) r named few formed fits = (formed.names 0 [] (omega arith), fits)
told_formed w (command.Unplug name) r named few formed fits = (formed.names 0 [] (omega arith), fits)

-- ---- power

-- the reply of a power command that ends is one of its own
abbrev FitsChoice : World → Choice → Type 0
FitsChoice w (Does (EndPower end)) = MayEndPower (end_of w end)
FitsChoice w _ = ⊤

choice_if : (w : World) (b : Bool) (x y : Choice) → FitsChoice w x → FitsChoice w y → FitsChoice w (cond b x y)
choice_if w b x y p q = cond_both (FitsChoice w) b x y (λ e. p) (λ e. q)

choice_option : {A : Type 0} (w : World) (f : A → Choice) (o : Option A) (c : Choice) → ((a : A) → o ≡ Some a → FitsChoice w (f a)) → FitsChoice w c → FitsChoice w (option_map_or f o c)
choice_option w f o c p q = option_both (FitsChoice w) f o c p (λ e. q)

sleep_there : (w : World) (target : ℕ) (d : Dev) → AllNamed w → next_sleep w.live target ≡ Some d → IsDeviceName (name_at w d.serial)
unfolding next_sleep
sleep_there w target d named e = live_named w d.serial named (contained_live w.live d (found_from_end _ w.live d e))

powering_fits : (w : World) (what : PowerKind) (target : ℕ) → AllNamed w → FitsChoice w (powering w what target)
unfolding suspending waking
powering_fits w kind.Suspend target named =
    choice_option w _ (next_sleep w.live target) _
    (λ d e. choice_if w (is_pinned w d.serial) _ _ tt
    (choice_if w (policy_of w.setup d.row).nopower _ _ (sleep_there w target d named e)
    (choice_if w (policy_of w.setup d.row).failsuspend _ _ (sleep_there w target d named e) tt))) tt
powering_fits w kind.Resume target named = choice_option w _ (next_wake w.live target false) _ (λ d e. tt) tt
powering_fits w kind.ResumeTree target named = choice_option w _ (next_wake w.live target true) _ (λ d e. tt) tt

end_fits : (w : World) (k : ℕ) (end : PowerEnd) → AllNamed w → EndsPower w k end → MayEndPower (end_of w end)
end_fits w k end named why =
    elim why.why [
      | inl gone ↦ rw gone.1 tt
      | inr on ↦ subst (FitsChoice w) on.1 (powering_fits w why.kind why.target named)
    ]

-- ---- the command in force

get_all : {A : Type 0} (P : A → Type 0) (xs : List A) (n : ℕ) (x : A) → All P xs → slice_get xs n ≡ Some x → P x
get_all P [] n x all e = absurd cc
get_all P (y ∷ ys) zero x all e = subst P (same_Some y x e) (all 0 y (omega arith))
get_all P (y ∷ ys) (suc n) x all e = get_all P ys n x (λ k d lt. all (suc k) d (omega (arith, lt))) e

script_said : (scripts : List (List Command)) (i n : ℕ) (said : Command) → All FormedScript scripts → slice_get (slice_index_or scripts i []) n ≡ Some said → FormedCommand said
script_said [] i n said all e = absurd cc
script_said (script ∷ scripts) zero n said all e = get_all FormedCommand script n said (all 0 [] (omega arith)).commands e
script_said (script ∷ scripts) (suc i) n said all e = script_said scripts i n said (λ k d lt. all (suc k) d (omega (arith, lt))) e

-- a command in force is formed
pub said_formed : (w : World) (k : ℕ) (said : Command) → FormedScripts w.setup → command_of w k ≡ Some said → FormedCommand said
said_formed w k said scripts e = script_said w.setup.scripts (k - 1) (caller_at w k).over said scripts.formed e

power_known : (what : PowerKind) (name : List ℕ) → FormedCommand (power_command what name) → IsFormedName (power_name (Some (power_command what name)))
power_known kind.Suspend name formed = formed.names 0 [] (omega arith)
power_known kind.Resume name formed = formed.names 0 [] (omega arith)
power_known kind.ResumeTree name formed = formed.names 0 [] (omega arith)

-- the row of what comes is there
pub row_there : (w : World) (k : ℕ) (d : Deed) → MayRun w.setup → Kept w → next w k ≡ Does d → HasRow w.setup (got_of d)
row_there w k d may kept chosen = cases (got_of d) (deed_arrives w k d may kept chosen)
  where
    cases : (got : Option Arrival) → IfSome got (MayArrive w.setup w.live) → HasRow w.setup got
    cases None h = tt
    cases (Some a) h = h.row

-- ---- what comes has a name

-- the names of the machine's spots
spot_known : (s : Setup) (x : ℕ) → MayRun s → x < length s.machine.spots → IsSpotName (spot_name s x)
unfolding root_name
spot_known s x may inside = named s.machine.spots x inside may.machine.spot_names.shaped
  where
    named : (spots : List Spot) (i : ℕ) → i < length spots → All (λ n. is_free_name n ≡ true) (map (λ spot. spot.name) spots) → IsSpotName (option_map_or (λ spot. spot.name) (slice_get spots i) [])
    named [] i lt all = absurd (omega arith)
    named (y ∷ ys) zero lt all = all 0 [] (omega arith)
    named (y ∷ ys) (suc i) lt all = named ys i (omega arith) (λ k d less. all (suc k) d (omega (arith, less)))

got_formed : (w : World) (a : Arrival) → MayRun w.setup → a.row < length w.setup.tables.rows → a.unit < 2 ^ 32 → IsFormedGot (record { name = unit_name w.setup a.row a.unit; row = a.row })
got_formed w a may row small = (row_named w.setup a.row a.unit may row small, omega (arith, row, may.tables.few_rows))

searched_formed : (w : World) (k p spot : ℕ) (to : Position) (got : Option Arrival) → MayRun w.setup → Kept w → next w k ≡ Does (Search p spot to got) → IfSome (named_of w.setup got) IsFormedGot
searched_formed w k p spot to None may kept chosen = tt
searched_formed w k p spot to (Some a) may kept chosen = let come = search_comes w k p spot to a may kept chosen in got_formed w a may come.row come.small

final_formed : (w : World) (k s : ℕ) (shown : Option ℕ) (got : Option Arrival) (listed : Option ℕ) (anew : Bool) → MayRun w.setup → Kept w → next w k ≡ Does (Finalise s shown got listed anew)
    → IfSome (shown_of w.setup shown got) IsFormedShown
final_formed w k s None got listed anew may kept chosen = tt
final_formed w k s (Some x) None listed anew may kept chosen = (spot_known w.setup x may (shown_there w k s (Some x) None listed anew chosen), tt)
final_formed w k s (Some x) (Some a) listed anew may kept chosen =
    let come = finalise_comes w k s x a listed anew may kept chosen in
    (spot_known w.setup x may (shown_there w k s (Some x) (Some a) listed anew chosen), got_formed w a may come.row come.small)

begun_fits : (w : World) (k : ℕ) (d : Deed) → AllNamed w → (b : Begins w k d) → FitsDeed w b.said d
begun_fits w k d named b = subst (FitsDeed w b.said) b.deed (command_fits w k ((caller_at w k).over + 1) b.said named)

-- ---- what is printed is formed

few_live : (w : World) → MayRun w.setup → Kept w → length w.live < 2 ^ 32
few_live w may kept = omega (arith, kept.ranges.devices.few, may.machine.few_spots)

-- the answer of a transfer fits
answer_formed : (t : Ticket) → IsFormedAnswer (answer_of t)
unfolding answer_of
answer_formed t = cond_both IsFormedAnswer t.bad answer.DeviceError (answer.Number ((t.slot + t.value) % 2 ^ 32)) (λ h. tt) (λ h. omega arith)

-- the line of a command that begins
begun_formed : (w : World) (k : ℕ) (d : Deed) (r : Reply) → AllNamed w → length w.live < 2 ^ 32 → FormedScripts w.setup → (b : Begins w k d) → Fits b.said r → IsFormedAct (answered w k r)
begun_formed w k d r named few scripts b fits =
    subst (λ (c : Option Command). IsFormedAct (option_map_or (λ said. told w said r) c act.End)) (sym b.command)
    (told_formed w b.said r named few (said_formed w k b.said scripts b.command) fits)

power_formed : (w : World) (k : ℕ) (end : PowerEnd) → AllNamed w → FormedScripts w.setup → Kept w → EndsPower w k end → IsFormedName (power_name (command_of w k)) × MayEndPower (end_of w end)
power_formed w k end named scripts kept why =
    let it = power_end w k end kept why in
    (subst (λ (c : Option Command). IsFormedName (power_name c)) (sym it.said) (power_known it.what it.name (said_formed w k (power_command it.what it.name) scripts it.said)), end_fits w k end named why)

deed_printed : (w : World) (k : ℕ) (d : Deed) → MayRun w.setup → FormedScripts w.setup → Kept w → CallsDevices w → next w k ≡ Does d → IsFormedAct (printed w k d)
unfolding printed
deed_printed w k (Search p spot to got) may scripts kept calls chosen = (
  parent_known w p (all_named w may kept),
  spot_known w.setup spot may (searched_inside w k p spot to got chosen),
  searched_formed w k p spot to got may kept chosen,
)
deed_printed w k (EndScan p) may scripts kept calls chosen = parent_known w p (all_named w may kept)
deed_printed w k BeginInterrupts may scripts kept calls chosen = tt
deed_printed w k (Finalise s shown got listed anew) may scripts kept calls chosen =
    (live_known w s (all_named w may kept) (may_be_told w k (Finalise s shown got listed anew) kept calls chosen).0, final_formed w k s shown got listed anew may kept chosen)
deed_printed w k EndCaller may scripts kept calls chosen = tt
deed_printed w k (Drop s) may scripts kept calls chosen = live_known w s (all_named w may kept) (may_be_told w k (Drop s) kept calls chosen)
deed_printed w k (Refuse why) may scripts kept calls chosen =
    let b : Begins w k (Refuse why) = (has_command_reason w k (Refuse why) chosen) in begun_formed w k (Refuse why) (reply_of w why) (all_named w may kept) (few_live w may kept) scripts b (begun_fits w k (Refuse why) (all_named w may kept) b)
deed_printed w k (Open s sole) may scripts kept calls chosen =
    let b = (has_command_reason w k (Open s sole) chosen).begins in begun_formed w k (Open s sole) reply.Ok (all_named w may kept) (few_live w may kept) scripts b (begun_fits w k (Open s sole) (all_named w may kept) b)
deed_printed w k (Close s) may scripts kept calls chosen =
    let b = (has_command_reason w k (Close s) chosen).begins in begun_formed w k (Close s) reply.Ok (all_named w may kept) (few_live w may kept) scripts b (begun_fits w k (Close s) (all_named w may kept) b)
deed_printed w k (Start ticket) may scripts kept calls chosen =
    let b = (has_command_reason w k (Start ticket) chosen).begins in begun_formed w k (Start ticket) reply.Ok (all_named w may kept) (few_live w may kept) scripts b (begun_fits w k (Start ticket) (all_named w may kept) b)
deed_printed w k (Done ticket) may scripts kept calls chosen = (live_known w ticket.serial (all_named w may kept) (may_be_told w k (Done ticket) kept calls chosen), answer_formed ticket)
deed_printed w k (Detach s) may scripts kept calls chosen =
    let b = (has_command_reason w k (Detach s) chosen).begins in begun_formed w k (Detach s) reply.Ok (all_named w may kept) (few_live w may kept) scripts b (begun_fits w k (Detach s) (all_named w may kept) b)
deed_printed w k (Free s) may scripts kept calls chosen = live_known w s (all_named w may kept) (may_be_told w k (Free s) kept calls chosen)
deed_printed w k (Rescan s only) may scripts kept calls chosen =
    let b = (has_command_reason w k (Rescan s only) chosen).begins in begun_formed w k (Rescan s only) reply.Ok (all_named w may kept) (few_live w may kept) scripts b (begun_fits w k (Rescan s only) (all_named w may kept) b)
deed_printed w k (BeginPower kind s) may scripts kept calls chosen =
    let b = (has_command_reason w k (BeginPower kind s) chosen).begins in begun_formed w k (BeginPower kind s) reply.Ok (all_named w may kept) (few_live w may kept) scripts b (begun_fits w k (BeginPower kind s) (all_named w may kept) b)
deed_printed w k (Sleep s) may scripts kept calls chosen = live_known w s (all_named w may kept) (may_be_told w k (Sleep s) kept calls chosen)
deed_printed w k (Wake s) may scripts kept calls chosen = live_known w s (all_named w may kept) (may_be_told w k (Wake s) kept calls chosen)
deed_printed w k (EndPower end) may scripts kept calls chosen = power_formed w k end (all_named w may kept) scripts kept (has_command_reason w k (EndPower end) chosen)
deed_printed w k (Plug x) may scripts kept calls chosen =
    let b = (has_command_reason w k (Plug x) chosen).begins in begun_formed w k (Plug x) reply.Ok (all_named w may kept) (few_live w may kept) scripts b (begun_fits w k (Plug x) (all_named w may kept) b)
deed_printed w k (Unplug x None) may scripts kept calls chosen =
    let b = (has_command_reason w k (Unplug x None) chosen).begins in begun_formed w k (Unplug x None) reply.Ok (all_named w may kept) (few_live w may kept) scripts b (begun_fits w k (Unplug x None) (all_named w may kept) b)
deed_printed w k (Unplug x (Some s)) may scripts kept calls chosen =
    let b = (has_command_reason w k (Unplug x (Some s)) chosen).begins in begun_formed w k (Unplug x (Some s)) reply.Ok (all_named w may kept) (few_live w may kept) scripts b (begun_fits w k (Unplug x (Some s)) (all_named w may kept) b)
deed_printed w k Tell may scripts kept calls chosen =
    let b = (has_command_reason w k Tell chosen).begins in begun_formed w k Tell reply.Ok (all_named w may kept) (few_live w may kept) scripts b (begun_fits w k Tell (all_named w may kept) b)

number_fits : (w : World) (k : ℕ) → MayRun w.setup → Kept w → number_of w k < 2 ^ 32
number_fits w k may kept = cond_both (λ n. n < 2 ^ 32) (k == 0) 0 ((caller_at w k).over + 1) (λ h. omega arith) (λ h. omega (arith, over_low w may kept k))

-- the event is formed
pub deed_formed : (w : World) (k : ℕ) (d : Deed) → MayRun w.setup → FormedScripts w.setup → Kept w → CallsDevices w → next w k ≡ Does d → IsFormed (event_of w k d)
unfolding event_of
deed_formed w k d may scripts kept calls chosen = record { caller = doer_low w k d may kept chosen; number = number_fits w k may kept; act = deed_printed w k d may scripts kept calls chosen }
