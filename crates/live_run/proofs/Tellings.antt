-- The lines of the commands of a plan, from the first to the last.
use Rattle.std.proofs.Common.{◌≡◌, ◌<◌, ◌≤◌, ◌+◌, ℕ, Bool, true, false, cond, Option, Some, None, List, [], ◌∷◌, ◌++◌, append-nil, append_assoc, length, drop, take, get_or, flat_map, map, codes, refl, sym, ap, ◌∙◌, subst, arith}
use Rattle.std.specs.Prelude.{Ok, Err, OnOk, Result}
use Rattle.std.specs.List.{zip}
use Rattle.std.proofs.lemmas.List.{drop_all, drop_more, length-append}
use Rattle.cf_types.specs.declared.memory.Memory.{Memory}
use Rattle.cf_types.specs.declared.tree.DevLine.{DevLine}
use Rattle.run_rules.specs.declared.world.Dev.{Dev}
use Rattle.run_rules.specs.Tree.{dev_text}
use Rattle.run_rules.specs.World.{has}
use Rattle.live_rules.specs.declared.plan.Group.{Group}
use Rattle.live_rules.specs.declared.plan.PlanCommand.{PlanCommand}
use Rattle.live_rules.specs.declared.plan.PlanCommand.TheVariants.{Add, Remove, Scan}
use Rattle.live_rules.specs.declared.plan.LiveLine.{LiveLine}
use Rattle.live_rules.specs.declared.plan.LiveReply.{LiveReply}
use Rattle.live_rules.specs.declared.plan.LiveReply.TheVariants as reply
use Rattle.live_rules.specs.Laws.{Appends, IsSound}
use Rattle.live_rules.specs.Live.{Answer, LiveWorld, LiveSite, add, after, answer, answers, came, hinders, opening, remove, remove_unless, removed, scan, tree_lines, turned_on}
use Rattle.live_rules.specs.LiveText.{answer_texts, live_texts}
use Rattle.live_rules.proofs.Appends.{scan_appends}
use Rattle.live_rules.proofs.Kept.{turned_sound}
use Rattle.live_tables.proofs.Counts.{few_live}
use Rattle.live_tables.specs.Answers.{Answers, Leaves}
use Rattle.live_tables.specs.Running.{Running}
use Rattle.live_run.specs.Told.{Tells, command_texts, commands_texts}

-- ---- lines

-- the lines of a command and of those behind it
pub command_more : (t : LiveSite) (w : LiveWorld) (c : PlanCommand) (cs : List PlanCommand)
    → commands_texts t w (c ∷ cs) ≡ command_texts t w c ++ commands_texts t (answer t w c).world cs
unfolding answers command_texts commands_texts
command_more t w c cs = refl

pub none_told : (t : LiveSite) (w : LiveWorld) → commands_texts t w [] ≡ []
unfolding answers commands_texts
none_told t w = refl

-- what a scan answers
pub scan_answers : (r v : Running) (old new : List LiveLine) → Leaves r v old new (scan r.site r.world) → Answers r v old new (answer r.site r.world Scan) reply.Ok
unfolding answer scan
scan_answers r v old new leaves = record { reply = refl; leaves = leaves }

-- the head, the commands and the tree
pub whole_by : (t : LiveSite) (cs : List PlanCommand) (w v : LiveWorld) (first mid lines : List (List ℕ)) (devices : List DevLine) → first ≡ codes "live 1" ∷ [] → w ≡ opening
    → mid ≡ first ++ commands_texts t w cs → v ≡ after t w cs → devices ≡ tree_lines t v → lines ≡ mid ++ codes "tree" ∷ map dev_text devices → lines ≡ live_texts t cs
unfolding commands_texts live_texts
whole_by t cs w v first mid lines devices head begins told ends tree is =
    let last : v ≡ after t opening cs = ends ∙ ap (λ (w : LiveWorld). after t w cs) begins in
    is
    ∙ ap (λ (out : List (List ℕ)). out ++ codes "tree" ∷ map dev_text devices)
    (told ∙ ap (λ (out : List (List ℕ)). out ++ commands_texts t w cs) head ∙ ap (λ (w : LiveWorld). codes "live 1" ∷ commands_texts t w cs) begins)
    ∙ ap (λ (devices : List DevLine). codes "live 1" ∷ (commands_texts t opening cs ++ codes "tree" ∷ map dev_text devices)) (tree ∙ ap (tree_lines t) last)

-- ---- serials

few_more : (t : LiveSite) (w v : LiveWorld) (n : ℕ) → Appends w v → IsSound t v → length t.setup.machine.spots ≤ n → v.next ≤ w.next + n
few_more t w v n a h le =
    let few = few_live t v h in
    let lives : length v.live ≡ length w.live + length (came w v) = ap length a.behind ∙ length-append w.live (came w v) in
    omega (arith, few, lives, a.serials, le)

scan_next : (t : LiveSite) (w : LiveWorld) (n : ℕ) → IsSound t w → IsSound t (scan t w).world → length t.setup.machine.spots ≤ n → (scan t w).world.next ≤ w.next + n
scan_next t w n h k le = few_more t w (scan t w).world n (scan_appends t w h) k le

turned_next : (t : LiveSite) (w : LiveWorld) (g n : ℕ) → IsSound t w → IsSound t (scan t (turned_on w g)).world → length t.setup.machine.spots ≤ n
    → (scan t (turned_on w g)).world.next ≤ w.next + n
unfolding turned_on
turned_next t w g n h k le = scan_next t (turned_on w g) n (turned_sound t w g h) k le

add_next : (t : LiveSite) (w : LiveWorld) (g n : ℕ) → IsSound t w → IsSound t (add t w g).world → length t.setup.machine.spots ≤ n → (add t w g).world.next ≤ w.next + n
unfolding add
add_next t w g n h k le = cases (has w.on g) k
  where
    on : Answer
    on = record { reply = reply.OnAlready; lines = []; world = w }

    cases : (b : Bool) → IsSound t (cond b on (scan t (turned_on w g))).world → (cond b on (scan t (turned_on w g))).world.next ≤ w.next + n
    cases true k = omega arith
    cases false k = turned_next t w g n h k le

remove_next : (t : LiveSite) (w : LiveWorld) (g n : ℕ) → (remove t w g).world.next ≤ w.next + n
unfolding remove remove_unless removed
remove_next t w g n = cases (has w.on g)
  where
    off : Answer
    off = record { reply = reply.OffAlready; lines = []; world = w }

    by_hinder : (o : Option Dev) → (remove_unless t w g o).world.next ≤ w.next + n
    by_hinder (Some d) = omega arith
    by_hinder None = omega arith

    cases : (b : Bool) → (cond b (remove_unless t w g (hinders t w g)) off).world.next ≤ w.next + n
    cases true = by_hinder (hinders t w g)
    cases false = omega arith

pub answer_next : (t : LiveSite) (w : LiveWorld) (c : PlanCommand) (n : ℕ) → IsSound t w → IsSound t (answer t w c).world → length t.setup.machine.spots ≤ n
    → (answer t w c).world.next ≤ w.next + n
unfolding answer
answer_next t w (Add g) n h k le = add_next t w g n h k le
answer_next t w (Remove g) n h k le = remove_next t w g n
answer_next t w Scan n h k le = scan_next t w n h k le

-- ---- commands

answer_is : (t : LiveSite) (w : LiveWorld) (c : PlanCommand) (told : LiveReply) (lines : List LiveLine) → told ≡ (answer t w c).reply → lines ≡ [] ++ (answer t w c).lines
    → answer_texts t.groups (c, (told, lines)) ≡ command_texts t w c
unfolding command_texts
answer_is t w c told lines reply more = rw (reply, more) refl

-- a command that was told
pub tells : (r v : Running) (c : PlanCommand) (lines : List LiveLine) (told : LiveReply) (old new : List (List ℕ)) → IsSound r.site r.world → IsSound v.site v.world → length r.site.setup.machine.spots ≤ 1024
    → Answers r v [] lines (answer r.site r.world c) told → new ≡ old ++ answer_texts r.site.groups (c, (told, lines)) → Tells r v c old new
tells r v c lines told old new h k few a is = record {
  running = a.leaves.running;
  lines = is ∙ ap (λ (text : List (List ℕ)). old ++ text) (answer_is r.site r.world c told lines a.reply a.leaves.lines);
  serials = rw a.leaves.running (answer_next r.site r.world c 1024 h (subst (λ (x : Running). IsSound x.site x.world) a.leaves.running k) few);
}

world_after : (t : LiveSite) (r v : Running) (c : PlanCommand) (out grown : List (List ℕ)) → r.site ≡ t → Tells r v c out grown → v.world ≡ (answer t r.world c).world
world_after t r v c out grown same told = ap (λ (x : Running). x.world) told.running ∙ ap (λ (site : LiveSite). (answer site r.world c).world) same

-- one more of them
pub one_more : (t : LiveSite) (r v : Running) (cs : List PlanCommand) (i : ℕ) (d : PlanCommand) (out grown all : List (List ℕ)) → r.site ≡ t → i < length cs → Tells r v (get_or cs i d) out grown
    → out ++ commands_texts t r.world (drop i cs) ≡ all → grown ++ commands_texts t v.world (drop (i + 1) cs) ≡ all
one_more t r v cs i d out grown all same h told so_far =
    let c = get_or cs i d in
    let rest = commands_texts t (answer t r.world c).world (drop (i + 1) cs) in
    ap (λ (w : LiveWorld). grown ++ commands_texts t w (drop (i + 1) cs)) (world_after t r v c out grown same told)
    ∙ ap (λ (text : List (List ℕ)). text ++ rest) (told.lines ∙ ap (λ (site : LiveSite). out ++ command_texts site r.world c) same)
    ∙ append_assoc out (command_texts t r.world c) rest
    ∙ ap (λ (text : List (List ℕ)). out ++ text) (sym (command_more t r.world c (drop (i + 1) cs)))
    ∙ ap (λ (cs : List PlanCommand). out ++ commands_texts t r.world cs) (sym (drop_more cs i d h))
    ∙ so_far

pub after_more : (t : LiveSite) (r v : Running) (cs : List PlanCommand) (i : ℕ) (d : PlanCommand) (out grown : List (List ℕ)) (last : LiveWorld) → r.site ≡ t → i < length cs → Tells r v (get_or cs i d) out grown
    → after t r.world (drop i cs) ≡ last → after t v.world (drop (i + 1) cs) ≡ last
unfolding after
after_more t r v cs i d out grown last same h told so_far =
    ap (λ (w : LiveWorld). after t w (drop (i + 1) cs)) (world_after t r v (get_or cs i d) out grown same told)
    ∙ sym (ap (after t r.world) (drop_more cs i d h)) ∙ so_far

pub all_told : (t : LiveSite) (w : LiveWorld) (cs : List PlanCommand) (i : ℕ) (out all : List (List ℕ)) → length cs ≤ i → out ++ commands_texts t w (drop i cs) ≡ all → out ≡ all
all_told t w cs i out all h so_far =
    sym (append-nil out) ∙ ap (λ (text : List (List ℕ)). out ++ text) (sym (none_told t w)) ∙ ap (λ (cs : List PlanCommand). out ++ commands_texts t w cs) (sym (drop_all i cs h)) ∙ so_far

pub all_done : (t : LiveSite) (w v : LiveWorld) (cs : List PlanCommand) (i : ℕ) → length cs ≤ i → after t w (drop i cs) ≡ v → w ≡ v
unfolding after
all_done t w v cs i h so_far = sym (ap (after t w) (drop_all i cs h)) ∙ so_far

-- the same where the lines were made of what was read of them
pub tells_if : {A : Type 0} (result : Result A Memory) (r v : Running) (c : PlanCommand) (lines given : List LiveLine) (told : LiveReply) (groups : List Group) (old new : List (List ℕ))
    → IsSound r.site r.world → IsSound v.site v.world → length r.site.setup.machine.spots ≤ 1024 → Answers r v [] lines (answer r.site r.world c) told → groups ≡ v.site.groups → given ≡ lines
    → OnOk result (new ≡ old ++ answer_texts groups (c, (told, given))) → OnOk result (Tells r v c old new)
tells_if (Err stop) r v c lines given told groups old new h k few a same same' is = tt
tells_if (Ok done) r v c lines given told groups old new h k few a same same' is =
    let site : v.site ≡ r.site = ap (λ (x : Running). x.site) a.leaves.running in
    tells r v c lines told old new h k few a
    (subst (λ (gs : List Group). new ≡ old ++ answer_texts gs (c, (told, lines))) (same ∙ ap (λ (t : LiveSite). t.groups) site)
    (subst (λ (ls : List LiveLine). new ≡ old ++ answer_texts groups (c, (told, ls))) same' is))
