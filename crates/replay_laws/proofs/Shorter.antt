-- A line of format 1 is what remains of the line of format 2.
use Rattle.std.proofs.Common.{◌≡◌, ℕ, zero, suc, ◌+◌, ◌/◌, ◌%◌, ◌<◌, ◌==◌, nat_lt, true, false, cond, List, [], ◌∷◌, ◌++◌, map, take, decimal, Option, Some, None, refl, sym, ap, ◌∙◌, arith, append_assoc, ne_eqb}
use Rattle.std.specs.Prelude.{⊤, IfSome, All, bytes_eq, codes, slice_get}
use Rattle.std.specs.Fmt.{digit_glyph, digits, digits_onto}
use Rattle.std.specs.Option.{option_map_or}
use Rattle.std.proofs.lemmas.Bool.Decides.{nat_tests}
use Rattle.std.proofs.lemmas.List.Elements.{All-head, All-tail}
use Rattle.cf_types.specs.declared.machine.Command.{Command}
use Rattle.cf_types.specs.declared.machine.Command.TheVariants as command
use Rattle.config_rules.specs.MachineText.{is_free_name}
use Rattle.config_rules.proofs.Parts.{cond_both}
use Rattle.run_rules.specs.declared.deed.Deed.{Deed}
use Rattle.run_rules.specs.declared.deed.Deed.TheVariants.{Search, Finalise, Refuse, Open, Close, Start, Detach, Rescan, BeginPower, Plug, Unplug, Tell}
use Rattle.run_rules.specs.declared.event.Act.{Act}
use Rattle.run_rules.specs.declared.event.Act.TheVariants as act
use Rattle.run_rules.specs.declared.event.Event.{Event}
use Rattle.run_rules.specs.declared.event.Got.{Got}
use Rattle.run_rules.specs.declared.event.PowerKind.TheVariants as kind
use Rattle.run_rules.specs.declared.event.Reply.{Reply}
use Rattle.run_rules.specs.declared.event.Reply.TheVariants as reply
use Rattle.run_rules.specs.declared.event.Shown.{Shown}
use Rattle.run_rules.specs.declared.world.Arrival.{Arrival}
use Rattle.run_rules.specs.declared.world.Dev.{Dev}
use Rattle.run_rules.specs.declared.world.Setup.{Setup}
use Rattle.run_rules.specs.Lines.{IsFormedAct, IsFormedGot, IsFormedName, IsFormedShown, act_text, act_text_1, got_text, got_text_1, line_of, line_of_1, said_of, shown_text, shown_text_1}
use Rattle.run_rules.specs.Next.{command_of, name_at}
use Rattle.run_rules.specs.Run.{answered, event_of, got_of, printed, reply_of, shown_of, spot_name, told}
use Rattle.run_rules.specs.World.{World, device_at, driver_name, driver_of, name_of, parent_name, root_name, unit_name}
use Rattle.run_rules.proofs.FormedNames.{device_known}
use Rattle.run_sound.specs.Kept.{MayRun}
use Rattle.run_sound.proofs.Reasons.{option_both}
use Rattle.dev_event.specs.Reading.{before, behind}
use Rattle.dev_event.proofs.Cuts.{Lacks, before_mark, behind_mark}
use Rattle.dev_event.proofs.Shapes.{no_blank, no_colon, spot_known}

-- ---- bytes that names and numbers lack

lacks_both : (m : ℕ) (xs ys : List ℕ) → Lacks m xs → Lacks m ys → Lacks m (xs ++ ys)
lacks_both m [] ys h k = k
lacks_both m (x ∷ xs) ys h k = (h.0, lacks_both m xs ys h.1 k)

glyph_lacks : (m : ℕ) → m < 48 → (d : ℕ) → (digit_glyph false d == m) ≡ false
glyph_lacks m low d = cond_both (λ c. (c == m) ≡ false) (nat_lt d 10) (48 + d) (87 + d) (λ _. ne_eqb (48 + d) m (λ e. omega (arith, e))) (λ _. ne_eqb (87 + d) m (λ e. omega (arith, e)))

glyph_no_colon : (d : ℕ) → (digit_glyph false d == 58) ≡ false
glyph_no_colon d =
    cond_both (λ c. (c == 58) ≡ false) (nat_lt d 10) (48 + d) (87 + d) (λ few. let low : d < 10 = grind (arith, nat_tests, few) in ne_eqb (48 + d) 58 (λ e. omega (arith, e, low))) (λ _. ne_eqb (87 + d) 58 (λ e. omega (arith, e)))

digits_lack : (m : ℕ) → ((d : ℕ) → (digit_glyph false d == m) ≡ false) → (k n : ℕ) (acc : List ℕ) → Lacks m acc → Lacks m (digits_onto k 10 false n acc)
digits_lack m other zero n acc h = h
digits_lack m other (suc k) n acc h =
    cond_both (Lacks m) (n / 10 == 0) (digit_glyph false (n % 10) ∷ acc) (digits_onto k 10 false (n / 10) (digit_glyph false (n % 10) ∷ acc)) (λ _. (other (n % 10), h))
    (λ _. digits_lack m other k (n / 10) (digit_glyph false (n % 10) ∷ acc) (other (n % 10), h))

number_no_blank : (n : ℕ) → Lacks 32 (decimal n)
unfolding digits
number_no_blank n = digits_lack 32 (glyph_lacks 32 (omega arith)) 64 n [] tt

number_no_colon : (n : ℕ) → Lacks 58 (decimal n)
unfolding digits
number_no_colon n = digits_lack 58 glyph_no_colon 64 n [] tt

-- neither blank nor colon
record IsWord (text : List ℕ) : Type 0 where
  blank : Lacks 32 text
  colon : Lacks 58 text

no_word : IsWord []
no_word = record { blank = tt; colon = tt }

known_word : (name : List ℕ) → IsFormedName name → IsWord name
known_word name h = record { blank = no_blank name h; colon = no_colon name h }

free_word : (name : List ℕ) → is_free_name name ≡ true → IsWord name
unfolding root_name
free_word name h = known_word name (spot_known name h)

-- ---- what remains

got_short : List ℕ → List ℕ
got_short text = cond (bytes_eq (take 1 (behind 32 text)) (codes "r")) (before 32 text) text

found_short : List ℕ → List ℕ
found_short text = said_of (codes "found ") (before 32 text) (got_short (behind 32 (behind 58 text)))

shown_short : List ℕ → List ℕ
shown_short text = cond (bytes_eq (take 1 text) (codes "0")) text (codes "1 " ++ got_short (behind 32 (behind 58 text)))

final_short : List ℕ → List ℕ
final_short text = said_of (codes "final ") (before 58 text) (shown_short (behind 32 (behind 58 text)))

act_short : List ℕ → List ℕ
act_short text =
    cond (bytes_eq (before 32 text) (codes "found")) (found_short (behind 32 text))
    (cond (bytes_eq (before 32 text) (codes "final")) (final_short (behind 32 text)) text)

line_short : List ℕ → List ℕ
line_short line = before 32 line ++ codes " " ++ act_short (behind 32 line)

-- ---- acts whose names are words

abbrev GotWord : Option Got → Type 0
GotWord got = IfSome got (λ g. IsWord g.name)

abbrev ShownWords : Option Shown → Type 0
ShownWords shown = IfSome shown (λ x. IsWord x.spot × GotWord x.got)

abbrev HasWords : Act → Type 0
HasWords (act.Found parent spot got) = IsWord parent × IsWord spot × GotWord got
HasWords (act.Final device shown) = IsWord device × ShownWords shown
HasWords _ = ⊤

got_remains : (got : Option Got) → GotWord got → got_short (got_text got) ≡ got_text_1 got
unfolding got_short
got_remains None h = refl
got_remains (Some g) h =
    let rest : List ℕ = codes "row " ++ decimal g.row in
    let whole : g.name ++ codes " row " ++ decimal g.row ≡ g.name ++ 32 ∷ rest = append_assoc g.name (codes " row ") (decimal g.row) in
    ap got_short whole
    ∙ ap (λ (b : List ℕ). cond (bytes_eq (take 1 b) (codes "r")) (before 32 (g.name ++ 32 ∷ rest)) (g.name ++ 32 ∷ rest)) (behind_mark 32 g.name rest h.blank)
    ∙ before_mark 32 g.name rest h.blank

found_remains : (parent spot : List ℕ) (got : Option Got) → IsWord parent → IsWord spot → GotWord got
    → found_short ((parent ++ codes " on " ++ spot) ++ codes ": " ++ got_text got) ≡ said_of (codes "found ") parent (got_text_1 got)
unfolding found_short
found_remains parent spot got p s g =
    let names : List ℕ = parent ++ codes " on " ++ spot in
    let text : List ℕ = names ++ codes ": " ++ got_text got in
    let colon : Lacks 58 names = lacks_both 58 (parent ++ codes " on ") spot (lacks_both 58 parent (codes " on ") p.colon (refl, (refl, (refl, (refl, tt))))) s.colon in
    let at_colon : text ≡ names ++ 58 ∷ 32 ∷ got_text got = append_assoc names (codes ": ") (got_text got) in
    let rest : List ℕ = codes "on " ++ (spot ++ 58 ∷ 32 ∷ got_text got) in
    let at_blank : text ≡ parent ++ 32 ∷ rest =
    at_colon ∙ append_assoc (parent ++ codes " on ") spot (58 ∷ 32 ∷ got_text got) ∙ append_assoc parent (codes " on ") (spot ++ 58 ∷ 32 ∷ got_text got) in
    let first : before 32 text ≡ parent = ap (before 32) at_blank ∙ before_mark 32 parent rest p.blank in
    let last : behind 58 text ≡ 32 ∷ got_text got = ap (behind 58) at_colon ∙ behind_mark 58 names (32 ∷ got_text got) colon in
    ap (λ (x : List ℕ). said_of (codes "found ") x (got_short (behind 32 (behind 58 text)))) first
    ∙ ap (λ (x : List ℕ). said_of (codes "found ") parent (got_short (behind 32 x))) last ∙ ap (said_of (codes "found ") parent) (got_remains got g)

shown_remains : (shown : Option Shown) → ShownWords shown → shown_short (shown_text shown) ≡ shown_text_1 shown
unfolding shown_short
shown_remains None h = refl
shown_remains (Some x) h =
    let names : List ℕ = codes "1 on " ++ x.spot in
    let text : List ℕ = names ++ codes ": " ++ got_text x.got in
    let colon : Lacks 58 names = (refl, (refl, (refl, (refl, (refl, h.0.colon))))) in
    let at_colon : text ≡ names ++ 58 ∷ 32 ∷ got_text x.got = append_assoc names (codes ": ") (got_text x.got) in
    let last : behind 58 text ≡ 32 ∷ got_text x.got = ap (behind 58) at_colon ∙ behind_mark 58 names (32 ∷ got_text x.got) colon in
    ap (λ (y : List ℕ). codes "1 " ++ got_short (behind 32 y)) last ∙ ap (λ (y : List ℕ). codes "1 " ++ y) (got_remains x.got h.1)

final_remains : (device : List ℕ) (shown : Option Shown) → IsWord device → ShownWords shown → final_short (device ++ codes ": " ++ shown_text shown) ≡ said_of (codes "final ") device (shown_text_1 shown)
unfolding final_short
final_remains device shown d s =
    let text : List ℕ = device ++ codes ": " ++ shown_text shown in
    let at_colon : text ≡ device ++ 58 ∷ 32 ∷ shown_text shown = append_assoc device (codes ": ") (shown_text shown) in
    let first : before 58 text ≡ device = ap (before 58) at_colon ∙ before_mark 58 device (32 ∷ shown_text shown) d.colon in
    let last : behind 58 text ≡ 32 ∷ shown_text shown = ap (behind 58) at_colon ∙ behind_mark 58 device (32 ∷ shown_text shown) d.colon in
    ap (λ (x : List ℕ). said_of (codes "final ") x (shown_short (behind 32 (behind 58 text)))) first
    ∙ ap (λ (x : List ℕ). said_of (codes "final ") device (shown_short (behind 32 x))) last ∙ ap (said_of (codes "final ") device) (shown_remains shown s)

act_remains : (a : Act) → HasWords a → act_short (act_text a) ≡ act_text_1 a
unfolding act_short act_text act_text_1
act_remains (act.Found parent spot got) h = found_remains parent spot got h.0 h.1 h.2
act_remains (act.ScanEnd device) h = refl
act_remains act.Interrupts h = refl
act_remains (act.Final device shown) h = final_remains device shown h.0 h.1
act_remains act.End h = refl
act_remains (act.DropRef device) h = refl
act_remains (act.OpenDev device r) h = refl
act_remains (act.OpenSole device r) h = refl
act_remains (act.CloseDev device r) h = refl
act_remains (act.IoStart device value r) h = refl
act_remains (act.IoDone device answer) h = refl
act_remains (act.Detach device r) h = refl
act_remains (act.Free device) h = refl
act_remains (act.Rescan device r) h = refl
act_remains (act.ListDev None names) h = refl
act_remains (act.ListDev (Some device) names) h = refl
act_remains (act.TreeDev None names) h = refl
act_remains (act.TreeDev (Some device) names) h = refl
act_remains (act.Power kind.Suspend device r) h = refl
act_remains (act.Power kind.Resume device r) h = refl
act_remains (act.Power kind.ResumeTree device r) h = refl
act_remains (act.Sleep device) h = refl
act_remains (act.Wake device) h = refl
act_remains (act.PowerEnd device r) h = refl
act_remains (act.Plug spot r) h = refl
act_remains (act.Unplug spot r) h = refl

line_remains : (e : Event) → HasWords e.act → line_short (line_of e) ≡ line_of_1 e
unfolding line_short line_of line_of_1
line_remains e h =
    let head : List ℕ = decimal e.caller ++ codes "." ++ decimal e.number in
    let blank : Lacks 32 head = lacks_both 32 (decimal e.caller ++ codes ".") (decimal e.number) (lacks_both 32 (decimal e.caller) (codes ".") (number_no_blank e.caller) (refl, tt)) (number_no_blank e.number) in
    let whole : head ++ codes " " ++ act_text e.act ≡ head ++ 32 ∷ act_text e.act = append_assoc head (codes " ") (act_text e.act) in
    let first : before 32 (head ++ codes " " ++ act_text e.act) ≡ head = ap (before 32) whole ∙ before_mark 32 head (act_text e.act) blank in
    let last : behind 32 (head ++ codes " " ++ act_text e.act) ≡ act_text e.act = ap (behind 32) whole ∙ behind_mark 32 head (act_text e.act) blank in
    ap (λ (x : List ℕ). x ++ codes " " ++ act_short (behind 32 (head ++ codes " " ++ act_text e.act))) first
    ∙ ap (λ (x : List ℕ). head ++ codes " " ++ act_short x) last ∙ ap (λ (x : List ℕ). head ++ codes " " ++ x) (act_remains e.act h)

-- ---- the names of formed acts, and of what a run prints

got_formed : (got : Option Got) → IfSome got IsFormedGot → GotWord got
got_formed None h = tt
got_formed (Some g) h = known_word g.name (device_known g.name h.0)

shown_formed : (shown : Option Shown) → IfSome shown IsFormedShown → ShownWords shown
shown_formed None h = tt
shown_formed (Some x) h = (known_word x.spot (spot_known x.spot h.0), got_formed x.got h.1)

formed_words : (a : Act) → IsFormedAct a → HasWords a
formed_words (act.Found parent spot got) h = (known_word parent h.0, known_word spot (spot_known spot h.1), got_formed got h.2)
formed_words (act.Final device shown) h = (known_word device h.0, shown_formed shown h.1)
formed_words _ h = tt

-- the name at a place of named things, if there is one
named_word : {A : Type 0} (f : A → List ℕ) (xs : List A) (i : ℕ) → ((x : A) → slice_get xs i ≡ Some x → is_free_name (f x) ≡ true) → IsWord (option_map_or f (slice_get xs i) [])
named_word f xs i free = option_both IsWord f (slice_get xs i) [] (λ x is. free_word (f x) (free x is)) (λ _. no_word)

free_at : {A : Type 0} (f : A → List ℕ) (xs : List A) (i : ℕ) (x : A) → All (λ name. is_free_name name ≡ true) (map f xs) → slice_get xs i ≡ Some x → is_free_name (f x) ≡ true
free_at f [] i x all is = absurd cc
free_at f (y ∷ ys) zero x all is = let same : y ≡ x = cc in ap (λ z. is_free_name (f z)) (sym same) ∙ All-head (λ name. is_free_name name ≡ true) (f y) (map f ys) all
free_at f (y ∷ ys) (suc i) x all is = free_at f ys i x (All-tail (λ name. is_free_name name ≡ true) (f y) (map f ys) all) is

spot_word : (s : Setup) (x : ℕ) → MayRun s → IsWord (spot_name s x)
spot_word s x may = named_word (λ spot. spot.name) s.machine.spots x (λ spot is. free_at (λ spot. spot.name) s.machine.spots x spot may.machine.spot_names.shaped is)

driver_word : (s : Setup) (d : ℕ) → MayRun s → IsWord (driver_name s d)
driver_word s d may = named_word (λ x. x.name) s.tables.devices d (λ x is. free_at (λ x. x.name) s.tables.devices d x may.tables.device_names.shaped is)

unit_word : (s : Setup) (r u : ℕ) → MayRun s → IsWord (unit_name s r u)
unfolding unit_name
unit_word s r u may =
    let driver = driver_word s (driver_of s r) may in
    record {
      blank = lacks_both 32 (driver_name s (driver_of s r)) (decimal u) driver.blank (number_no_blank u);
      colon = lacks_both 58 (driver_name s (driver_of s r)) (decimal u) driver.colon (number_no_colon u);
    }

parent_word : (s : Setup) (live : List Dev) (p : ℕ) → MayRun s → IsWord (parent_name s live p)
unfolding parent_name root_name
parent_word s live p may =
    option_both IsWord (name_of s) (device_at live p) (codes "root") (λ d is. unit_word s d.row d.unit may) (λ _. record { blank = (refl, (refl, (refl, (refl, tt)))); colon = (refl, (refl, (refl, (refl, tt)))) })

live_word : (w : World) (x : ℕ) → MayRun w.setup → IsWord (name_at w x)
live_word w x may = option_both IsWord (name_of w.setup) (device_at w.live x) [] (λ d is. unit_word w.setup d.row d.unit may) (λ _. no_word)

got_word : (s : Setup) (got : Option Arrival) → MayRun s → GotWord (got_of s got)
got_word s None may = tt
got_word s (Some a) may = unit_word s a.row a.unit may

shown_words : (s : Setup) (spot : Option ℕ) (got : Option Arrival) → MayRun s → ShownWords (shown_of s spot got)
shown_words s None got may = tt
shown_words s (Some x) got may = (spot_word s x may, got_word s got may)

told_words : (w : World) (said : Command) (r : Reply) → HasWords (told w said r)
told_words w (command.OpenDev name) r = tt
told_words w said r = tt

answered_words : (w : World) (k : ℕ) (r : Reply) → HasWords (answered w k r)
answered_words w k r = option_both HasWords (λ said. told w said r) (command_of w k) act.End (λ said is. told_words w said r) (λ _. tt)

printed_words : (w : World) (k : ℕ) (d : Deed) → MayRun w.setup → HasWords (printed w k d)
unfolding printed
printed_words w k (Search p spot to got) may = (parent_word w.setup w.live p may, spot_word w.setup spot may, got_word w.setup got may)
printed_words w k (Finalise s spot got listed anew) may = (live_word w s may, shown_words w.setup spot got may)
printed_words w k (Refuse why) may = answered_words w k (reply_of w why)
printed_words w k (Open s sole) may = answered_words w k reply.Ok
printed_words w k (Close s) may = answered_words w k reply.Ok
printed_words w k (Start ticket) may = answered_words w k reply.Ok
printed_words w k (Detach s) may = answered_words w k reply.Ok
printed_words w k (Rescan s only) may = answered_words w k reply.Ok
printed_words w k (BeginPower kind s) may = answered_words w k reply.Ok
printed_words w k (Plug x) may = answered_words w k reply.Ok
printed_words w k (Unplug x of) may = answered_words w k reply.Ok
printed_words w k Tell may = answered_words w k reply.Ok
printed_words w k d may = tt

-- a formed event that is spelt in format 2 as what a caller does is spelt so in format 1 too
pub same_shorter : (w : World) (k : ℕ) (d : Deed) (e : Event) → MayRun w.setup → IsFormedAct e.act → line_of (event_of w k d) ≡ line_of e → line_of_1 (event_of w k d) ≡ line_of_1 e
unfolding event_of
same_shorter w k d e may formed same = sym (line_remains (event_of w k d) (printed_words w k d may)) ∙ ap line_short same ∙ line_remains e (formed_words e.act formed)
