-- What a formed event spells reads as this event: so no two formed events have one spelling.
use Rattle.std.proofs.Common.{◌≡◌, ℕ, ◌<◌, ◌≤◌, ◌^◌, ◌%◌, ◌==◌, Bool, true, false, ◌&&◌, cond, List, [], ◌∷◌, ◌++◌, length, flat_map, decimal, Option, Some, None, option_map, append_assoc, append-nil, refl, sym, ap, subst, ◌∙◌, arith, eqb-true}
use Rattle.std.specs.Prelude.{bytes_eq, codes, option_and_then, IfSome, ⊤}
use Rattle.std.specs.List.{AllByRecursion}
use Rattle.std.proofs.lemmas.Fmt.{decimal_nonempty}
use Rattle.run_rules.specs.declared.event.Event.{Event}
use Rattle.run_rules.specs.declared.event.Act.{Act}
use Rattle.run_rules.specs.declared.event.Act.TheVariants as act
use Rattle.run_rules.specs.declared.event.Got.{Got}
use Rattle.run_rules.specs.declared.event.Shown.{Shown}
use Rattle.run_rules.specs.declared.event.Reply.{Reply}
use Rattle.run_rules.specs.declared.event.Reply.TheVariants as reply
use Rattle.run_rules.specs.declared.event.IoAnswer.{IoAnswer}
use Rattle.run_rules.specs.declared.event.IoAnswer.TheVariants as answer
use Rattle.run_rules.specs.declared.event.DepthName.{DepthName}
use Rattle.run_rules.specs.declared.event.PowerKind.TheVariants as kind
use Rattle.run_rules.specs.Lines.{IsDeviceName, IsFormed, IsFormedAct, IsFormedAnswer, IsFormedDepthName, IsFormedGot, IsFormedName, IsFormedShown, IsSpotName, MayClose, MayDetach, MayEndPower, MayOpen, MayOpenSole, MayPlug, MayPower, MayRescan, MayStart, MayUnplug, act_text, answer_text, depth_names_text, got_text, line_of, names_text, reply_text, shown_text, started_text}
use Rattle.run_rules.proofs.FormedNames.{device_known}
use Rattle.run_rules.proofs.NameParts.{AllDigits, all_digits}
use Rattle.dev_event.specs.Reading.{act_in, all_deep, all_named, answer_in, before, behind, done_in, event_in, found_in, got_in, io_in, listed_by, name_in, number_in, open_in, pieces, placed_in, reply_in, said_in, shown_in, started_in, told_in}
use Rattle.dev_event.specs.Spelled.{IsSpelling, Keeps, Spells}
use Rattle.dev_event.proofs.Cuts.{before_all, before_mark, behind_mark, behind_over, pieces_end, pieces_word}
use Rattle.dev_event.proofs.Shapes.{device_is_not, digits_no_blank, digits_no_colon, digits_no_dot, name_begins, name_read, name_there, no_blank, no_colon, number_read, spot_known}

-- ---- tests of texts

bytes_apart : (t u : List ℕ) → (t ≡ u → ⊥) → bytes_eq t u ≡ false
bytes_apart [] [] other = absurd (other refl)
bytes_apart [] (y ∷ u) other = refl
bytes_apart (x ∷ t) [] other = refl
bytes_apart (x ∷ t) (y ∷ u) other = by (x == y) refl (bytes_apart t u)
  where
    by : (b : Bool) → (x == y) ≡ b → ((t ≡ u → ⊥) → bytes_eq t u ≡ false) → (b && bytes_eq t u) ≡ false
    by true same rest = rest (λ tails. let heads : x ≡ y = eqb-true x y same in other (cc))
    by false differ rest = refl

-- ---- replies

-- the device that a reply names has a name
abbrev IsReadable : Reply → Type 0
IsReadable (reply.Busy name) = IsFormedName name
IsReadable (reply.NotSupported name) = IsFormedName name
IsReadable (reply.SuspendFailed name) = IsFormedName name
IsReadable _ = ⊤

reply_read : (r : Reply) → IsReadable r → reply_in (reply_text r) ≡ Some r
reply_read reply.Ok h = refl
reply_read reply.NoDevice h = refl
reply_read reply.Gone h = refl
reply_read reply.Exclusive h = refl
reply_read reply.TooMany h = refl
reply_read reply.Shared h = refl
reply_read reply.NotHeld h = refl
reply_read reply.Asleep h = refl
reply_read (reply.Busy name) h = ap (option_map reply.Busy) (name_read name h)
reply_read (reply.NotSupported name) h = ap (option_map reply.NotSupported) (name_read name h)
reply_read (reply.SuspendFailed name) h = ap (option_map reply.SuspendFailed) (name_read name h)
reply_read reply.NoRescan h = refl
reply_read reply.BadAttribute h = refl
reply_read reply.BadLocator h = refl
reply_read reply.NoSpot h = refl

open_readable : (r : Reply) → MayOpen r → IsReadable r
open_readable (reply.Busy name) h = absurd h
open_readable (reply.NotSupported name) h = absurd h
open_readable (reply.SuspendFailed name) h = absurd h
open_readable _ h = tt

sole_readable : (r : Reply) → MayOpenSole r → IsReadable r
sole_readable (reply.Busy name) h = absurd h
sole_readable (reply.NotSupported name) h = absurd h
sole_readable (reply.SuspendFailed name) h = absurd h
sole_readable _ h = tt

close_readable : (r : Reply) → MayClose r → IsReadable r
close_readable (reply.Busy name) h = absurd h
close_readable (reply.NotSupported name) h = absurd h
close_readable (reply.SuspendFailed name) h = absurd h
close_readable _ h = tt

detach_readable : (r : Reply) → MayDetach r → IsReadable r
detach_readable (reply.Busy name) h = device_known name h
detach_readable (reply.NotSupported name) h = absurd h
detach_readable (reply.SuspendFailed name) h = absurd h
detach_readable _ h = tt

rescan_readable : (r : Reply) → MayRescan r → IsReadable r
rescan_readable (reply.Busy name) h = device_known name h
rescan_readable (reply.NotSupported name) h = absurd h
rescan_readable (reply.SuspendFailed name) h = absurd h
rescan_readable _ h = tt

power_readable : (r : Reply) → MayPower r → IsReadable r
power_readable (reply.Busy name) h = absurd h
power_readable (reply.NotSupported name) h = absurd h
power_readable (reply.SuspendFailed name) h = absurd h
power_readable _ h = tt

end_readable : (r : Reply) → MayEndPower r → IsReadable r
end_readable (reply.Busy name) h = absurd h
end_readable (reply.NotSupported name) h = device_known name h
end_readable (reply.SuspendFailed name) h = device_known name h
end_readable _ h = tt

plug_readable : (r : Reply) → MayPlug r → IsReadable r
plug_readable (reply.Busy name) h = absurd h
plug_readable (reply.NotSupported name) h = absurd h
plug_readable (reply.SuspendFailed name) h = absurd h
plug_readable _ h = tt

unplug_readable : (r : Reply) → MayUnplug r → IsReadable r
unplug_readable (reply.Busy name) h = device_known name h
unplug_readable (reply.NotSupported name) h = absurd h
unplug_readable (reply.SuspendFailed name) h = absurd h
unplug_readable _ h = tt

started_read : (r : Reply) → MayStart r → started_in (started_text r) ≡ Some r
started_read reply.Ok h = refl
started_read reply.NotHeld h = refl
started_read reply.Asleep h = refl
started_read reply.NoDevice h = absurd h
started_read reply.Gone h = absurd h
started_read reply.Exclusive h = absurd h
started_read reply.TooMany h = absurd h
started_read reply.Shared h = absurd h
started_read (reply.Busy name) h = absurd h
started_read (reply.NotSupported name) h = absurd h
started_read (reply.SuspendFailed name) h = absurd h
started_read reply.NoRescan h = absurd h
started_read reply.BadAttribute h = absurd h
started_read reply.BadLocator h = absurd h
started_read reply.NoSpot h = absurd h

-- ---- `NAME: TEXT`

-- a name, a colon, a blank and a text, cut again
colon_text : (name text : List ℕ) → name ++ codes ": " ++ text ≡ name ++ 58 ∷ 32 ∷ text
colon_text name text = append_assoc name (codes ": ") text

name_of_said : (name text : List ℕ) → IsFormedName name → name_in (before 58 (name ++ codes ": " ++ text)) ≡ Some name
name_of_said name text known = ap (λ t. name_in (before 58 t)) (colon_text name text) ∙ ap name_in (before_mark 58 name (32 ∷ text) (no_colon name known)) ∙ name_read name known

text_of_said : (name text : List ℕ) → IsFormedName name → behind 32 (name ++ codes ": " ++ text) ≡ text
text_of_said name text known = ap (behind 32) (colon_text name text) ∙ behind_over 32 name (58 ∷ 32 ∷ text) (no_blank name known)

-- what is read behind the name
after_name : {A B : Type 0} (f : List ℕ → A → B) (g : List ℕ → Option A) (name text : List ℕ) (x : A) → IsFormedName name → g text ≡ Some x
    → option_and_then (λ n. option_map (f n) (g (behind 32 (name ++ codes ": " ++ text)))) (name_in (before 58 (name ++ codes ": " ++ text))) ≡ Some (f name x)
after_name f g name text x known reads =
    ap (λ o. option_and_then (λ n. option_map (f n) (g (behind 32 (name ++ codes ": " ++ text)))) o) (name_of_said name text known)
    ∙ ap (λ t. option_map (f name) (g t)) (text_of_said name text known)
    ∙ ap (option_map (f name)) reads

told_read : (name : List ℕ) (r : Reply) → IsFormedName name → IsReadable r → told_in (name ++ codes ": " ++ reply_text r) ≡ Some (name, r)
told_read name r known readable = after_name (λ n s. (n, s)) reply_in name (reply_text r) r known (reply_read r readable)

said_read : (make : List ℕ → Reply → Act) (name : List ℕ) (r : Reply) → IsFormedName name → IsReadable r → said_in make (name ++ codes ": " ++ reply_text r) ≡ Some (make name r)
said_read make name r known readable = ap (option_map (λ told. make told.0 told.1)) (told_read name r known readable)

-- no device is called `-x`
not_sole : (name text : List ℕ) → IsFormedName name → bytes_eq (before 32 (name ++ codes ": " ++ text)) (codes "-x") ≡ false
not_sole [] text known = absurd (name_there [] known refl)
not_sole (c ∷ cs) text known =
    rw (name_begins 32 c cs refl known, name_begins 45 c cs refl known) refl

open_read : (name : List ℕ) (r : Reply) → IsFormedName name → IsReadable r → open_in (name ++ codes ": " ++ reply_text r) ≡ Some (act.OpenDev name r)
open_read name r known readable =
    ap (λ b. cond b (said_in act.OpenSole (behind 32 (name ++ codes ": " ++ reply_text r))) (said_in act.OpenDev (name ++ codes ": " ++ reply_text r))) (not_sole name (reply_text r) known)
    ∙ said_read act.OpenDev name r known readable

-- ---- what was attached

row_text : (name ds : List ℕ) → name ++ codes " row " ++ ds ≡ name ++ 32 ∷ 114 ∷ 111 ∷ 119 ∷ 32 ∷ ds
row_text name ds = append_assoc name (codes " row ") ds

-- a device with its row is not `not configured`
not_none : (name ds : List ℕ) → IsDeviceName name → bytes_eq (name ++ codes " row " ++ ds) (codes "not configured") ≡ false
not_none name ds device = bytes_apart (name ++ codes " row " ++ ds) (codes "not configured") (λ same.
    let word : name ≡ codes "not" =
    sym (before_mark 32 name (114 ∷ 111 ∷ 119 ∷ 32 ∷ ds) (no_blank name (device_known name device))) ∙ ap (before 32) (sym (row_text name ds) ∙ same) in
    device_is_not name (codes "not") device refl word)

got_read : (got : Option Got) → IfSome got IsFormedGot → got_in (got_text got) ≡ Some got
got_read None h = refl
got_read (Some got) h =
    let known : IsFormedName got.name = device_known got.name h.0 in
    let text : List ℕ = got.name ++ codes " row " ++ decimal got.row in
    let row : behind 32 (behind 32 text) ≡ decimal got.row = ap (λ t. behind 32 (behind 32 t)) (row_text got.name (decimal got.row)) ∙ ap (behind 32) (behind_over 32 got.name (32 ∷ 114 ∷ 111 ∷ 119 ∷ 32 ∷ decimal got.row) (no_blank got.name known)) in
    let name : name_in (before 32 text) ≡ Some got.name = ap (λ t. name_in (before 32 t)) (row_text got.name (decimal got.row)) ∙ ap name_in (before_mark 32 got.name (114 ∷ 111 ∷ 119 ∷ 32 ∷ decimal got.row) (no_blank got.name known)) ∙ name_read got.name known in
    let fits : got.row < 2 ^ 32 = omega (arith, h.1) in
    ap (λ b. cond b (Some None) (option_map (λ n. Some (record { name = n; row = number_in (behind 32 (behind 32 text)) })) (name_in (before 32 text)))) (not_none got.name (decimal got.row) h.0)
    ∙ ap (option_map (λ n. Some (record { name = n; row = number_in (behind 32 (behind 32 text)) }))) name
    ∙ ap (λ d. Some (Some (record { name = got.name; row = number_in d }))) row
    ∙ ap (λ n. Some (Some (record { name = got.name; row = n }))) (number_read got.row fits)

placed_read : (spot : List ℕ) (got : Option Got) → IsSpotName spot → IfSome got IsFormedGot → placed_in (spot ++ codes ": " ++ got_text got) ≡ Some (record { spot = spot; got = got })
placed_read spot got is formed = after_name (λ s g. record { spot = s; got = g }) got_in spot (got_text got) got (spot_known spot is) (got_read got formed)

shown_read : (shown : Option Shown) → IfSome shown IsFormedShown → shown_in (shown_text shown) ≡ Some shown
shown_read None h = refl
shown_read (Some shown) h = ap (option_map Some) (placed_read shown.spot shown.got h.0 h.1)

-- `PARENT on SPOT: TEXT`
on_text : (parent spot text : List ℕ) → parent ++ codes " on " ++ spot ++ codes ": " ++ text ≡ parent ++ 32 ∷ 111 ∷ 110 ∷ 32 ∷ (spot ++ codes ": " ++ text)
on_text parent spot text =
    ap (λ t. t ++ codes ": " ++ text) (append_assoc parent (codes " on ") spot)
    ∙ ap (λ t. t ++ text) (append_assoc parent (codes " on " ++ spot) (codes ": "))
    ∙ append_assoc parent (codes " on " ++ spot ++ codes ": ") text

found_read : (parent spot : List ℕ) (got : Option Got) → IsFormedName parent → IsSpotName spot → IfSome got IsFormedGot
    → found_in (parent ++ codes " on " ++ spot ++ codes ": " ++ got_text got) ≡ Some (act.Found parent spot got)
found_read parent spot got known is formed =
    let text : List ℕ = spot ++ codes ": " ++ got_text got in
    ap found_in (on_text parent spot (got_text got))
    ∙ ap (λ o. option_and_then (λ p. option_map (λ at. act.Found p at.spot at.got) (placed_in (behind 32 (behind 32 (parent ++ 32 ∷ 111 ∷ 110 ∷ 32 ∷ text))))) o)
    (ap name_in (before_mark 32 parent (111 ∷ 110 ∷ 32 ∷ text) (no_blank parent known)) ∙ name_read parent known)
    ∙ ap (λ t. option_map (λ (at : Shown). act.Found parent at.spot at.got) (placed_in (behind 32 t))) (behind_mark 32 parent (111 ∷ 110 ∷ 32 ∷ text) (no_blank parent known))
    ∙ ap (option_map (λ (at : Shown). act.Found parent at.spot at.got)) (placed_read spot got is formed)

-- ---- transfers

io_text : (device ds text : List ℕ) → device ++ codes " " ++ ds ++ codes ": " ++ text ≡ device ++ 32 ∷ (ds ++ 58 ∷ 32 ∷ text)
io_text device ds text =
    ap (λ t. t ++ codes ": " ++ text) (append_assoc device (codes " ") ds)
    ∙ ap (λ t. t ++ text) (append_assoc device (32 ∷ ds) (codes ": "))
    ∙ append_assoc device (32 ∷ ds ++ codes ": ") text
    ∙ ap (λ t. device ++ 32 ∷ t) (append_assoc ds (codes ": ") text)

io_read : (device : List ℕ) (value : ℕ) (r : Reply) → IsFormedName device → MayStart r → value < 2 ^ 32
    → io_in (device ++ codes " " ++ decimal value ++ codes ": " ++ started_text r) ≡ Some (act.IoStart device value r)
io_read device value r known may fits =
    let text : List ℕ = decimal value ++ 58 ∷ 32 ∷ started_text r in
    let rest : behind 32 (device ++ 32 ∷ text) ≡ text = behind_mark 32 device text (no_blank device known) in
    let number : number_in (before 58 (behind 32 (device ++ 32 ∷ text))) ≡ value =
    ap (λ t. number_in (before 58 t)) rest ∙ ap number_in (before_mark 58 (decimal value) (32 ∷ started_text r) (digits_no_colon value fits)) ∙ number_read value fits in
    let said : started_in (behind 32 (behind 32 (device ++ 32 ∷ text))) ≡ Some r =
    ap (λ t. started_in (behind 32 t)) rest ∙ ap started_in (behind_over 32 (decimal value) (58 ∷ 32 ∷ started_text r) (digits_no_blank value fits)) ∙ started_read r may in
    ap io_in (io_text device (decimal value) (started_text r))
    ∙ ap (λ o. option_and_then (λ d. option_map (act.IoStart d (number_in (before 58 (behind 32 (device ++ 32 ∷ text))))) (started_in (behind 32 (behind 32 (device ++ 32 ∷ text))))) o)
    (ap name_in (before_mark 32 device text (no_blank device known)) ∙ name_read device known)
    ∙ ap (λ n. option_map (act.IoStart device n) (started_in (behind 32 (behind 32 (device ++ 32 ∷ text))))) number
    ∙ ap (option_map (act.IoStart device value)) said

-- a number is not `error`
not_error : (n : ℕ) → n < 2 ^ 32 → bytes_eq (decimal n) (codes "error") ≡ false
not_error n fits = bytes_apart (decimal n) (codes "error") (λ same. let digits : AllDigits (codes "error") = subst AllDigits same (all_digits n (omega arith)) in absurd (omega (arith, digits.0)))

answer_read : (a : IoAnswer) → IsFormedAnswer a → answer_in (answer_text a) ≡ a
answer_read (answer.Number n) fits = ap (λ b. cond b answer.DeviceError (answer.Number (number_in (decimal n)))) (not_error n fits) ∙ ap answer.Number (number_read n fits)
answer_read answer.DeviceError h = refl

done_read : (device : List ℕ) (a : IoAnswer) → IsFormedName device → IsFormedAnswer a → done_in (device ++ codes ": " ++ answer_text a) ≡ Some (act.IoDone device a)
done_read device a known formed =
    ap (option_map (λ d. act.IoDone d (answer_in (behind 32 (device ++ codes ": " ++ answer_text a))))) (name_of_said device (answer_text a) known)
    ∙ ap (λ t. Some (act.IoDone device (answer_in t))) (text_of_said device (answer_text a) known)
    ∙ ap (λ x. Some (act.IoDone device x)) (answer_read a formed)

scan_read : (device : List ℕ) → IsFormedName device → option_map act.ScanEnd (name_in (before 58 (device ++ codes ": " ++ codes "done"))) ≡ Some (act.ScanEnd device)
scan_read device known = ap (option_map act.ScanEnd) (name_of_said device (codes "done") known)

-- ---- lists

-- names, each behind a blank
abbrev blank_names : List (List ℕ) → List ℕ
blank_names names = flat_map (λ name. codes " " ++ name) names

pieces_joined : (name : List ℕ) (names : List (List ℕ)) → IsDeviceName name → AllByRecursion IsDeviceName names → pieces (name ++ blank_names names) ≡ name ∷ names
pieces_joined name [] device all = ap pieces (append-nil name) ∙ pieces_end name (no_blank name (device_known name device))
pieces_joined name (next ∷ names) device all = pieces_word name (next ++ blank_names names) (no_blank name (device_known name device)) ∙ ap (λ ps. name ∷ ps) (pieces_joined next names all.0 all.1)

first_joined : (name : List ℕ) (names : List (List ℕ)) → IsDeviceName name → before 32 (name ++ blank_names names) ≡ name
first_joined name [] device = ap (before 32) (append-nil name) ∙ before_all 32 name (no_blank name (device_known name device))
first_joined name (next ∷ names) device = before_mark 32 name (next ++ blank_names names) (no_blank name (device_known name device))

all_read : (names : List (List ℕ)) → AllByRecursion IsDeviceName names → all_named names ≡ Some names
all_read [] all = refl
all_read (name ∷ names) all =
    ap (λ o. option_and_then (λ n. option_map (λ more. n ∷ more) (all_named names)) o) (name_read name (device_known name all.0))
    ∙ ap (option_map (λ more. name ∷ more)) (all_read names all.1)

-- what is listed, where it is something and not the words `no device`
listed_read : {A : Type 0} (every : List (List ℕ) → Option (List A)) (text : List ℕ) (xs : List A) → (text ≡ [] → ⊥) → (text ≡ codes "no device" → ⊥) → every (pieces text) ≡ Some xs
    → listed_by every text ≡ Some (Some xs)
listed_read every [] xs some other reads = absurd (some refl)
listed_read every (c ∷ cs) xs some other reads =
    ap (λ b. cond b (Some None) (option_map Some (every (pieces (c ∷ cs))))) (bytes_apart (c ∷ cs) (codes "no device") other) ∙ ap (option_map Some) reads

front_there : (name rest : List ℕ) → (name ≡ [] → ⊥) → name ++ rest ≡ [] → ⊥
front_there [] rest some none = some refl
front_there (c ∷ cs) rest some none = absurd cc

names_read : (names : Option (List (List ℕ))) → IfSome names (AllByRecursion IsDeviceName) → listed_by all_named (behind 32 (names_text names)) ≡ Some names
names_read None h = refl
names_read (Some []) h = refl
names_read (Some (name ∷ names)) h =
    listed_read all_named (name ++ blank_names names) (name ∷ names)
    (front_there name (blank_names names) (name_there name (device_known name h.0)))
    (λ same. device_is_not name (codes "no") h.0 refl (sym (first_joined name names h.0) ∙ ap (before 32) same))
    (ap all_named (pieces_joined name names h.0 h.1) ∙ all_read (name ∷ names) h)

-- ---- trees

abbrev blank_deep : List DepthName → List ℕ
blank_deep names = flat_map (λ d. codes " " ++ decimal d.depth ++ codes " " ++ d.name) names

abbrev words_of_deep : List DepthName → List (List ℕ)
words_of_deep [] = []
words_of_deep (d ∷ names) = decimal d.depth ∷ d.name ∷ words_of_deep names

-- a depth, a name and what follows them
deep_text : (d : DepthName) (rest : List ℕ) → (decimal d.depth ++ codes " " ++ d.name) ++ rest ≡ decimal d.depth ++ 32 ∷ (d.name ++ rest)
deep_text d rest = ap (λ t. t ++ rest) (append_assoc (decimal d.depth) (codes " ") d.name) ∙ append_assoc (decimal d.depth) (32 ∷ d.name) rest

pieces_deep : (d : DepthName) (names : List DepthName) → IsFormedDepthName d → AllByRecursion IsFormedDepthName names
    → pieces ((decimal d.depth ++ codes " " ++ d.name) ++ blank_deep names) ≡ words_of_deep (d ∷ names)
pieces_deep d [] formed all =
    ap pieces (deep_text d []) ∙ pieces_word (decimal d.depth) (d.name ++ []) (digits_no_blank d.depth formed.1)
    ∙ ap (λ t. decimal d.depth ∷ pieces t) (append-nil d.name) ∙ ap (λ ps. decimal d.depth ∷ ps) (pieces_end d.name (no_blank d.name (device_known d.name formed.0)))
pieces_deep d (e ∷ names) formed all =
    let rest : List ℕ = (decimal e.depth ++ codes " " ++ e.name) ++ blank_deep names in
    ap pieces (deep_text d (32 ∷ rest)) ∙ pieces_word (decimal d.depth) (d.name ++ 32 ∷ rest) (digits_no_blank d.depth formed.1)
    ∙ ap (λ ps. decimal d.depth ∷ ps) (pieces_word d.name rest (no_blank d.name (device_known d.name formed.0)))
    ∙ ap (λ ps. decimal d.depth ∷ d.name ∷ ps) (pieces_deep e names all.0 all.1)

deep_read : (names : List DepthName) → AllByRecursion IsFormedDepthName names → all_deep (words_of_deep names) ≡ Some names
deep_read [] all = refl
deep_read (d ∷ names) all =
    ap (λ o. option_and_then (λ n. option_map (λ more. record { depth = number_in (decimal d.depth); name = n } ∷ more) (all_deep (words_of_deep names))) o) (name_read d.name (device_known d.name all.0.0))
    ∙ ap (λ k. option_map (λ (more : List DepthName). record { depth = k; name = d.name } ∷ more) (all_deep (words_of_deep names))) (number_read d.depth all.0.1)
    ∙ ap (option_map (λ (more : List DepthName). d ∷ more)) (deep_read names all.1)

decimal_there : (n : ℕ) → n < 2 ^ 32 → decimal n ≡ [] → ⊥
decimal_there n fits none = let some : 1 ≤ length (decimal n) = decimal_nonempty n (omega arith) in let no : length (decimal n) ≡ 0 = ap length none in absurd (omega arith)

digits_there : (n : ℕ) → decimal n ≡ codes "no" → n < 2 ^ 32 → ⊥
digits_there n same fits = let digits : AllDigits (codes "no") = subst AllDigits same (all_digits n (omega arith)) in absurd (omega (arith, digits.0))

depth_names_read : (names : Option (List DepthName)) → IfSome names (AllByRecursion IsFormedDepthName) → listed_by all_deep (behind 32 (depth_names_text names)) ≡ Some names
depth_names_read None h = refl
depth_names_read (Some []) h = refl
depth_names_read (Some (d ∷ names)) h =
    let text : List ℕ = (decimal d.depth ++ codes " " ++ d.name) ++ blank_deep names in
    let first : before 32 text ≡ decimal d.depth = ap (before 32) (deep_text d (blank_deep names)) ∙ before_mark 32 (decimal d.depth) (d.name ++ blank_deep names) (digits_no_blank d.depth h.0.1) in
    listed_read all_deep text (d ∷ names)
    (λ none. let empty : decimal d.depth ≡ [] = sym first ∙ ap (before 32) none in decimal_there d.depth h.0.1 empty)
    (λ same. digits_there d.depth (sym first ∙ ap (before 32) same) h.0.1)
    (ap all_deep (pieces_deep d names h.0 h.1) ∙ deep_read (d ∷ names) h)

-- ---- `list` and `tree` of a device

of_name : (device tail : List ℕ) → device ++ codes ":" ++ tail ≡ device ++ 58 ∷ tail
of_name device tail = append_assoc device (codes ":") tail

listed_after : {A : Type 0} (f : List ℕ → A → Act) (g : List ℕ → Option A) (device tail : List ℕ) (x : A) → IsFormedName device → g (behind 32 tail) ≡ Some x
    → option_and_then (λ d. option_map (f d) (g (behind 32 (behind 58 (device ++ codes ":" ++ tail))))) (name_in (before 58 (device ++ codes ":" ++ tail))) ≡ Some (f device x)
listed_after f g device tail x known reads =
    ap (λ t. option_and_then (λ d. option_map (f d) (g (behind 32 (behind 58 t)))) (name_in (before 58 t))) (of_name device tail)
    ∙ ap (λ o. option_and_then (λ d. option_map (f d) (g (behind 32 (behind 58 (device ++ 58 ∷ tail))))) o) (ap name_in (before_mark 58 device tail (no_colon device known)) ∙ name_read device known)
    ∙ ap (λ t. option_map (f device) (g (behind 32 t))) (behind_mark 58 device tail (no_colon device known))
    ∙ ap (option_map (f device)) reads

-- ---- acts

-- each act is read from its text
pub act_read : (a : Act) → IsFormedAct a → act_in (act_text a) ≡ Some a
unfolding act_in act_text
act_read (act.Found parent spot got) h = found_read parent spot got h.0 h.1 h.2
act_read (act.ScanEnd device) h = scan_read device h
act_read act.Interrupts h = refl
act_read (act.Final device shown) h = after_name act.Final shown_in device (shown_text shown) shown h.0 (shown_read shown h.1)
act_read act.End h = refl
act_read (act.DropRef device) h = ap (option_map act.DropRef) (name_read device h)
act_read (act.OpenDev device r) h = open_read device r h.0 (open_readable r h.1)
act_read (act.OpenSole device r) h = said_read act.OpenSole device r h.0 (sole_readable r h.1)
act_read (act.CloseDev device r) h = said_read act.CloseDev device r h.0 (close_readable r h.1)
act_read (act.IoStart device value r) h = io_read device value r h.0 h.1 h.2
act_read (act.IoDone device answer) h = done_read device answer h.0 h.1
act_read (act.Detach device r) h = said_read act.Detach device r h.0 (detach_readable r h.1)
act_read (act.Free device) h = ap (option_map act.Free) (name_read device h)
act_read (act.Rescan device r) h = said_read act.Rescan device r h.0 (rescan_readable r h.1)
act_read (act.ListDev None None) h = let never : false ≡ true = h.0 in absurd cc
act_read (act.ListDev None (Some [])) h = refl
act_read (act.ListDev None (Some (name ∷ names))) h = ap (option_map (act.ListDev None)) (names_read (Some (name ∷ names)) h.1)
act_read (act.ListDev (Some device) names) h = listed_after (λ d. act.ListDev (Some d)) (listed_by all_named) device (names_text names) names h.0 (names_read names h.1)
act_read (act.TreeDev None None) h = let never : false ≡ true = h.0 in absurd cc
act_read (act.TreeDev None (Some [])) h = refl
act_read (act.TreeDev None (Some (d ∷ names))) h = ap (option_map (act.TreeDev None)) (depth_names_read (Some (d ∷ names)) h.1)
act_read (act.TreeDev (Some device) names) h = listed_after (λ d. act.TreeDev (Some d)) (listed_by all_deep) device (depth_names_text names) names h.0 (depth_names_read names h.1)
act_read (act.Power kind.Suspend device r) h = said_read (act.Power kind.Suspend) device r h.0 (power_readable r h.1)
act_read (act.Power kind.Resume device r) h = said_read (act.Power kind.Resume) device r h.0 (power_readable r h.1)
act_read (act.Power kind.ResumeTree device r) h = said_read (act.Power kind.ResumeTree) device r h.0 (power_readable r h.1)
act_read (act.Sleep device) h = ap (option_map act.Sleep) (name_read device h)
act_read (act.Wake device) h = ap (option_map act.Wake) (name_read device h)
act_read (act.PowerEnd device r) h = said_read act.PowerEnd device r h.0 (end_readable r h.1)
act_read (act.Plug spot r) h = said_read act.Plug spot r h.0 (plug_readable r h.1)
act_read (act.Unplug spot r) h = said_read act.Unplug spot r h.0 (unplug_readable r h.1)

-- ---- events

line_text : (k n t : List ℕ) → k ++ codes "." ++ n ++ codes " " ++ t ≡ k ++ 46 ∷ (n ++ 32 ∷ t)
line_text k n t =
    ap (λ x. x ++ codes " " ++ t) (append_assoc k (codes ".") n)
    ∙ ap (λ x. x ++ t) (append_assoc k (46 ∷ n) (codes " "))
    ∙ append_assoc k (46 ∷ n ++ codes " ") t
    ∙ ap (λ x. k ++ 46 ∷ x) (append_assoc n (codes " ") t)

abbrev read_as : ℕ → ℕ → Option Act → Option Event
read_as k n a = option_map (λ a. record { caller = k % 256; number = n; act = a }) a

event_read : (k n : ℕ) (a : Act) → k ≤ 16 → n < 2 ^ 32 → IsFormedAct a → event_in (decimal k ++ codes "." ++ decimal n ++ codes " " ++ act_text a) ≡ Some (record { caller = k; number = n; act = a })
unfolding event_in
event_read k n a low fits formed =
    let rest : List ℕ = decimal n ++ 32 ∷ act_text a in
    let small : k < 2 ^ 32 = omega arith in
    let caller : number_in (before 46 (decimal k ++ 46 ∷ rest)) ≡ k = ap number_in (before_mark 46 (decimal k) rest (digits_no_dot k small)) ∙ number_read k small in
    let tail : behind 46 (decimal k ++ 46 ∷ rest) ≡ rest = behind_mark 46 (decimal k) rest (digits_no_dot k small) in
    let number : number_in (before 32 (behind 46 (decimal k ++ 46 ∷ rest))) ≡ n = ap (λ t. number_in (before 32 t)) tail ∙ ap number_in (before_mark 32 (decimal n) (act_text a) (digits_no_blank n fits)) ∙ number_read n fits in
    let done : act_in (behind 32 (behind 46 (decimal k ++ 46 ∷ rest))) ≡ Some a = ap (λ t. act_in (behind 32 t)) tail ∙ ap act_in (behind_mark 32 (decimal n) (act_text a) (digits_no_blank n fits)) ∙ act_read a formed in
    let own : k % 256 ≡ k = omega arith in
    ap event_in (line_text (decimal k) (decimal n) (act_text a))
    ∙ ap (λ c. read_as c (number_in (before 32 (behind 46 (decimal k ++ 46 ∷ rest)))) (act_in (behind 32 (behind 46 (decimal k ++ 46 ∷ rest))))) caller
    ∙ ap (λ m. read_as k m (act_in (behind 32 (behind 46 (decimal k ++ 46 ∷ rest))))) number
    ∙ ap (read_as k n) done
    ∙ ap (λ c. Some (record { caller = c; number = n; act = a })) own

-- a formed event is read from its line
pub line_read : (e : Event) → IsFormed e → event_in (line_of e) ≡ Some e
unfolding line_of
line_read e formed = event_read e.caller e.number e.act formed.caller formed.number formed.act

-- two formed events never share a spelling
pub spelled_once : (e f : Event) → IsFormed e → IsFormed f → line_of e ≡ line_of f → e ≡ f
spelled_once e f formed well same = let both : Some e ≡ Some f = sym (line_read e formed) ∙ ap event_in same ∙ line_read f well in cc

-- ---- lines

-- the event that a line may spell is the only one that it does
pub spells_kept : (line : List ℕ) (e : Event) (o : Option Event) → event_in line ≡ Some e → Keeps e line o → Spells line o
spells_kept line e (Some f) is keeps = let same : e ≡ f = sym keeps.0 in let P : Event → Type 0 = λ g. IsSpelling g line in subst P same keeps.1
spells_kept line e None is keeps = λ f spells.
    let both : Some e ≡ Some f = sym is ∙ ap event_in (sym spells.1) ∙ line_read f spells.0 in
    let same : f ≡ e = cc in
    let P : Event → Type 0 = λ g. IsSpelling g line in
    keeps (subst P same spells)

pub spells_none : (line : List ℕ) → event_in line ≡ None → (e : Event) → IsSpelling e line → ⊥
spells_none line is e spells = let both : None ≡ Some e = sym is ∙ ap event_in (sym spells.1) ∙ line_read e spells.0 in absurd cc
