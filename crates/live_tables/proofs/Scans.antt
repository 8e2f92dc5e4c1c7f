-- What a pass answers.
use Rattle.std.proofs.Common.{◌≡◌, ◌<◌, ℕ, Bool, ◌==◌, cond, List, [], ◌∷◌, ◌++◌, length, map, drop, Option, Some, None, Ok, Err, refl, sym, ap, ◌∙◌, subst, arith}
use Rattle.std.specs.Prelude.{Result, OnOk, OnErr, ⊤}
use Rattle.std.specs.List.{AllByRecursion}
use Rattle.std.specs.Option.{option_map_or, option_or}
use Rattle.std.proofs.Math.Seq.{drop-append_seam}
use Rattle.std.proofs.lemmas.Bool.{ne_eqb}
use Rattle.std.proofs.lemmas.List.Folds.{find-append}
use Rattle.cf_types.specs.declared.memory.Memory.{Memory}
use Rattle.run_rules.specs.declared.world.Dev.{Dev}
use Rattle.run_rules.specs.World.{device_at, name_of, parent_name, root_name}
use Rattle.run_rules.specs.Sound.{EachLater, IsApart, IsPlaced}
use Rattle.run_rules.proofs.Devices.{all_imp}
use Rattle.live_rules.specs.declared.plan.LiveLine.{LiveLine}
use Rattle.live_rules.specs.declared.plan.LiveLine.TheVariants.{Attached}
use Rattle.live_rules.specs.Laws.{IsCutShort, IsSound}
use Rattle.live_rules.specs.Live.{LiveWorld, Settled, LiveSite, attached_line, came, pass, scan}
use Rattle.live_rules.proofs.Appends.{append-assoc, scan_appends}
use Rattle.live_rules.proofs.Settles.{pass_settles}
use Rattle.live_rules.proofs.Steps.{or_none}
use Rattle.live_tables.specs.Answers.{Leaves}
use Rattle.live_tables.specs.Coming.{Searched, lines_as_they_come}
use Rattle.live_tables.specs.Running.{Running}

-- ---- the lines of devices once all have come

none_at : (p : ℕ) (ds : List Dev) → AllByRecursion (λ (d : Dev). p < d.serial) ds → device_at ds p ≡ None
none_at p [] h = refl
none_at p (d ∷ ds) h = ap (λ (b : Bool). cond b (Some d) (device_at ds p)) (ne_eqb d.serial p (λ e. let less : p < d.serial = h.0 in absurd (omega (arith, less, e)))) ∙ none_at p ds h.1

-- a parent is found among those that came before its child
one_line : (t : LiveSite) (live : List Dev) (d : Dev) (ds : List Dev) → d.parent < d.serial → AllByRecursion (λ (e : Dev). d.serial < e.serial) ds → attached_line t live d ≡ attached_line t (live ++ d ∷ ds) d
unfolding parent_name
one_line t live d ds less later =
    ap (λ (o : Option Dev). Attached (name_of t.setup d) (option_map_or (name_of t.setup) o root_name) d.row)
    (sym (find-append (λ (e : Dev). e.serial == d.parent) live (d ∷ ds)
    ∙ ap (option_or (device_at live d.parent)) (none_at d.parent (d ∷ ds) (less, all_imp (λ (e : Dev). d.serial < e.serial) (λ (e : Dev). d.parent < e.serial) (λ e lt. omega (arith, less, lt)) ds later))
    ∙ or_none (device_at live d.parent)))

lines_are : (t : LiveSite) (live ds : List Dev) → AllByRecursion (λ (d : Dev). d.parent < d.serial) ds → EachLater (λ (d e : Dev). d.serial < e.serial) ds
    → lines_as_they_come t live ds ≡ map (attached_line t (live ++ ds)) ds
unfolding lines_as_they_come
lines_are t live [] parents later = refl
lines_are t live (d ∷ ds) parents later =
    ap (λ (l : LiveLine). l ∷ lines_as_they_come t (live ++ d ∷ []) ds) (one_line t live d ds parents.0 later.0)
    ∙ ap (λ (ls : List LiveLine). attached_line t (live ++ d ∷ ds) d ∷ ls)
    (lines_are t (live ++ d ∷ []) ds parents.1 later.1 ∙ ap (λ (all : List Dev). map (attached_line t all) ds) (append-assoc live (d ∷ []) ds))

-- ---- those that came of sound devices

all_behind : {A : Type 0} (P : A → Type 0) (xs ys : List A) → AllByRecursion P (xs ++ ys) → AllByRecursion P ys
all_behind P [] ys h = h
all_behind P (x ∷ xs) ys h = all_behind P xs ys h.1

later_behind : {A : Type 0} (R : A → A → Type 0) (xs ys : List A) → EachLater R (xs ++ ys) → EachLater R ys
later_behind R [] ys h = h
later_behind R (x ∷ xs) ys h = later_behind R xs ys h.1

rising : (t : LiveSite) (live : List Dev) → EachLater (IsApart t.setup) live → EachLater (λ (d e : Dev). d.serial < e.serial) live
rising t [] h = tt
rising t (d ∷ ds) h = (all_imp (IsApart t.setup d) (λ (e : Dev). d.serial < e.serial) (λ e a. a.later) ds h.0, rising t ds h.1)

come_lines : (t : LiveSite) (old new : List Dev) (v : LiveWorld) → IsSound t v → v.live ≡ old ++ new → lines_as_they_come t old new ≡ map (attached_line t v.live) new
come_lines t old new v h is =
    lines_are t old new
    (all_behind (λ (d : Dev). d.parent < d.serial) old new (subst (AllByRecursion (λ (d : Dev). d.parent < d.serial)) is (all_imp (IsPlaced v.live v.next) (λ (d : Dev). d.parent < d.serial) (λ d p. p.after_parent) v.live h.devices.placed)))
    (later_behind (λ (d e : Dev). d.serial < e.serial) old new (subst (EachLater (λ (d e : Dev). d.serial < e.serial)) is (rising t v.live h.devices.apart)))
    ∙ ap (λ (all : List Dev). map (attached_line t all) new) (sym is)

same_rest : {A : Type 0} (xs ys zs : List A) → xs ++ ys ≡ xs ++ zs → ys ≡ zs
same_rest {A} xs ys zs e = sym (drop-append_seam xs ys) ∙ ap (drop (length xs)) e ∙ drop-append_seam xs zs

-- ---- a scan

scan_done : (r v : Running) (old new : List LiveLine) → IsSound r.site r.world → IsSound v.site v.world → Searched r v (pass r.site r.world) old new (Ok tt) → Leaves r v old new (scan r.site r.world)
unfolding scan
scan_done r v old new h k one =
    let appends = scan_appends r.site r.world h in
    let newer : came r.world (pass r.site r.world) ≡ one.brings.came = same_rest r.world.live (came r.world (pass r.site r.world)) one.brings.came (sym appends.behind ∙ ap (λ (w : LiveWorld). w.live) (sym one.ok) ∙ one.brings.live) in
    record {
      running = ap (λ (t : LiveSite). record { site = t; world = v.world }) one.brings.site ∙ ap (λ (w : LiveWorld). record { site = r.site; world = w }) one.ok;
      lines = one.brings.lines
          ∙ ap (λ (ls : List LiveLine). old ++ ls)
          (come_lines r.site r.world.live one.brings.came v.world (subst (λ (t : LiveSite). IsSound t v.world) one.brings.site k) one.brings.live
          ∙ ap (λ (w : LiveWorld). map (attached_line r.site w.live) one.brings.came) one.ok
          ∙ ap (map (attached_line r.site (pass r.site r.world).live)) (sym newer));
    }

scan_cut : (r v : Running) (old new : List LiveLine) (e : Memory) → IsSound v.site v.world → Searched r v (pass r.site r.world) old new (Err e) → IsCutShort r.site r.world v.world old new
scan_cut r v old new e k one = record {
  first = one.brings.came;
  rest = one.err.rest;
  came = one.brings.live;
  begins = one.err.live;
  serials = one.brings.next;
  on = one.brings.on;
  lines = one.brings.lines
      ∙ ap (λ (ls : List LiveLine). old ++ ls) (come_lines r.site r.world.live one.brings.came v.world (subst (λ (t : LiveSite). IsSound t v.world) one.brings.site k) one.brings.live);
}

-- ---- whether it was cut short or not

pub scan_ok : (r v : Running) (old new : List LiveLine) (done : Result ⊤ Memory) → IsSound r.site r.world → IsSound v.site v.world → Searched r v (pass r.site r.world) old new done
    → OnOk done (Leaves r v old new (scan r.site r.world))
scan_ok r v old new (Ok done) h k one = scan_done r v old new h k one
scan_ok r v old new (Err e) h k one = tt

pub scan_settled : (r v : Running) (old new : List LiveLine) (done : Result ⊤ Memory) → IsSound r.site r.world → Searched r v (pass r.site r.world) old new done → OnOk done (Settled v.site v.world)
scan_settled r v old new (Ok done) h one = rw (one.brings.site, one.ok) (pass_settles r.site r.world h)
scan_settled r v old new (Err e) h one = tt

pub scan_err : (r v : Running) (old new : List LiveLine) (done : Result ⊤ Memory) → IsSound v.site v.world → Searched r v (pass r.site r.world) old new done
    → OnErr done (IsCutShort r.site r.world v.world old new)
scan_err r v old new (Ok done) k one = tt
scan_err r v old new (Err e) k one = scan_cut r v old new e k one
