-- A boot so far, one event more, and its end.
use Rattle.std.proofs.Common.{◌≡◌, ℕ, true, List, [], ◌∷◌, ◌++◌, refl, sym, ◌∙◌, ap, subst, append_assoc}
use Rattle.std.proofs.lemmas.List.{append-nil}
use Rattle.run_rules.specs.declared.event.Event.{Event}
use Rattle.run_rules.specs.declared.world.Setup.{Setup}
use Rattle.run_rules.specs.World.{World, has_ended, opening}
use Rattle.run_rules.specs.After.{after}
use Rattle.run_rules.specs.Run.{Run, Boot, event_of}
use Rattle.run_rules.proofs.Devices.{all_snoc}
use Rattle.run_rules.proofs.Runs.{run_on}
use Rattle.dev_board.specs.Witness.{Witness}
use Rattle.dev_board.specs.Shown.{Shown}
use Rattle.dev_board.specs.Stepping.{DoesNext}
use Rattle.dev_board.specs.Booting.{GoesOn, Boots}

pub none_yet : (b : Shown) → GoesOn b b
none_yet b = ([], record { events = sym (append-nil b.events); run = refl; alone = tt; stops = refl; stopped = refl })

pub goes_further : (b m n : Shown) (place : ℕ) (told : Witness) → GoesOn b m → DoesNext m 0 place told n → GoesOn b n
unfolding event_of
goes_further b m n place told so did =
    let e : Event = event_of m.world 0 did.deed in
    let longer : Run b.world (so.0 ++ e ∷ []) (after m.world 0 did.deed) = run_on b.world so.0 m.world 0 did.deed so.1.run did.chosen in (
      so.0 ++ e ∷ [],
      record {
        events = ap (λ (s : Shown). s.events) did.board ∙ ap (λ (h : List Event). h ++ e ∷ []) so.1.events ∙ append_assoc b.events so.0 (e ∷ []);
        run = subst (λ (w : World). Run b.world (so.0 ++ e ∷ []) w) (sym (ap (λ (s : Shown). s.world) did.board)) longer;
        alone = all_snoc (λ (f : Event). f.caller ≡ 0) so.0 e so.1.alone refl;
        stops = ap (λ (s : Shown). s.stops) did.board ∙ so.1.stops;
        stopped = ap (λ (s : Shown). s.stopped) did.board ∙ so.1.stopped;
      },
    )

pub boots_now : (b n : Shown) → GoesOn b n → has_ended n.world 0 ≡ true → Boots b n
boots_now b n so over = (so.0, so.1, record { run = so.1.run; alone = so.1.alone; over = over })

-- the boot of a board that has no event yet is the boot of its opening world
pub boot_is : (s : Setup) (b n : Shown) → b.world ≡ opening s → b.events ≡ [] → Boots b n → Boot (opening s) n.events n.world
boot_is s b n begun none boots =
    let whole : n.events ≡ boots.0 = boots.1.events ∙ ap (λ (h : List Event). h ++ boots.0) none in
    subst (λ (h : List Event). Boot (opening s) h n.world) (sym whole) (subst (λ (w : World). Boot w boots.0 n.world) begun boots.2)
