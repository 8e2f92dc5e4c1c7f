-- The slots of a board, and the slot of a lease step.
use Rattle.std.proofs.Common.{◌≡◌, ◌<◌, ◌==◌, ◌&&◌, ◌||◌, not, ℕ, zero, suc, Bool, true, false, cond, List, [], ◌∷◌, length, find, sym, refl, ap, ◌∙◌}
use Rattle.std.specs.Prelude.{slice_get, slice_index_or, Option, Some, None, is_some}
use Rattle.std.specs.Option.{option_map_or}
use Rattle.std.specs.List.{AllByRecursion, list_any}
use Rattle.ref_ledger.specs.declared.state.SlotState.{SlotState}
use Rattle.ref_ledger.specs.declared.state.SlotState.TheVariants.{Free, Live, Condemned}
use Rattle.run_rules.specs.declared.world.Dev.{Dev}
use Rattle.run_rules.specs.World.{World, device_on, is_condemned, is_held}
use Rattle.run_rules.specs.Search as search_rule
use Rattle.deed_effect.specs.Agreement.{slots_of, state_at}
use Rattle.dev_board.specs.Witness.{lease_step}
use Rattle.dev_board.specs.declared.answer.LeaseStep.{LeaseStep}
use Rattle.dev_board.specs.declared.answer.LeaseStep.TheVariants.{Keep, Take, Give}
use Rattle.deed_effect.proofs.Agree.{length_map_below, get_map_below}
use Rattle.board_lock.specs.Boards.{LeaseFits, is_occupied, spots_of}

fits_find : (n : ℕ) (f : ℕ → LeaseStep) → ((s : ℕ) → s < n → LeaseFits n (f s)) → (p : Dev → Bool) (live : List Dev) → AllByRecursion (λ (d : Dev). d.spot < n) live
    → (rest : LeaseStep) → LeaseFits n rest → LeaseFits n (option_map_or (λ (d : Dev). f d.spot) (find p live) rest)
fits_find n f fit p [] all rest r = r
fits_find n f fit p (d ∷ ds) all rest r = cases (fits_find n f fit p ds all.1 rest r) (p d)
  where
    cases : LeaseFits n (option_map_or (λ (x : Dev). f x.spot) (find p ds) rest) → (b : Bool) → LeaseFits n (option_map_or (λ (x : Dev). f x.spot) (cond b (Some d) (find p ds)) rest)
    cases more true = fit d.spot all.0
    cases more false = more

pub lease_fits : (n : ℕ) (w v : World) (k : ℕ) → AllByRecursion (λ (d : Dev). d.spot < n) w.live → LeaseFits n (lease_step w v k)
unfolding lease_step
lease_fits n w v k all =
    fits_find n Take (λ s l. l) (λ (d : Dev). is_held v k d.serial && not (is_held w k d.serial)) w.live all
    (option_map_or (λ (d : Dev). Give d.spot) (find (λ (d : Dev). is_held w k d.serial && not (is_held v k d.serial)) w.live) Keep)
    (fits_find n Give (λ s l. l) (λ (d : Dev). is_held w k d.serial && not (is_held v k d.serial)) w.live all Keep tt)

pub slots_long : (w : World) → length (slots_of w) ≡ spots_of w
unfolding slots_of
slots_long w = length_map_below (state_at w.live) (length w.setup.machine.spots)

at : (xs : List SlotState) (i : ℕ) (a : SlotState) → slice_get xs i ≡ Some a → slice_index_or xs i Free ≡ a
at [] i a e = ap (λ (o : Option SlotState). the o) e
  where
    the : Option SlotState → SlotState
    the None = Free
    the (Some x) = x
at (x ∷ xs) zero a e = ap (λ (o : Option SlotState). the o) e
  where
    the : Option SlotState → SlotState
    the None = Free
    the (Some x) = x
at (x ∷ xs) (suc i) a e = at xs i a e

state_there : (o : Option Dev) → is_some o ≡ is_occupied (option_map_or (λ (d : Dev). cond (is_condemned d) Condemned Live) o Free)
state_there None = refl
state_there (Some d) = either (is_condemned d)
  where
    either : (b : Bool) → true ≡ is_occupied (cond b Condemned Live)
    either true = refl
    either false = refl

found_some : (p : Dev → Bool) (live : List Dev) → is_some (find p live) ≡ list_any p live
found_some p [] = refl
found_some p (d ∷ ds) = cases (found_some p ds) (p d)
  where
    cases : is_some (find p ds) ≡ list_any p ds → (b : Bool) → is_some (cond b (Some d) (find p ds)) ≡ (b || list_any p ds)
    cases more true = refl
    cases more false = more

pub occupied_state : (w : World) (x : ℕ) → x < spots_of w → search_rule.is_occupied w.live x ≡ is_occupied (slice_index_or (slots_of w) x Free)
unfolding slots_of
occupied_state w x l = sym (found_some (λ (d : Dev). d.spot == x) w.live) ∙ (state_there (device_on w.live x) ∙ ap is_occupied (sym (at (slots_of w) x (state_at w.live x) (get_map_below (state_at w.live) (length w.setup.machine.spots) x l))))
