-- The search by driver and unit, one device on.
use Rattle.std.proofs.Common.{◌≡◌, ◌≢◌, ℕ, ◌+◌, ◌<◌, Bool, true, false, ◌==◌, cond, Some, List, length, get_or, drop, find, refl, ap, sym, ◌∙◌, eq-eqb}
use Rattle.std.specs.Prelude.{option_map}
use Rattle.std.specs.List.{zip}
use Rattle.std.proofs.lemmas.Bool.{ne_eqb, and_right}
use Rattle.run_rules.specs.declared.world.Dev.{Dev}
use Rattle.dev_tree.specs.Tree.{has_name}
use Rattle.dev_tree.proofs.Pairs.{zip_more}

abbrev Goes : List Dev → List ℕ → ℕ → ℕ → ℕ → Type 0
Goes live drivers device unit i = find (has_name device unit) (drop i (zip live drivers)) ≡ find (has_name device unit) (zip live drivers)

next_is : (live : List Dev) (drivers : List ℕ) (device unit i : ℕ) (d : Dev) (b : Bool) → i < length live → length drivers ≡ length live → Goes live drivers device unit i
    → has_name device unit (get_or live i d, get_or drivers i 0) ≡ b
    → find (has_name device unit) (zip live drivers) ≡ cond b (Some (get_or live i d, get_or drivers i 0)) (find (has_name device unit) (drop (i + 1) (zip live drivers)))
next_is live drivers device unit i d b lt long goes e =
    sym goes ∙ ap (find (has_name device unit)) (zip_more live drivers i d 0 lt long)
    ∙ ap (λ c. cond c (Some (get_or live i d, get_or drivers i 0)) (find (has_name device unit) (drop (i + 1) (zip live drivers)))) e

pub named_here : (live : List Dev) (drivers : List ℕ) (device unit i : ℕ) (d : Dev) → i < length live → length drivers ≡ length live → Goes live drivers device unit i
    → get_or drivers i 0 ≡ device → (get_or live i d).unit ≡ unit
    → option_map (λ p. p.0.serial) (find (has_name device unit) (zip live drivers)) ≡ Some (get_or live i d).serial
named_here live drivers device unit i d lt long goes e f =
    ap (option_map (λ p. p.0.serial))
    (next_is live drivers device unit i d true lt long goes (rw (eq-eqb (get_or drivers i 0) device e) (rw (eq-eqb (get_or live i d).unit unit f) refl)))

pub other_driver : (live : List Dev) (drivers : List ℕ) (device unit i : ℕ) (d : Dev) → i < length live → length drivers ≡ length live → Goes live drivers device unit i
    → get_or drivers i 0 ≢ device → Goes live drivers device unit (i + 1)
other_driver live drivers device unit i d lt long goes ne =
    sym (next_is live drivers device unit i d false lt long goes (rw (ne_eqb (get_or drivers i 0) device ne) refl))

pub other_unit : (live : List Dev) (drivers : List ℕ) (device unit i : ℕ) (d : Dev) → i < length live → length drivers ≡ length live → Goes live drivers device unit i
    → (get_or live i d).unit ≢ unit → Goes live drivers device unit (i + 1)
other_unit live drivers device unit i d lt long goes ne =
    sym (next_is live drivers device unit i d false lt long goes (and_right (get_or drivers i 0 == device) ((get_or live i d).unit == unit) (ne_eqb (get_or live i d).unit unit ne)))
