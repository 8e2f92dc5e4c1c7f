-- The device on a spot, with one device more, with one less, and with other marks.
use Rattle.std.proofs.Common.{◌≡◌, ◌≢◌, ℕ, zero, suc, ◌<◌, Bool, true, false, ◌||◌, ◌==◌, cond, Some, None, List, [], ◌∷◌, ◌++◌, length, get_or, refl, ap, sym, ◌∙◌, arith}
use Rattle.std.specs.Prelude.{remove}
use Rattle.std.specs.List.{AllByRecursion}
use Rattle.std.proofs.lemmas.Bool.{eqb-true, eqb-false, ne_eqb}
use Rattle.run_rules.specs.declared.world.Dev.{Dev}
use Rattle.run_rules.specs.Search.{is_occupied}
use Rattle.run_rules.specs.Sound.{EachLater}
use Rattle.run_rules.specs.World.{device_on, serial_of}
use Rattle.dev_tree.proofs.Alike.{Alike, SamePlain}
use Rattle.run_rules.proofs.Order.{all_at}

pub on_alike : (xs ys : List Dev) (x : ℕ) → Alike SamePlain xs ys → serial_of (device_on xs x) ≡ serial_of (device_on ys x)
on_alike [] [] x h = refl
on_alike (d ∷ ds) (e ∷ es) x h =
    cases (d.spot == x) (e.spot == x) (ap (λ (n : ℕ). n == x) (ap (λ (k : Dev). k.spot) h.0)) (ap (λ (k : Dev). k.serial) h.0) (on_alike ds es x h.1)
  where
    cases : (b c : Bool) → b ≡ c → d.serial ≡ e.serial → serial_of (device_on ds x) ≡ serial_of (device_on es x)
        → serial_of (cond b (Some d) (device_on ds x)) ≡ serial_of (cond c (Some e) (device_on es x))
    cases true true same serial more = ap Some serial
    cases false false same serial more = more
    cases true false same serial more = absurd cc
    cases false true same serial more = absurd cc
on_alike [] (e ∷ es) x h = absurd h
on_alike (d ∷ ds) [] x h = absurd h

either_false : (a b : Bool) → (a || b) ≡ false → (a ≡ false) × (b ≡ false)
either_false true b h = absurd cc
either_false false b h = (refl, h)

-- where one stands on x and the other place is another one, that place is not x
other_spot : (m n x : ℕ) → (m == n) ≡ false → (m == x) ≡ true → (n == x) ≡ false
other_spot m n x ne is = ne_eqb n x (λ e. eqb-false m n ne (eqb-true m x is ∙ sym e))

pub on_with : (live : List Dev) (e : Dev) (x : ℕ) → is_occupied live e.spot ≡ false
    → serial_of (device_on (live ++ e ∷ []) x) ≡ cond (e.spot == x) (Some e.serial) (serial_of (device_on live x))
on_with [] e x free = cases (e.spot == x)
  where
    cases : (b : Bool) → serial_of (cond b (Some e) None) ≡ cond b (Some e.serial) None
    cases true = refl
    cases false = refl
on_with (d ∷ ds) e x free =
    let parts = either_false (d.spot == e.spot) (is_occupied ds e.spot) free in
    cases (d.spot == x) (e.spot == x) (λ is. other_spot d.spot e.spot x parts.0 is) (on_with ds e x parts.1)
  where
    cases : (b c : Bool) → (b ≡ true → c ≡ false) → serial_of (device_on (ds ++ e ∷ []) x) ≡ cond c (Some e.serial) (serial_of (device_on ds x))
        → serial_of (cond b (Some d) (device_on (ds ++ e ∷ []) x)) ≡ cond c (Some e.serial) (serial_of (cond b (Some d) (device_on ds x)))
    cases true c other more = let apart : c ≡ false = other refl in rw apart refl
    cases false c other more = more

-- no device of those stands there
none_on : (n x : ℕ) (ds : List Dev) → (n == x) ≡ true → AllByRecursion (λ e. n ≢ e.spot) ds → device_on ds x ≡ None
none_on n x [] is h = refl
none_on n x (d ∷ ds) is h =
    let ne : (d.spot == x) ≡ false = ne_eqb d.spot x (λ e. h.0 (eqb-true n x is ∙ sym e)) in
    rw ne (none_on n x ds is h.1)

pub on_removed : (live : List Dev) (i x : ℕ) (u : Dev) → EachLater (λ d e. d.spot ≢ e.spot) live → i < length live
    → serial_of (device_on (remove live i) x) ≡ cond ((get_or live i u).spot == x) None (serial_of (device_on live x))
on_removed [] i x u h lt = absurd (omega arith)
on_removed (d ∷ ds) zero x u h lt = cases (d.spot == x) refl
  where
    cases : (b : Bool) → (d.spot == x) ≡ b → serial_of (device_on ds x) ≡ cond b None (serial_of (cond b (Some d) (device_on ds x)))
    cases true is = ap serial_of (none_on d.spot x ds is h.0)
    cases false is = refl
on_removed (d ∷ ds) (suc i) x u h lt =
    let ne : d.spot ≢ (get_or ds i u).spot = all_at (λ e. d.spot ≢ e.spot) ds i u h.0 (omega arith) in
    cases (d.spot == x) ((get_or ds i u).spot == x) (λ is. other_spot d.spot (get_or ds i u).spot x (ne_eqb d.spot (get_or ds i u).spot ne) is) (on_removed ds i x u h.1 (omega arith))
  where
    cases : (b c : Bool) → (b ≡ true → c ≡ false) → serial_of (device_on (remove ds i) x) ≡ cond c None (serial_of (device_on ds x))
        → serial_of (cond b (Some d) (device_on (remove ds i) x)) ≡ cond c None (serial_of (cond b (Some d) (device_on ds x)))
    cases true c other more = let apart : c ≡ false = other refl in rw apart refl
    cases false c other more = more
