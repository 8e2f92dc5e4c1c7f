-- A device is doomed where its row is in the group or its parent is doomed.
use Rattle.std.proofs.Common.{◌≡◌, ◌<◌, ◌≤◌, ℕ, zero, suc, Bool, false, ◌||◌, ◌==◌, List, [], ◌∷◌, Option, Some, None, refl, sym, ap, ◌∙◌, arith, eq-eqb}
use Rattle.std.specs.List.{AllByRecursion, Contains, list_any}
use Rattle.std.specs.Option.{option_map_or}
use Rattle.std.proofs.lemmas.Bool.{ne_eqb, eqb-true}
use Rattle.run_rules.specs.declared.world.Setup.{Setup}
use Rattle.run_rules.specs.declared.world.Dev.{Dev}
use Rattle.run_rules.specs.World.{device_at, lineage, parent_of}
use Rattle.run_rules.specs.Sound.{EachLater, IsApart, IsPlaced, HasSoundDevices}
use Rattle.run_rules.proofs.Devices.{all_both, all_imp}
use Rattle.run_rules.proofs.Free.{find_true}
use Rattle.run_sound.proofs.Members.{found_of, of_each}
use Rattle.live_rules.specs.Live.{LiveSite, is_doomed, is_in, is_member}

-- ---- a device by its serial

each_found : (s : Setup) (live : List Dev) → EachLater (IsApart s) live → AllByRecursion (λ (d : Dev). device_at live d.serial ≡ Some d) live
each_found s [] h = tt
each_found s (d ∷ ds) h = (
  rw (eq-eqb d.serial d.serial refl) refl,
  all_both (IsApart s d) (λ (e : Dev). device_at ds e.serial ≡ Some e) (λ (e : Dev). device_at (d ∷ ds) e.serial ≡ Some e)
      (λ e a k. rw (ne_eqb d.serial e.serial (λ same. let later : d.serial < e.serial = a.later in absurd (omega (arith, later, same)))) k) ds h.0 (each_found s ds h.1),
)

pub found_itself : (s : Setup) (live : List Dev) (next : ℕ) (d : Dev) → HasSoundDevices s live next → Contains live d → device_at live d.serial ≡ Some d
found_itself s live next d h here = of_each (λ (e : Dev). device_at live e.serial ≡ Some e) live d (each_found s live h.apart) here

-- ---- chains

pub after_parents : (s : Setup) (live : List Dev) (next : ℕ) → HasSoundDevices s live next → AllByRecursion (λ (d : Dev). d.parent < d.serial) live
after_parents s live next h = all_imp (IsPlaced live next) (λ (d : Dev). d.parent < d.serial) (λ d p. p.after_parent) live h.placed

pub parent_less : (live : List Dev) (s : ℕ) → AllByRecursion (λ (d : Dev). d.parent < d.serial) live → 0 < s → parent_of live s < s
parent_less live s h low = cases (device_at live s) refl
  where
    cases : (o : Option Dev) → device_at live s ≡ o → option_map_or (λ (d : Dev). d.parent) o 0 < s
    cases None e = low
    cases (Some d) e =
        let less : d.parent < d.serial = found_of (λ (d : Dev). d.parent < d.serial) (λ (x : Dev). x.serial == s) live d h e in
        omega (arith, less, eqb-true d.serial s (find_true (λ (x : Dev). x.serial == s) live d e))

pub no_root : (live : List Dev) → AllByRecursion (λ (d : Dev). d.parent < d.serial) live → device_at live 0 ≡ None
no_root [] h = refl
no_root (d ∷ ds) h = rw (ne_eqb d.serial 0 (λ e. let low = h.0 in absurd (omega (arith, low, e)))) (no_root ds h.1)

root_chain : (live : List Dev) (m : ℕ → Bool) → AllByRecursion (λ (d : Dev). d.parent < d.serial) live → m 0 ≡ false → (k : ℕ) → list_any m (lineage k live 0) ≡ false
unfolding lineage
root_chain live m h out zero = refl
root_chain live m h out (suc k) = rw (out, no_root live h) (root_chain live m h out k)

chain_step : (live : List Dev) (m : ℕ → Bool) (k s : ℕ) → list_any m (lineage (suc k) live s) ≡ (m s || list_any m (lineage k live (parent_of live s)))
unfolding lineage
chain_step live m k s = refl

-- so many steps serve
any_chain : (live : List Dev) (m : ℕ → Bool) → AllByRecursion (λ (d : Dev). d.parent < d.serial) live → m 0 ≡ false → (k j s : ℕ) → s ≤ k → s ≤ j → list_any m (lineage k live s) ≡ list_any m (lineage j live s)
any_chain live m h out k j zero a b = root_chain live m h out k ∙ sym (root_chain live m h out j)
any_chain live m h out zero j (suc s) a b = absurd (omega arith)
any_chain live m h out (suc k) zero (suc s) a b = absurd (omega arith)
any_chain live m h out (suc k) (suc j) (suc s) a b =
    let less : parent_of live (suc s) < suc s = parent_less live (suc s) h (omega arith) in
    step k ∙ ap (λ (c : Bool). m (suc s) || c) (any_chain live m h out k j (parent_of live (suc s)) (omega (arith, less, a)) (omega (arith, less, b))) ∙ sym (step j)
  where
    step : (i : ℕ) → list_any m (lineage (suc i) live (suc s)) ≡ (m (suc s) || list_any m (lineage i live (parent_of live (suc s))))
    step i = chain_step live m i (suc s)

member_root : (t : LiveSite) (live : List Dev) (g : ℕ) → AllByRecursion (λ (d : Dev). d.parent < d.serial) live → is_member t live g 0 ≡ false
member_root t live g h = rw (no_root live h) refl

pub doomed_root : (t : LiveSite) (live : List Dev) (g : ℕ) → is_doomed t live g 0 ≡ false
unfolding is_doomed lineage
doomed_root t live g = refl

pub doomed_step : (t : LiveSite) (live : List Dev) (g s : ℕ) → AllByRecursion (λ (d : Dev). d.parent < d.serial) live → 0 < s
    → is_doomed t live g s ≡ (is_member t live g s || is_doomed t live g (parent_of live s))
unfolding is_doomed
doomed_step t live g zero h low = absurd (omega arith)
doomed_step t live g (suc s) h low =
    let less : parent_of live (suc s) < suc s = parent_less live (suc s) h (omega arith) in
    first ∙ ap (λ (c : Bool). is_member t live g (suc s) || c) (any_chain live (is_member t live g) h (member_root t live g h) s (parent_of live (suc s)) (parent_of live (suc s)) (omega (arith, less)) (omega arith))
  where
    first : list_any (is_member t live g) (lineage (suc s) live (suc s)) ≡ (is_member t live g (suc s) || list_any (is_member t live g) (lineage s live (parent_of live (suc s))))
    first = chain_step live (is_member t live g) s (suc s)

pub doomed_device : (t : LiveSite) (live : List Dev) (next g : ℕ) (d : Dev) → HasSoundDevices t.setup live next → Contains live d
    → is_doomed t live g d.serial ≡ (is_in t g d.row || is_doomed t live g d.parent)
doomed_device t live next g d h here =
    let after = after_parents t.setup live next h in
    let less : d.parent < d.serial = of_each (λ (e : Dev). e.parent < e.serial) live d after here in
    let found : device_at live d.serial ≡ Some d = found_itself t.setup live next d h here in
    doomed_step t live g d.serial after (omega (arith, less))
    ∙ ap (λ (o : Option Dev). option_map_or (λ (e : Dev). is_in t g e.row) o false || is_doomed t live g (option_map_or (λ (e : Dev). e.parent) o 0)) found
