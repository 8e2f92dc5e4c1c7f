-- The groups of drivers, group by group.
use Rattle.std.proofs.Common.{◌≡◌, ◌<◌, ◌+◌, ℕ, zero, suc, Bool, true, false, cond, List, [], ◌∷◌, length, find, get_or, slice_get, Option, Some, None, refl, sym, ap, ◌∙◌, add-one, arith}
use Rattle.std.specs.Option.{option_map_or, option_or}
use Rattle.std.proofs.lemmas.List.Folds.{find-append}
use Rattle.cf_types.specs.Numbers.{below}
use Rattle.run_rules.specs.World.{has}
use Rattle.live_rules.specs.declared.plan.Group.{Group}
use Rattle.live_rules.specs.Live.{has_device}
use Rattle.live_tables.specs.Joining.{first_number, joined_by}

-- the group of a driver among the first so many
abbrev pub group_among : List Group → ℕ → ℕ → Option ℕ
group_among groups n d = find (has_device groups d) (below n)

got : {A : Type 0} (xs : List A) (i : ℕ) (x : A) → i < length xs → slice_get xs i ≡ Some (get_or xs i x)
got [] i x lt = absurd (omega (arith, lt))
got (y ∷ ys) zero x lt = refl
got (y ∷ ys) (suc i) x lt = got ys i x (omega (arith, lt))

either : (b : Bool) (was : Option ℕ) (n : ℕ) → option_or was (cond b (Some n) None) ≡ cond b (first_number was n) was
either true None n = refl
either true (Some m) n = refl
either false None n = refl
either false (Some m) n = refl

pub one_group_more : (groups : List Group) (n d : ℕ) (g : Group) → n < length groups → joined_by (get_or groups n g).devices n d (group_among groups n d) ≡ group_among groups (n + 1) d
one_group_more groups n d g lt =
    sym (either (has (get_or groups n g).devices d) (group_among groups n d) n)
    ∙ ap (λ (o : Option Group). option_or (group_among groups n d) (cond (option_map_or (λ group. has group.devices d) o false) (Some n) None)) (sym (got groups n g lt))
    ∙ rw add-one (sym (find-append (has_device groups d) (below n) (n ∷ [])))
