-- What a deed changes of its caller's references, and what it frees.
use Rattle.std.specs.Prelude.{◌≡◌, ℕ, ◌+◌, true, false, ◌||◌, ◌==◌, nat_lt, if◌then◌else◌, Option, Some, None}
use Rattle.run_rules.specs.References.{count_in}
use Rattle.run_rules.specs.World.{World, is_held, is_live}
use Rattle.run_rules.specs.declared.deed.Deed.{Deed}
use Rattle.run_rules.specs.declared.deed.Deed.TheVariants.{Drop, Open, Close}
use Rattle.run_rules.specs.After.{after, freed}

-- the device of the reference that a deed gives to its caller, and of the one that it takes back
abbrev pub opened_by : Deed → Option ℕ
opened_by (Open s sole) = Some s
opened_by _ = None

abbrev pub returned_by : Deed → Option ℕ
returned_by (Close s) = Some s
returned_by (Drop s) = Some s
returned_by _ = None

-- the caller holds the live device s once more, and the others as often as before
pub record HoldsMore (w : World) (k : ℕ) (d : Deed) (s : ℕ) : Type 0 where
  pub live : is_live w.live s ≡ true
  pub count : (x : ℕ) → count_in (after w k d).refs k x ≡ count_in w.refs k x + (if s == x then 1 else 0)
  pub holds : (x : ℕ) → is_held (after w k d) k x ≡ (s == x || is_held w k x)

-- the caller holds the live device s once less, and the others as often as before
pub record HoldsLess (w : World) (k : ℕ) (d : Deed) (s : ℕ) : Type 0 where
  pub live : is_live w.live s ≡ true
  pub held : is_held w k s ≡ true
  pub count : (x : ℕ) → count_in (after w k d).refs k x + (if s == x then 1 else 0) ≡ count_in w.refs k x
  pub holds : (x : ℕ) → is_held (after w k d) k x ≡ (if s == x then nat_lt 1 (count_in w.refs k s) else is_held w k x)

-- the live device s, which nobody holds, and nothing else is gone
pub record GoesUnheld (w : World) (k : ℕ) (d : Deed) (s : ℕ) : Type 0 where
  pub live : is_live w.live s ≡ true
  pub free : (j : ℕ) → is_held w j s ≡ false
  pub gone : (after w k d).live ≡ (freed w s).live
