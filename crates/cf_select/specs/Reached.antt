-- Marks of places, with the places that are marked in the order in which they were marked.
use Rattle.std.specs.Prelude.{◌≡◌, ℕ, ◌<◌, ◌+◌, Bool, true, false, not, ◌||◌, List, length, count_by, take}
use Rattle.std.specs.List.{list_any, slice_index_or}
use Rattle.std.specs.HashMap.{HashMap}
use Rattle.cf_types.specs.Gather.{is_in}
use Rattle.config_rules.specs.Select.{Rooted}
use Rattle.cf_select.specs.Wanted.{waits}
use Rattle.cf_select.specs.declared.want.Want.{Want}

-- the list has each place that is marked, once
pub record AreMarked (marks : List Bool) (order : List ℕ) : Type 0 where
  pub same : (x : ℕ) → is_in x order ≡ slice_index_or marks x false
  pub once : length order + count_by not marks ≡ length marks

-- the places that pass the test were marked too
pub record Marks (marks : List Bool) (order : List ℕ) (marks_new : List Bool) (order_new : List ℕ) (test : ℕ → Bool) : Type 0 where
  pub marked : (x : ℕ) → slice_index_or marks_new x false ≡ (slice_index_or marks x false || test x)
  pub size : length marks_new ≡ length marks
  pub listed : AreMarked marks order → AreMarked marks_new order_new
  pub front : take (length order) order_new ≡ order

-- each place that waits has a mark
abbrev pub AreWithin : {S : Type 0} → HashMap Want (List ℕ) S → List Bool → Type 0
AreWithin waiting marks = (q : Want) (x : ℕ) → waits waiting q x ≡ true → x < length marks

-- of those that are not marked, exactly those that want it wait for it
abbrev pub AreWaiting : {S : Type 0} → (Want → ℕ → Bool) → HashMap Want (List ℕ) S → List Bool → Type 0
AreWaiting wanted waiting marks = (q : Want) (x : ℕ) → slice_index_or marks x false ≡ false → waits waiting q x ≡ wanted q x

-- those that want it are marked, and those that are not marked wait as before
pub record Serves {S : Type 0} (waiting : HashMap Want (List ℕ) S) (marks : List Bool) (order : List ℕ) (waiting_new : HashMap Want (List ℕ) S) (marks_new : List Bool) (order_new : List ℕ) (wants : List Want) : Type 0 where
  pub within : AreWithin waiting_new marks_new
  pub left : (wanted : Want → ℕ → Bool) → AreWaiting wanted waiting marks → AreWaiting wanted waiting_new marks_new
  pub served : (wanted : Want → ℕ → Bool) → AreWaiting wanted waiting marks → Marks marks order marks_new order_new (λ x. list_any (λ q. wanted q x) wants)

-- those that are marked are rooted
pub record AllRooted (at_root : ℕ → Bool) (carries : ℕ → ℕ → Bool) (n : ℕ) (marks : List Bool) : Type 0 where
  pub as_many : length marks ≡ n
  pub sound : (i : ℕ) → i < n → slice_index_or marks i false ≡ true → Rooted at_root carries n i
