-- The texts of the worlds of a kind that orders lead to, each once, with a shortest order that leads there.
use Rattle.std.specs.Prelude.{◌≡◌, ◌≤◌, ℕ, All, List, length, map}
use Rattle.std.specs.Cmp.Lexicographic.{slice_cmp}
use Rattle.std.specs.List.{Contains}
use Rattle.std.specs.List.Sorted.{IsStrictlySortedBy}
use Rattle.std.specs.Ordering.{nat_cmp}
use Rattle.run_rules.specs.World.{World}
use Rattle.every_order.specs.declared.ways.Way.{Way}
use Rattle.every_order.specs.Reach.{Leads}

-- an order leads from w to a world of this kind with this text
pub record LeadsTo (w : World) (Kind : World → Type 0) (text_of : World → List ℕ) (text order : List ℕ) : Type 0 where
  pub world : World
  pub leads : Leads w order world
  pub kind : Kind world
  pub same : text_of world ≡ text

-- and no shorter one does
pub record IsShortest (w : World) (Kind : World → Type 0) (text_of : World → List ℕ) (text order : List ℕ) : Type 0 where
  pub way : LeadsTo w Kind text_of text order
  pub least : (ks : List ℕ) → LeadsTo w Kind text_of text ks → length order ≤ length ks

abbrev pub texts_of : List Way → List (List ℕ)
texts_of ways = map (λ way. way.text.items) ways

-- the ways are to the worlds of this kind: each order is a shortest one, each world that an order leads to has its text among
-- them, and the texts stand in order, none twice
pub record AreWays (w : World) (Kind : World → Type 0) (text_of : World → List ℕ) (ways : List Way) : Type 0 where
  pub real : All (λ way. IsShortest w Kind text_of way.text.items way.order.items) ways
  pub every : (ks : List ℕ) (v : World) → Leads w ks v → Kind v → Contains (texts_of ways) (text_of v)
  pub in_order : IsStrictlySortedBy (slice_cmp nat_cmp) (texts_of ways)
