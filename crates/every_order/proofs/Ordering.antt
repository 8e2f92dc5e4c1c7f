-- The order by which a world of a list was met.
use Rattle.std.proofs.Common.{◌≡◌, ◌⊎◌, inl, inr, ◌<◌, ◌+◌, ℕ, List, [], ◌∷◌, length, sym, ap, subst, arith}
use Rattle.run_rules.specs.declared.world.Setup.{Setup}
use Rattle.plain_world.specs.Plain.{world_of}
use Rattle.every_order.specs.declared.known.Met.{Met}
use Rattle.every_order.specs.Noted.{AreBack, IsOrderTo}
use Rattle.every_order.specs.Reach.{IsTurn, Leads}
use Rattle.every_order.specs.Search.{AreMet, CameFrom, IsAt, IsFirst}
use Rattle.every_order.proofs.Places.{at_one, at_some}

-- an order leads from the world at a place to the one at another place, and it is as long as that is further
pub record IsOrderFrom (s : Setup) (met : List Met) (place at : ℕ) (ks : List ℕ) : Type 0 where
  pub leads : (x m : Met) → IsAt met at x → IsAt met place m → Leads (world_of s x.plain) ks (world_of s m.plain)
  pub long : (x m : Met) → IsAt met at x → IsAt met place m → length ks + x.depth ≡ m.depth

-- the same, where the list is that of a search
pub record IsPartOrder (met : List Met) (place at : ℕ) (ks : List ℕ) : Type 0 where
  pub within : at < length met
  pub so : (s : Setup) → AreMet s met → IsOrderFrom s met place at ks

pub order_none : (met : List Met) (place : ℕ) (ks : List ℕ) → place < length met → ks ≡ [] → IsPartOrder met place place ks
order_none met place ks lt none = record {
  within = lt;
  so = λ s all. subst (IsOrderFrom s met place place) (sym none) (record {
    leads = λ x m a b. ap (λ (y : Met). world_of s y.plain) (at_one met place x m a b);
    long = λ x m a b. omega (arith, ap (λ (y : Met). y.depth) (at_one met place x m a b));
  });
}

not_first : (s : Setup) (met : List Met) (at : ℕ) (one : Met) → 0 < at → IsFirst at one ⊎ CameFrom s met at one → CameFrom s met at one
not_first s met at one some (inl first) = absurd (omega (arith, some, first.0))
not_first s met at one some (inr from) = from

pub came_from : (s : Setup) (met : List Met) (at : ℕ) (one : Met) → AreMet s met → 0 < at → IsAt met at one → CameFrom s met at one
came_from s met at one all some here = not_first s met at one some (all.each at one here).came

order_from : (s : Setup) (met : List Met) (place at : ℕ) (one : Met) (ks : List ℕ) → AreMet s met → 0 < at → IsAt met at one → IsOrderFrom s met place at ks → IsOrderFrom s met place one.from (one.caller ∷ ks)
order_from s met place at one ks all some here so = record {
  leads = λ x m a b.
      (world_of s one.plain, subst (λ (y : Met). IsTurn (world_of s y.plain) one.caller (world_of s one.plain)) (at_one met one.from from.whence x from.at a) from.turn, so.leads one m here b);
  long = λ x m a b. omega (arith, so.long one m here b, from.deeper, ap (λ (y : Met). y.depth) (at_one met one.from from.whence x from.at a));
}
  where
    from : CameFrom s met at one
    from = came_from s met at one all some here

pub order_more : (met : List Met) (place at : ℕ) (one : Met) (ks new : List ℕ) → AreBack met → 0 < at → IsAt met at one → new ≡ one.caller ∷ ks → IsPartOrder met place at ks → IsPartOrder met place one.from new
order_more met place at one ks new back some here is so = record {
  within = omega (arith, back at one here some, here.0);
  so = λ s all. subst (IsOrderFrom s met place one.from) (sym is) (order_from s met place at one ks all some here (so.so s all));
}

-- the first world is at no turn
pub first_near : (s : Setup) (met : List Met) (m : Met) → AreMet s met → IsAt met 0 m → m.depth ≡ 0
first_near s met m all at = by (all.each 0 m at).came
  where
    by : IsFirst 0 m ⊎ CameFrom s met 0 m → m.depth ≡ 0
    by (inl first) = first.1
    by (inr from) = let before = from.before in absurd (omega (arith, before))

pub order_whole : (met : List Met) (place at : ℕ) (ks : List ℕ) → place < length met → at ≡ 0 → IsPartOrder met place at ks → (s : Setup) → AreMet s met → IsOrderTo s met place ks
order_whole met place at ks lt zero_place so s all =
    let begun : IsOrderFrom s met place 0 ks = subst (λ (i : ℕ). IsOrderFrom s met place i ks) zero_place (so.so s all) in
    record {
      leads = λ first m a b. begun.leads first m a b;
      long = λ m b.
          let first = at_some met 0 (omega (arith, lt)) in
          omega (arith, begun.long first.0 m first.1 b, first_near s met first.0 all first.1);
    }

-- what came by a turn came from an earlier one
pub are_back : (s : Setup) (met : List Met) → AreMet s met → AreBack met
are_back s met all j m at some = (came_from s met j m all some at).before
