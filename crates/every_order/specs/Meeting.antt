-- What becomes of the worlds that were met where a turn leaves one.
use Rattle.std.specs.Prelude.{◌≡◌, ◌⊎◌, ℕ, [], ◌∷◌, ◌++◌, length, Some, nat_eq}
use Rattle.std.specs.HashMap.{Updates, get}
use Rattle.plain_world.specs.declared.world.Plain.{Plain}
use Rattle.every_order.specs.declared.known.Known.{Known}
use Rattle.every_order.specs.declared.known.Met.{Met}
use Rattle.every_order.specs.Search.{IsNew, IsPrinted, IsThere}

-- one stands at the end, as the last one with its print
pub record IsAdded (old : Known) (one : Met) (new : Known) : Type 0 where
  pub met : new.met.items ≡ old.met.items ++ one ∷ []
  pub heads : Updates nat_eq old.heads new.heads one.print (Some (length old.met.items))

-- it is of this plain world, and of this turn
pub record IsOfTurn (plain : Plain) (from caller depth : ℕ) (one : Met) : Type 0 where
  pub world : one.plain ≡ plain
  pub from_is : one.from ≡ from
  pub caller_is : one.caller ≡ caller
  pub depth_is : one.depth ≡ depth

-- the world is new, and stands at the end
pub record MeetsNew (old : Known) (plain : Plain) (from caller depth : ℕ) (new : Known) : Type 0 where
  pub one : Met
  pub of_turn : IsOfTurn plain from caller depth one
  pub printed : IsPrinted one
  pub earlier : one.earlier ≡ get nat_eq old.heads one.print
  pub fresh : IsNew old.met.items plain
  pub added : IsAdded old one new

-- or it was met before
pub record MeetsOld (old : Known) (plain : Plain) (new : Known) : Type 0 where
  pub place : ℕ
  pub there : IsThere old.met.items plain place
  pub same : new ≡ old

abbrev pub Meets : Known → Plain → ℕ → ℕ → ℕ → Known → Type 0
Meets old plain from caller depth new = MeetsNew old plain from caller depth new ⊎ MeetsOld old plain new
