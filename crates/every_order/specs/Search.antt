-- What a search has met, and what it has when it is done.
use Rattle.std.specs.Prelude.{◌≡◌, ◌≢◌, ◌⊎◌, ◌<◌, ◌≤◌, ◌+◌, ◌^◌, ℕ, List, [], ◌∷◌, length, map, Option, Some, None, nat_eq}
use Rattle.std.specs.HashMap.{get}
use Rattle.std.specs.List.{slice_index_or}
use Rattle.run_rules.specs.declared.deed.Choice.TheVariants.{Does}
use Rattle.run_rules.specs.declared.deed.Deed.{Deed}
use Rattle.run_rules.specs.declared.world.Setup.{Setup}
use Rattle.run_rules.specs.Next.{next}
use Rattle.run_rules.specs.World.{World}
use Rattle.run_sound.specs.Kept.{Kept}
use Rattle.plain_search.specs.Open as counted
use Rattle.plain_search.specs.declared.seeker.Seeker.{Seeker}
use Rattle.plain_world.specs.declared.world.Plain.{Plain}
use Rattle.plain_world.specs.Plain.{world_of}
use Rattle.every_order.specs.declared.known.Known.{Known}
use Rattle.every_order.specs.declared.known.Met.{Met}
use Rattle.every_order.specs.Every.{HasMore}
use Rattle.every_same.specs.Print.{print_of}
use Rattle.every_order.specs.Reach.{IsBooted, IsTurn, Leads}

-- it stands at a place of the list
abbrev pub IsAt : List Met → ℕ → Met → Type 0
IsAt met j m = (j < length met) × (slice_index_or met j m ≡ m)

-- ---- found by its print

-- of the first n the last one with a print, if there is one
abbrev pub IsLatest : List Met → ℕ → ℕ → Option ℕ → Type 0
IsLatest met n p None = (j : ℕ) (m : Met) → j < n → IsAt met j m → m.print ≢ p
IsLatest met n p (Some e) =
    (e < n) × ((m : Met) → IsAt met e m → m.print ≡ p) × ((j : ℕ) (m : Met) → e < j → j < n → IsAt met j m → m.print ≢ p)

abbrev pub IsPrinted : Met → Type 0
IsPrinted m = (s : Setup) → print_of (world_of s m.plain) ≡ m.print

-- each print leads to the last world that has it, and each world to the last one before it with the same print
pub record IsIndexed (known : Known) : Type 0 where
  pub printed : (j : ℕ) (m : Met) → IsAt known.met.items j m → IsPrinted m
  pub earlier : (j : ℕ) (m : Met) → IsAt known.met.items j m → IsLatest known.met.items j m.print m.earlier
  pub heads : (p : ℕ) → IsLatest known.met.items (length known.met.items) p (get nat_eq known.heads p)

-- the world at a place is this one
abbrev pub IsThere : List Met → Plain → ℕ → Type 0
IsThere met p place = (m : Met) × IsAt met place m × ((s : Setup) → world_of s m.plain ≡ world_of s p)

-- none is
abbrev pub IsNew : List Met → Plain → Type 0
IsNew met p = (s : Setup) (j : ℕ) (m : Met) → IsAt met j m → world_of s m.plain ≢ world_of s p

-- ---- met by turns

-- the list has a world, at so many turns at most
pub record HasWithin (s : Setup) (met : List Met) (v : World) (depth : ℕ) : Type 0 where
  pub place : ℕ
  pub one : Met
  pub at : IsAt met place one
  pub same : world_of s one.plain ≡ v
  pub near : one.depth ≤ depth

-- it came by a turn from an earlier one
pub record CameFrom (s : Setup) (met : List Met) (j : ℕ) (m : Met) : Type 0 where
  pub before : m.from < j
  pub whence : Met
  pub at : IsAt met m.from whence
  pub turn : IsTurn (world_of s whence.plain) m.caller (world_of s m.plain)
  pub deeper : m.depth ≡ whence.depth + 1

abbrev pub IsFirst : ℕ → Met → Type 0
IsFirst j m = (j ≡ 0) × (m.depth ≡ 0)

-- what is known of the world at a place: it is the first, or came from an earlier one; it is kept; few serials were given
pub record IsMet (s : Setup) (met : List Met) (j : ℕ) (m : Met) : Type 0 where
  pub came : IsFirst j m ⊎ CameFrom s met j m
  pub kept : Kept (world_of s m.plain)
  pub low : m.plain.live.next ≤ 2 ^ 63 + j
  pub shallow : m.depth ≤ j

-- no world stands twice, and nobody is nearer than one before it
pub record AreMet (s : Setup) (met : List Met) : Type 0 where
  pub each : (j : ℕ) (m : Met) → IsAt met j m → IsMet s met j m
  pub apart : (i j : ℕ) (a b : Met) → IsAt met i a → IsAt met j b → world_of s a.plain ≡ world_of s b.plain → i ≡ j
  pub rising : (i j : ℕ) (a b : Met) → i ≤ j → IsAt met i a → IsAt met j b → a.depth ≤ b.depth

-- all are at most one turn behind the one at a place
abbrev pub IsFrontier : List Met → ℕ → Type 0
IsFrontier met at = (j : ℕ) (a b : Met) → IsAt met at a → IsAt met j b → b.depth ≤ a.depth + 1

pub record IsKnown (s : Setup) (known : Known) (at : ℕ) : Type 0 where
  pub met : AreMet s known.met.items
  pub indexed : IsIndexed known
  pub frontier : IsFrontier known.met.items at

-- what the turn of caller k from a world leaves is in the list, a turn behind it
abbrev pub IsFollowed : Setup → List Met → Met → ℕ → Type 0
IsFollowed s met m k = (u : World) → IsTurn (world_of s m.plain) k u → HasWithin s met u (m.depth + 1)

-- so it is for all callers at the first i places
abbrev pub AreFollowed : Setup → List Met → ℕ → Type 0
AreFollowed s met i = (j : ℕ) (m : Met) → j < i → IsAt met j m → (k : ℕ) → IsFollowed s met m k

-- what stood in a list stands in another, and at most n more do
pub record GoesFurther (s : Setup) (old : Known) (at n : ℕ) (new : Known) : Type 0 where
  pub known : IsKnown s new at
  pub stays : (j : ℕ) (m : Met) → IsAt old.met.items j m → IsAt new.met.items j m
  pub few : length new.met.items ≤ length old.met.items + n

-- a turn of caller k was followed from a place
pub record Follows (s : Setup) (old : Known) (at k : ℕ) (new : Known) : Type 0 where
  pub further : GoesFurther s old at 1 new
  pub followed : (m : Met) → IsAt new.met.items at m → IsFollowed s new.met.items m k

-- and a turn of each caller
pub record FollowsAll (s : Setup) (old : Known) (at : ℕ) (new : Known) : Type 0 where
  pub further : GoesFurther s old at 256 new
  pub followed : (m : Met) → IsAt new.met.items at m → (k : ℕ) → IsFollowed s new.met.items m k

-- a seeker has counted the devices of the world at a place
abbrev pub FollowsAt : Seeker → List Met → ℕ → Type 0
FollowsAt k met at = (m : Met) → IsAt met at m → counted.Follows k m.plain.live.devices

-- what the turn of a caller leaves, or none where it can't go on
abbrev pub IsLeft : Setup → Plain → ℕ → Option Plain → Type 0
IsLeft s p k None = (d : Deed) → next (world_of s p) k ≢ Does d
IsLeft s p k (Some q) = IsTurn (world_of s p) k (world_of s q)

-- ---- done

abbrev pub worlds_in : Setup → List Met → List World
worlds_in s met = map (λ m. world_of s m.plain) met

-- the list begins with w and has all that orders lead to, each world no later than the length of the order
pub record IsWhole (s : Setup) (w : World) (met : List Met) : Type 0 where
  pub kept : AreMet s met
  pub first : HasWithin s met w 0
  pub first_place : first.place ≡ 0
  pub whole : (ks : List ℕ) (v : World) → Leads w ks v → HasWithin s met v (length ks)

abbrev pub IsWholeOrMore : Setup → World → ℕ → Option (List Met) → Type 0
IsWholeOrMore s w most (Some met) = IsWhole s w met × (length met ≤ most)
IsWholeOrMore s w most None = HasMore w most

-- ---- the beginning

-- one world was met
pub record IsBeginning (start : Plain) (known : Known) : Type 0 where
  pub one : Met
  pub met : known.met.items ≡ one ∷ []
  pub world : one.plain ≡ start
  pub depth : one.depth ≡ 0
  pub indexed : IsIndexed known

-- the plain world in which the boot ends; few serials were given
pub record HasBooted (s : Setup) (p : Plain) : Type 0 where
  pub booted : IsBooted s (world_of s p)
  pub kept : Kept (world_of s p)
  pub low : p.live.next ≤ 2 ^ 63
