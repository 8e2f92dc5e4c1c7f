-- What was noted of the first worlds of a list: the texts of those of a kind, each with the order by which the first of them was met.
use Rattle.std.specs.Prelude.{◌≡◌, ◌≢◌, ◌⊎◌, ◌<◌, ◌≤◌, ◌+◌, ◌*◌, ℕ, All, List, ◌∷◌, ◌++◌, Vec, length, map, take}
use Rattle.std.specs.BTreeMap.{BTreeMap}
use Rattle.std.specs.Cmp.Lexicographic.{slice_cmp}
use Rattle.std.specs.Global.{Global}
use Rattle.std.specs.List.{Contains}
use Rattle.std.specs.List.Sorted.{IsStrictlySortedBy}
use Rattle.std.specs.Ordering.{nat_cmp}
use Rattle.progress_laws.specs.Still.{HaveAllEnded, IsStuck}
use Rattle.run_rules.specs.declared.world.Setup.{Setup}
use Rattle.run_rules.specs.Tree.{tree_text}
use Rattle.run_rules.specs.World.{World}
use Rattle.plain_world.specs.Plain.{world_of}
use Rattle.every_order.specs.declared.every.Every.{Every}
use Rattle.every_order.specs.declared.known.Met.{Met}
use Rattle.every_order.specs.declared.ways.Noted.{Noted}
use Rattle.every_order.specs.declared.ways.Way.{Way}
use Rattle.every_order.specs.Kinds.{goers, turns_in, wait_text}
use Rattle.every_order.specs.Reach.{Leads}
use Rattle.every_order.specs.Search.{AreMet, IsAt, worlds_in}
use Rattle.every_order.specs.Ways.{texts_of}

-- texts with their orders
abbrev pub Texts : Type 0
Texts = BTreeMap (Vec ℕ Global) (Vec ℕ Global)

abbrev pub way_of : Vec ℕ Global × Vec ℕ Global → Way
way_of e = record { text = e.0; order = e.1 }

abbrev pub ways_in : Texts → List Way
ways_in texts = map way_of texts.entries

-- all but the first came from an earlier one
abbrev pub AreBack : List Met → Type 0
AreBack met = (j : ℕ) (m : Met) → IsAt met j m → 0 < j → m.from < j

-- the callers of an order from the first world of a list to the one at a place, as many as it is turns away
pub record IsOrderTo (s : Setup) (met : List Met) (place : ℕ) (ks : List ℕ) : Type 0 where
  pub leads : (first m : Met) → IsAt met 0 first → IsAt met place m → Leads (world_of s first.plain) ks (world_of s m.plain)
  pub long : (m : Met) → IsAt met place m → length ks ≡ m.depth

-- one way more, somewhere among the others
pub record HasOneMore (old : List Way) (way : Way) (new : List Way) : Type 0 where
  pub before : List Way
  pub behind : List Way
  pub were : old ≡ before ++ behind
  pub are : new ≡ before ++ way ∷ behind

-- a text is there, and nothing is added
pub record KeepsText (text : List ℕ) (old new : Texts) : Type 0 where
  pub among : Contains (texts_of (ways_in old)) text
  pub same : new ≡ old

-- it is not there, and is added with the order to the world at a place
pub record AddsWay (met : List Met) (place : ℕ) (text : List ℕ) (old new : Texts) : Type 0 where
  pub way : Way
  pub text_is : way.text.items ≡ text
  pub order : (s : Setup) → AreMet s met → IsOrderTo s met place way.order.items
  pub absent : Contains (texts_of (ways_in old)) text → ⊥
  pub more : HasOneMore (ways_in old) way (ways_in new)

abbrev pub AddsText : List Met → ℕ → List ℕ → Texts → Texts → Type 0
AddsText met place text old new = KeepsText text old new ⊎ AddsWay met place text old new

-- the world at a place is not of this kind
pub record IsOther (s : Setup) (met : List Met) (place : ℕ) (Kind : World → Type 0) (old new : Texts) : Type 0 where
  pub other : (m : Met) → IsAt met place m → Kind (world_of s m.plain) → ⊥
  pub same : new ≡ old

-- it is, and its text is among the others from now on
pub record IsAmong (s : Setup) (met : List Met) (place : ℕ) (Kind : World → Type 0) (text_of : World → List ℕ) (old new : Texts) : Type 0 where
  pub one : Met
  pub at : IsAt met place one
  pub kind : Kind (world_of s one.plain)
  pub adds : AddsText met place (text_of (world_of s one.plain)) old new

abbrev pub IsNoted : Setup → List Met → ℕ → (World → Type 0) → (World → List ℕ) → Texts → Texts → Type 0
IsNoted s met place Kind text_of old new = IsOther s met place Kind old new ⊎ IsAmong s met place Kind text_of old new

-- the world at a place was noted
pub record Notes (s : Setup) (met : List Met) (place : ℕ) (old new : Noted) : Type 0 where
  pub turns : (m : Met) → IsAt met place m → new.turns ≡ old.turns + goers (world_of s m.plain)
  pub ends : IsNoted s met place HaveAllEnded tree_text old.ends new.ends
  pub stuck : IsNoted s met place IsStuck wait_text old.stuck new.stuck

-- ---- of all worlds of a list

-- a way to the first world of a kind that has its text
pub record IsFound (s : Setup) (met : List Met) (Kind : World → Type 0) (text_of : World → List ℕ) (way : Way) : Type 0 where
  pub place : ℕ
  pub one : Met
  pub at : IsAt met place one
  pub kind : Kind (world_of s one.plain)
  pub text_is : text_of (world_of s one.plain) ≡ way.text.items
  pub order : IsOrderTo s met place way.order.items
  pub first : (j : ℕ) (m : Met) → j < place → IsAt met j m → Kind (world_of s m.plain) → text_of (world_of s m.plain) ≢ way.text.items

-- the ways to the first n worlds of a list
pub record AreFound (s : Setup) (met : List Met) (n : ℕ) (Kind : World → Type 0) (text_of : World → List ℕ) (ways : List Way) : Type 0 where
  pub real : All (IsFound s met Kind text_of) ways
  pub every : (j : ℕ) (m : Met) → j < n → IsAt met j m → Kind (world_of s m.plain) → Contains (texts_of ways) (text_of (world_of s m.plain))

pub record AreNoted (s : Setup) (met : List Met) (n : ℕ) (noted : Noted) : Type 0 where
  pub turns : noted.turns ≡ turns_in (take n (worlds_in s met))
  pub few : noted.turns ≤ 17 * n
  pub ends : AreFound s met n HaveAllEnded tree_text (ways_in noted.ends)
  pub stuck : AreFound s met n IsStuck wait_text (ways_in noted.stuck)

abbrev pub AreSorted : List Way → Type 0
AreSorted ways = IsStrictlySortedBy (slice_cmp nat_cmp) (texts_of ways)

-- what was found in all of a list
pub record IsFoundIn (s : Setup) (met : List Met) (e : Every) : Type 0 where
  pub worlds : e.worlds ≡ length met
  pub turns : e.turns ≡ turns_in (worlds_in s met)
  pub few : e.turns ≤ 17 * length met
  pub ends : AreFound s met (length met) HaveAllEnded tree_text e.ends.items
  pub ends_sorted : AreSorted e.ends.items
  pub stuck : AreFound s met (length met) IsStuck wait_text e.stuck.items
  pub stuck_sorted : AreSorted e.stuck.items
