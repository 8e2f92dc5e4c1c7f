-- The rule of the leases.
use Rattle.std.specs.Prelude.{◌≡◌, ◌≢◌, ◌⊎◌, ◌%◌, ℕ, zero, suc, ◌+◌, ◌^◌, ◌<◌, ◌≤◌, Bool, true, false, List, [], length, slice_index, slice_index_or, slice_set, replicate}
use mathlib.Core.Option.{some}
use lib.ListN.{get_elem?}
use Rattle.lease_table.specs.declared.view.Claim.{Claim}
use Rattle.lease_table.specs.declared.view.Claim.TheVariants.{Nothing, Trying, Held}
use Rattle.ref_ledger.specs.declared.state.SlotState.{SlotState}
use Rattle.ref_ledger.specs.declared.state.SlotState.TheVariants.{Free, Live, Condemned}
use Rattle.lease_table.specs.declared.view.SlotRecord.{SlotRecord}
use Rattle.lease_table.specs.declared.view.SeatRecord.{SeatRecord}
use Rattle.lease_table.specs.declared.view.View.{View}
use Rattle.lease_table.specs.declared.view.SlotWord.{SlotWord}
use Rattle.lease_table.specs.Words.{blank, is_holder, said}

abbrev pub claim_at : SeatRecord → ℕ → Claim
claim_at c x = slice_index_or c.claims x Nothing

abbrev pub free_slot : SlotRecord
free_slot = record { state = Free; generation = 0 }

abbrev pub slot_at : SeatRecord → ℕ → SlotRecord
slot_at c x = slice_index_or c.slots x free_slot

-- whether the caller's bit is set
abbrev pub has_bit : Claim → Bool
has_bit Nothing = false
has_bit Trying = true
has_bit (Held g) = true

abbrev pub is_live : SlotState → Bool
is_live Free = false
is_live Live = true
is_live Condemned = true

abbrev pub is_condemned : SlotState → Bool
is_condemned Free = false
is_condemned Live = false
is_condemned Condemned = true

-- a word says of its slot what the keeper knows
pub record Says (word : SlotWord) (k : SlotRecord) : Type 0 where
  pub live : word.live ≡ is_live k.state
  pub condemned : word.condemned ≡ is_condemned k.state
  pub generation : word.generation ≡ k.generation

abbrev pub At : List SeatRecord → ℕ → SeatRecord → Type 0
At standings j c = get_elem? standings j ≡ some c

-- what the word of a slot says
abbrev pub word_at : List ℕ → ℕ → SlotWord
word_at words x = said (slice_index words x)

-- the rule, of n slots, the words and what each seat knows; one word more stands behind those of the slots, so that a table without slots has a word too
pub record Ruled (n : ℕ) (words : List ℕ) (standings : List SeatRecord) : Type 0 where
  -- one seat is the keeper's, and it has no number
  pub keeper : ℕ
  pub keeper_standing : SeatRecord
  pub sits : At standings keeper keeper_standing
  pub none : keeper_standing.number ≡ 0
  pub few : keeper_standing.drawn ≤ 16
  pub alone : (j : ℕ) (c : SeatRecord) → At standings j c → c.keeps ≡ true → j ≡ keeper
  -- numbers are among those drawn, and differ
  pub drawn : (j : ℕ) (c : SeatRecord) → At standings j c → c.number ≤ keeper_standing.drawn
  pub apart : (i j : ℕ) (c d : SeatRecord) → At standings i c → At standings j d → 0 < c.number → c.number ≡ d.number
      → i ≡ j
  -- a caller is one of the holders where it tries or holds, and nobody is whose number was not drawn
  pub own : (j : ℕ) (c : SeatRecord) → At standings j c → 0 < c.number → (x : ℕ) → x < n
      → is_holder (word_at words x) c.number ≡ has_bit (claim_at c x)
  pub clear : (k : ℕ) → keeper_standing.drawn < k → k ≤ 16 → (x : ℕ) → x < n → is_holder (word_at words x) k ≡ false
  -- what is held is live, and has that generation
  pub held : (j : ℕ) (c : SeatRecord) → At standings j c → 0 < c.number → (x : ℕ) → x < n → (g : ℕ) → claim_at c x ≡ Held g
      → ((word_at words x).live ≡ true) × ((word_at words x).generation ≡ g)
  -- state and generation are those that the keeper knows
  pub slots : (x : ℕ) → x < n → Says (word_at words x) (slot_at keeper_standing x)
  pub sized : (j : ℕ) (c : SeatRecord) → At standings j c → 0 < c.number → length c.claims ≡ n
  pub wide : length words ≡ n + 1

abbrev pub standing : View → SeatRecord
standing v = v.standing

-- the view to which a word was shown
abbrev pub showing : View → SeatRecord → ℕ → SlotWord → View
showing v c x word = record { standing = c; shown = v.shown + 1; slot = x; word = word }

-- what the caller has after its bit was set, by the word found
abbrev pub gained : Bool → Bool → ℕ → Claim
gained false condemned g = Trying
gained true true g = Trying
gained true false g = Held g

abbrev pub gained_from : SlotWord → Claim
gained_from word = gained word.live word.condemned word.generation

abbrev pub with_claim : SeatRecord → ℕ → Claim → SeatRecord
with_claim c x h = record { keeps = c.keeps; number = c.number; claims = slice_set c.claims x h; slots = c.slots; drawn = c.drawn }

-- a load shows the word; where the caller holds the slot, it says so
pub record Looked (x : ℕ) (v : View) (word : SlotWord) (w : View) : Type 0 where
  pub view : w ≡ showing v v.standing x word
  pub held : (g : ℕ) → claim_at v.standing x ≡ Held g → (word.live ≡ true) × (word.generation ≡ g) × (is_holder word v.standing.number ≡ true)

-- the bit was set, and the word that was found decides
abbrev pub Took : ℕ → View → SlotWord → View → Type 0
Took x v word w = w ≡ showing v (with_claim v.standing x (gained_from word)) x word

-- the view that has nothing of a slot
abbrev pub without : View → ℕ → View
without v x = record { standing = with_claim v.standing x Nothing; shown = v.shown; slot = v.slot; word = v.word }

-- the bit was cleared; no word is shown
abbrev pub Gave : ℕ → View → View → Type 0
Gave x v w = w ≡ without v x

-- the keeper's view of n free slots, after so many numbers were drawn
abbrev pub drawn_view : ℕ → ℕ → View
drawn_view n drawn = record { standing = record { keeps = true; number = 0; claims = []; slots = replicate n free_slot; drawn = drawn }; shown = 0; slot = 0; word = blank }

-- the keeper's first view
abbrev pub keeper_view : ℕ → View
keeper_view n = drawn_view n 0

-- a caller's first view
abbrev pub caller_view : ℕ → ℕ → View
caller_view n number = record { standing = record { keeps = false; number = number; claims = replicate n Nothing; slots = []; drawn = 0 }; shown = 0; slot = 0; word = blank }

-- the keeper's view after one more number was drawn
abbrev pub dealt : View → View
dealt v = record { standing = record { keeps = v.standing.keeps; number = v.standing.number; claims = v.standing.claims; slots = v.standing.slots; drawn = v.standing.drawn + 1 }; shown = v.shown; slot = v.slot; word = v.word }

-- the view of the seat with that number
abbrev pub dealt_to : View → View
dealt_to v = caller_view (length v.standing.slots) (v.standing.drawn + 1)

abbrev pub with_slot : SeatRecord → ℕ → SlotRecord → SeatRecord
with_slot c x k = record { keeps = c.keeps; number = c.number; claims = c.claims; slots = slice_set c.slots x k; drawn = c.drawn }

-- the keeper's view where a slot has this state, and the generation that it had
abbrev pub knowing : View → ℕ → SlotState → View
knowing v x s = record { standing = with_slot v.standing x record { state = s; generation = (slot_at v.standing x).generation }; shown = v.shown; slot = v.slot; word = v.word }

-- the next generation
abbrev pub next_generation : ℕ → ℕ
next_generation g = (g + 1) % 2 ^ 46

-- the keeper's view where a slot is free and has the next generation
abbrev pub freed : View → ℕ → View
freed v x = record { standing = with_slot v.standing x record { state = Free; generation = next_generation (slot_at v.standing x).generation }; shown = v.shown; slot = v.slot; word = v.word }

-- a word is shown to the keeper only where somebody holds the slot
abbrev pub noticed : ℕ → View → ℕ → SlotWord → View
noticed zero v x word = v
noticed (suc mask) v x word = showing v v.standing x word

-- the keeper's load: the word says what the keeper knows
pub record Peeked (x : ℕ) (v : View) (word : SlotWord) (w : View) : Type 0 where
  pub view : w ≡ noticed word.holders v x word
  pub says : Says word (slot_at v.standing x)

-- the exchange went from the word that was expected, without holders, to a free word of the next generation; or it failed, and what was
-- found was shown, which says the same of the slot
abbrev pub Buries : ℕ → ℕ → View → ℕ → View → Type 0
Buries x expected v found w =
    ((found ≡ expected) × (w ≡ freed v x))
    ⊎ ((found ≢ expected) × (w ≡ showing v v.standing x (said found)) × Says (said found) (slot_at v.standing x))
