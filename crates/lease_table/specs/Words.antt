-- The words of a table: bits 0 to 15 are those of callers 1 to 16, bit 16 says that the slot is live, bit 17 that it is condemned, and
-- the others are its generation. Nothing else speaks of bits.
use Rattle.std.specs.Prelude.{ℕ, ◌-◌, ◌/◌, ◌%◌, ◌^◌, ◌==◌, Bool, false}
use Rattle.std.specs.Int.{bit_at}
use Rattle.lease_table.specs.declared.view.SlotWord.{SlotWord}

-- what a word of the table says
abbrev pub said : ℕ → SlotWord
said n = record { generation = n / 2 ^ 18; live = bit_at n 16 == 1; condemned = bit_at n 17 == 1; holders = n % 2 ^ 16 }

-- whether caller k is one of the holders
abbrev pub is_holder : SlotWord → ℕ → Bool
is_holder word k = bit_at word.holders (k - 1) == 1

-- a word that says nothing
abbrev pub blank : SlotWord
blank = record { generation = 0; live = false; condemned = false; holders = 0 }
