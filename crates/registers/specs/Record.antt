-- Register words: address and data of a word, the record, and one word stored in it.
use Rattle.std.specs.Prelude.{ℕ, zero, suc, ◌+◌, ◌*◌, ◌/◌, ◌^◌, Bool, true, false, ◌&&◌, ◌||◌, not, List, [], ◌∷◌, get_or, set, replicate, ltb, eqb}
use Rattle.buffers.specs.Bits.{bits}
use Rattle.buffers.specs.Pick.{pick}
use Rattle.refusals.specs.Table.{Told, Row, row, judged}
use Rattle.registers.specs.Addresses.{at, addresses}
use Rattle.registers.specs.declared.record.Registers.{Registers}

-- The address is bits 31 to 26, the highest of a word, with two zero bits below; its slot is the address without those.
abbrev pub slot_of : ℕ → ℕ
slot_of word = word / 2 ^ 26

-- The data are bits 23 to 0.
abbrev pub data_of : ℕ → ℕ
data_of word = bits 23 0 word

abbrev pub one_of : List ℕ → ℕ → Bool
one_of [] a = false
one_of (x ∷ xs) a = eqb x a || one_of xs a

-- The addresses without a register are reserved.
unfoldable pub reserved : ℕ → Bool
reserved slot = not (one_of addresses (4 * slot))

-- Behind the cursor's palette up to the stereo registers, behind the sound frequency up to control, and behind control.
abbrev pub in_gap : ℕ → Bool
in_gap slot = (ltb 19 slot && ltb slot 24) || (ltb 48 slot && ltb slot 56) || ltb 56 slot

-- How many of the first n slots are reserved: of all 64, 18.
abbrev pub reserved_below : ℕ → ℕ
reserved_below zero = 0
reserved_below (suc n) = pick (reserved n) 1 0 + reserved_below n

-- The record of what each slot holds, and whether it was written.
abbrev pub registers_by : List ℕ → List Bool → Registers
registers_by values written = record { values = values; written = written }

-- A fresh record has nothing written.
abbrev pub fresh : Registers
fresh = registers_by (replicate 64 0) (replicate 64 false)

-- The register that a word names holds its data, and is written.
abbrev pub stored : Registers → ℕ → Registers
stored g word = registers_by (set g.values (slot_of word) (data_of word)) (set g.written (slot_of word) true)

unfoldable pub stored_of : Registers → ℕ → Registers
stored_of g word = pick (reserved (slot_of word)) g (stored g word)

-- Loading one word alone: 2, detail 0.
abbrev pub word_table : ℕ → List Row
word_table word = row 2 (reserved (slot_of word)) 0 ∷ []

abbrev pub word_told : ℕ → Told (Unit {0})
word_told word = judged (word_table word) tt

-- What a slot holds, and whether it was written.
abbrev pub held_in : Registers → ℕ → ℕ
held_in g slot = get_or g.values slot 0

abbrev pub written_in : Registers → ℕ → Bool
written_in g slot = get_or g.written slot false

-- A register's data; of a record filled by hand, modulo 2^24.
abbrev pub value_at : Registers → ℕ → ℕ
value_at g address = bits 23 0 (held_in g (at address))

abbrev pub written_at : Registers → ℕ → Bool
written_at g address = written_in g (at address)
