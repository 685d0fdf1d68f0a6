-- What a bench reads and notes: the frame's words with filler behind them, and a table with a row for each raster.
use Rattle.std.specs.Prelude.{ℕ, ◌+◌, ◌-◌, ◌*◌, ◌/◌, ◌%◌, ◌^◌, List, length, nat_lt, slice_index, slice_index_or, slice_set}
use Rattle.buffers.specs.Pick.{pick}
use Rattle.live.specs.declared.bench.Row.{Row}

-- A sum of 32 bits.
abbrev pub plus : ℕ → ℕ → ℕ
plus a b = (a + b) % 2 ^ 32

-- Filler is all ones.
abbrev pub word_or : List ℕ → ℕ → ℕ
word_or words at = pick (nat_lt at (length words)) (slice_index words at) 4294967295

abbrev pub byte_or : List ℕ → ℕ → ℕ
byte_or words at = word_or words (at / 4) / 2 ^ (8 * (at % 4)) % 256

-- Beforehand a raster's row has the words that its sync asks for and the bytes that its display takes; afterwards the totals at its end.
-- Behind the table's end stand zeros, and nothing is put there.
abbrev pub no_row : Row
no_row = record { asked = 0; loaded = 0; read = 0 }

abbrev pub row_at : List Row → ℕ → Row
row_at told raster = slice_index_or told raster no_row

-- What a raster has of its own: the totals at its end without those at the end of the raster before it.
abbrev pub row_since : Row → Row → Row
row_since after before =
    record { asked = after.asked - before.asked; loaded = after.loaded - before.loaded; read = after.read - before.read }

abbrev pub row_put : List Row → ℕ → Row → List Row
row_put told raster row = slice_set told raster row
