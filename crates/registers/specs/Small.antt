-- The small plate's register words, as the paper lists them.
use Rattle.std.specs.Prelude.{ℕ, ◌+◌, ◌*◌, ◌^◌, List, [], ◌∷◌, ◌++◌}
use Rattle.registers.specs.Addresses.{PALETTE, BORDER, HCR, HSWR, HBSR, HDSR, HDER, HBER, VCR, VSWR, VBSR, VDSR, VDER, VBER, CONTROL}
use Rattle.registers.specs.Record.{fresh}
use Rattle.registers.specs.Load.{applied}
use Rattle.registers.specs.declared.record.Registers.{Registers}

-- A register word of an address and its data, and one of a horizontal or vertical value.
abbrev pub word_of : ℕ → ℕ → ℕ
word_of address value = address * 2 ^ 24 + value

abbrev pub timing : ℕ → ℕ → ℕ
timing address v = word_of address (v * 2 ^ 14)

-- Palette entry i = i.
abbrev pub entry_word : ℕ → ℕ
entry_word i = word_of (PALETTE i) i

abbrev pub small_palette : List ℕ
small_palette =
    entry_word 0 ∷ entry_word 1 ∷ entry_word 2 ∷ entry_word 3 ∷ entry_word 4 ∷ entry_word 5 ∷ entry_word 6 ∷ entry_word 7
    ∷ entry_word 8 ∷ entry_word 9 ∷ entry_word 10 ∷ entry_word 11 ∷ entry_word 12 ∷ entry_word 13 ∷ entry_word 14 ∷ entry_word 15 ∷ []

-- The horizontal and vertical values.
abbrev pub small_timings : List ℕ
small_timings =
    timing HCR 15 ∷ timing HSWR 1 ∷ timing HBSR 3 ∷ timing HDSR 2 ∷ timing HDER 6 ∷ timing HBER 11
    ∷ timing VCR 5 ∷ timing VSWR 0 ∷ timing VBSR 1 ∷ timing VDSR 2 ∷ timing VDER 3 ∷ timing VBER 4 ∷ []

-- Depth 4, 24 MHz; border F00H.
abbrev pub small_words : List ℕ
small_words = word_of CONTROL 0xB ∷ (small_timings ++ word_of BORDER 0xF00 ∷ small_palette)

abbrev pub small_registers : Registers
small_registers = applied fresh small_words
