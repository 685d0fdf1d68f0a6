-- Horizontal sync and the cursor: the shortest sync at each pixel rate, and the request's cases with the ends at every rate.
use Rattle.std.specs.Prelude.{ℕ, ◌+◌, ◌*◌, ◌-◌, ◌/◌, ◌^◌, ◌≡◌, List, [], ◌∷◌, get_or}
use Rattle.refusals.specs.Table.{why, given, refused}
use Rattle.registers.specs.Addresses.{CURSOR, HCR, HSWR, HBSR, HDSR, HDER, HBER, HCSR, VSWR, VCSR, VCER, CONTROL}
use Rattle.registers.specs.Control.{control, rate_field, pixel_rate}
use Rattle.registers.specs.Record.{fresh, stored_of}
use Rattle.registers.specs.Load.{applied}
use Rattle.registers.specs.Setting.{setting_of}
use Rattle.registers.specs.Accept.{accept_told}
use Rattle.registers.specs.Small.{word_of, timing, small_words, small_registers}
use Rattle.registers.specs.declared.record.Registers.{Registers}

-- The shortest sync that a cursor is given, in pixels, by the pixel rate. A sync is an even number of pixels.
abbrev pub least_sync : Registers → ℕ
least_sync g = get_or (8 ∷ 10 ∷ 14 ∷ 20 ∷ []) (rate_field (control g)) 0

-- The small plate with a longer line and a cursor: by the choice of its pixel rate, and its sync in pixels.
abbrev pub pointed_words : ℕ → ℕ → List ℕ
pointed_words choice sync =
    word_of CONTROL (8 + choice) ∷ timing HCR 31 ∷ timing HSWR (sync / 2 - 1) ∷ timing HBSR 12 ∷ timing HDSR 10 ∷ timing HDER 14 ∷ timing HBER 20
    ∷ word_of HCSR (30 * 2 ^ 13) ∷ timing VCSR 2 ∷ timing VCER 3
    ∷ word_of (CURSOR 1) 0x00F ∷ word_of (CURSOR 2) 0x0F0 ∷ word_of (CURSOR 3) 0xF00 ∷ []

abbrev pub pointed : ℕ → ℕ → Registers
pointed choice sync = applied small_registers (pointed_words choice sync)

-- At a rate in MHz a sync of so many pixels passes, and one two pixels shorter does not.
abbrev pub EndsAt : ℕ → ℕ → ℕ → Type 0
EndsAt choice rate sync =
    (pixel_rate (pointed choice sync) ≡ rate)
    × ((setting_of (pointed choice sync)).hs.0 ≡ sync)
    × (accept_told small_registers (pointed_words choice sync) ≡ given (setting_of (pointed choice sync)))
    × ((setting_of (pointed choice (sync - 2))).hs.0 ≡ sync - 2)
    × (accept_told small_registers (pointed_words choice (sync - 2)) ≡ refused (why 19 0))

abbrev pub sync_cases : List (Type 0)
sync_cases =
    -- the ends at each rate; at 24 MHz 20 pixels pass and 18 do not
    EndsAt 0 8 8
    ∷ EndsAt 1 12 10
    ∷ EndsAt 2 16 14
    ∷ EndsAt 3 24 20
    -- with the cursor off nothing is asked: of the small plate, 4 pixels at 24 MHz, and of the other with 18 and VCE = VCS
    ∷ (((setting_of small_registers).hs.0 ≡ 4) × (accept_told fresh small_words ≡ given (setting_of small_registers)))
    ∷ (accept_told (pointed 3 18) (timing VCER 2 ∷ []) ≡ given (setting_of (stored_of (pointed 3 18) (timing VCER 2))))
    -- 6 goes before 19: BE past N
    ∷ (accept_told (pointed 3 18) (timing HBER 32 ∷ []) ≡ refused (why 6 0))
    -- and 19 before 7: VS past V
    ∷ ((accept_told (pointed 3 18) (timing VSWR 6 ∷ []) ≡ refused (why 19 0))
    × (accept_told (pointed 3 20) (timing VSWR 6 ∷ []) ≡ refused (why 7 0)))
    ∷ []
