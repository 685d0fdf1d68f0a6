-- The paper's thirteen marked cases, as one list of statements.
use Rattle.std.specs.Prelude.{ℕ, ◌-◌, ◌≡◌, true, false, List, [], ◌∷◌, ◌++◌, replicate, pos, negsuc}
use Rattle.refusals.specs.Table.{why, given, refused}
use Rattle.registers.specs.Record.{fresh, stored_of, written_at}
use Rattle.registers.specs.Load.{applied}
use Rattle.registers.specs.Addresses.{HCR, STEREO}
use Rattle.registers.specs.Control.{pixel_rate, depth_of}
use Rattle.registers.specs.Geometry.{ten_bits}
use Rattle.registers.specs.Setting.{setting_of, display_on}
use Rattle.registers.specs.Stereo.{stereo_of}
use Rattle.registers.specs.Accept.{accept_told}
use Rattle.registers.specs.Small.{timing, small_registers}
use Rattle.registers.specs.declared.record.Registers.{Registers}
use Rattle.colours.specs.Colour.{colour_of}
use Rattle.colours.specs.Grey.{grey_of}
use Rattle.frame.specs.Frame.{frame_told, raster_leaves}
use Rattle.sound.specs.Amplitude.{signed_of}
use Rattle.sound.specs.Values.{channel_of, counter_after}
use Rattle.sound.specs.Pair.{pair_told}

-- Every statement of a list holds.
abbrev pub AllHold : List (Type 0) → Type 0
AllHold [] = Unit {0}
AllHold (t ∷ ts) = t × AllHold ts

-- The small plate's record with one word more, and its video word.
abbrev pub small_but : ℕ → Registers
small_but word = stored_of small_registers word

abbrev pub small_video : List ℕ
small_video = 0x76543210 ∷ []

abbrev pub marked_cases : List (Type 0)
marked_cases =
    -- 1: 8003C000H sets HCR 15, N = 32
    ((ten_bits (stored_of fresh 0x8003C000) HCR ≡ 15) × ((setting_of (stored_of fresh 0x8003C000)).n.0 ≡ 32))
    -- 2: E000000BH: 24 MHz, depth 4
    ∷ ((pixel_rate (stored_of fresh 0xE000000B) ≡ 24) × (depth_of (stored_of fresh 0xE000000B) ≡ 4))
    -- 3: 60000001H sets stereo 7, not 0
    ∷ ((stereo_of (stored_of fresh 0x60000001) 7 ≡ 1) × (stereo_of (stored_of fresh 0x60000001) 0 ≡ 0)
    × (written_at (stored_of fresh 0x60000001) (STEREO 7) ≡ true) × (written_at (stored_of fresh 0x60000001) (STEREO 0) ≡ false))
    -- 4: depth 8, entry 15 = 1FFFH: byte 0FH gives 1737H, FFH gives 1FFFH
    ∷ ((depth_of (applied fresh (0xE000000C ∷ 0x3C001FFF ∷ [])) ≡ 8)
    × (colour_of (applied fresh (0xE000000C ∷ 0x3C001FFF ∷ [])) 8 0x0F ≡ 0x1737)
    × (colour_of (applied fresh (0xE000000C ∷ 0x3C001FFF ∷ [])) 8 0xFF ≡ 0x1FFF))
    -- 5: depth 8, entry 0 = 0: byte 80H gives 800H, 10H gives 8
    ∷ ((colour_of (applied fresh (0xE000000C ∷ 0x00000000 ∷ [])) 8 0x80 ≡ 0x800)
    × (colour_of (applied fresh (0xE000000C ∷ 0x00000000 ∷ [])) 8 0x10 ≡ 8))
    -- 6: sound 01H is 0, 1EH is 15, 20H is 16, FFH is -3952
    ∷ ((signed_of 0x01 ≡ pos 0) × (signed_of 0x1E ≡ pos 15) × (signed_of 0x20 ≡ pos 16) × (signed_of 0xFF ≡ negsuc 3951))
    -- 7: byte 20H at stereo 3: left 64, right 32
    ∷ (pair_told 0x20 3 ≡ given (record { left = pos 64; right = pos 32 }))
    -- 8: counter 4,294,967,295 is channel 7, the next byte channel 0
    ∷ ((channel_of 4294967295 ≡ 7) × (channel_of (counter_after 4294967295 1) ≡ 0))
    -- 9: grey of FFFH is 255, of 00FH 76
    ∷ ((grey_of 0xFFF ≡ 255) × (grey_of 0x00F ≡ 76))
    -- 10: small plate, raster 3: border cells 36608, display cells 40960 to 40967
    ∷ (raster_leaves small_registers small_video [] 3 (replicate 32 0)
    ≡ replicate 4 8192 ++ replicate 3 0 ++ replicate 4 36608
    ++ (40960 ∷ 40961 ∷ 40962 ∷ 40963 ∷ 40964 ∷ 40965 ∷ 40966 ∷ 40967 ∷ [])
    ++ replicate 4 36608 ++ replicate 9 0)
    -- 11: HBER 15 accepted (BE 31), 16 refused with 6
    ∷ ((accept_told small_registers (timing 0x94 15 ∷ []) ≡ given (setting_of (small_but (timing 0x94 15))))
    × ((setting_of (small_but (timing 0x94 15))).be.0 ≡ 31)
    × (accept_told small_registers (timing 0x94 16 ∷ []) ≡ refused (why 6 0)))
    -- 12: HDER 2 refused with 6; HDER 5 (DE 17, width 6) with 8
    ∷ ((accept_told small_registers (timing 0x90 2 ∷ []) ≡ refused (why 6 0))
    × (accept_told small_registers (timing 0x90 5 ∷ []) ≡ refused (why 8 0))
    × ((setting_of (small_but (timing 0x90 5))).de.0 ≡ 17)
    × ((setting_of (small_but (timing 0x90 5))).de.0 - (setting_of (small_but (timing 0x90 5))).ds.0 ≡ 6))
    -- 13: VDER 2 is display off, one video word then refused with 11
    ∷ ((accept_told small_registers (timing 0xB0 2 ∷ []) ≡ given (setting_of (small_but (timing 0xB0 2))))
    × (display_on (setting_of (small_but (timing 0xB0 2))) ≡ false)
    × (frame_told (small_but (timing 0xB0 2)) small_video [] 192 ≡ refused (why 11 0)))
    ∷ []
