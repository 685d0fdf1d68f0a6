-- The registers' addresses, by the data sheet's names. The code's own constants are those of `Registers`.
use Rattle.std.specs.Prelude.{ℕ, ◌+◌, ◌*◌, ◌/◌, ◌%◌, List, [], ◌∷◌}

-- The slot of an address: the address without its two zero bits.
abbrev pub at : ℕ → ℕ
at address = address / 4

-- Video palette 0 to 15.
abbrev pub PALETTE : ℕ → ℕ
PALETTE entry = 4 * entry

-- Border colour; cursor palette 1 to 3 after it.
abbrev pub BORDER : ℕ
BORDER = 0x40

abbrev pub CURSOR : ℕ → ℕ
CURSOR entry = BORDER + 4 * entry

-- 60H is stereo 7, and 64H to 7CH are stereo 0 to 6.
abbrev pub stereo_slot : ℕ → ℕ
stereo_slot channel = at 0x60 + (channel + 1) % 8

abbrev pub STEREO : ℕ → ℕ
STEREO channel = 4 * stereo_slot channel

-- The horizontal registers.
abbrev pub HCR : ℕ
HCR = 0x80

abbrev pub HSWR : ℕ
HSWR = 0x84

abbrev pub HBSR : ℕ
HBSR = 0x88

abbrev pub HDSR : ℕ
HDSR = 0x8C

abbrev pub HDER : ℕ
HDER = 0x90

abbrev pub HBER : ℕ
HBER = 0x94

abbrev pub HCSR : ℕ
HCSR = 0x98

abbrev pub HIR : ℕ
HIR = 0x9C

-- The vertical registers.
abbrev pub VCR : ℕ
VCR = 0xA0

abbrev pub VSWR : ℕ
VSWR = 0xA4

abbrev pub VBSR : ℕ
VBSR = 0xA8

abbrev pub VDSR : ℕ
VDSR = 0xAC

abbrev pub VDER : ℕ
VDER = 0xB0

abbrev pub VBER : ℕ
VBER = 0xB4

abbrev pub VCSR : ℕ
VCSR = 0xB8

abbrev pub VCER : ℕ
VCER = 0xBC

abbrev pub SOUND_FREQUENCY : ℕ
SOUND_FREQUENCY = 0xC0

abbrev pub CONTROL : ℕ
CONTROL = 0xE0

-- The addresses that have a register, lowest first.
abbrev pub addresses : List ℕ
addresses =
    PALETTE 0 ∷ PALETTE 1 ∷ PALETTE 2 ∷ PALETTE 3 ∷ PALETTE 4 ∷ PALETTE 5 ∷ PALETTE 6 ∷ PALETTE 7
    ∷ PALETTE 8 ∷ PALETTE 9 ∷ PALETTE 10 ∷ PALETTE 11 ∷ PALETTE 12 ∷ PALETTE 13 ∷ PALETTE 14 ∷ PALETTE 15
    ∷ BORDER ∷ CURSOR 1 ∷ CURSOR 2 ∷ CURSOR 3
    ∷ STEREO 7 ∷ STEREO 0 ∷ STEREO 1 ∷ STEREO 2 ∷ STEREO 3 ∷ STEREO 4 ∷ STEREO 5 ∷ STEREO 6
    ∷ HCR ∷ HSWR ∷ HBSR ∷ HDSR ∷ HDER ∷ HBER ∷ HCSR ∷ HIR
    ∷ VCR ∷ VSWR ∷ VBSR ∷ VDSR ∷ VDER ∷ VBER ∷ VCSR ∷ VCER
    ∷ SOUND_FREQUENCY ∷ CONTROL ∷ []
