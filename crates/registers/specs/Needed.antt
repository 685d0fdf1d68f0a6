-- Needed registers.
use Rattle.std.specs.Prelude.{ℕ, Bool, ◌&&◌, ◌||◌, not, ltb, leb, eqb}
use Rattle.registers.specs.Addresses.{at, BORDER, CURSOR, HCR, HBER, HCSR, VCR, VBER, CONTROL}
use Rattle.registers.specs.Record.{written_in, written_at}
use Rattle.registers.specs.Control.{entries_in_use}
use Rattle.registers.specs.Geometry.{cursor_on}
use Rattle.registers.specs.declared.record.Registers.{Registers}

-- A slot from that of the first address to that of the last.
abbrev pub among : ℕ → ℕ → ℕ → Bool
among first last slot = leb (at first) slot && leb slot (at last)

-- What a picture needs besides control; the cursor's own start and colours only where it is on.
abbrev pub needed_for : ℕ → Bool → ℕ → Bool
needed_for entries cursor slot =
    ltb slot entries || eqb slot (at BORDER) || among HCR HBER slot || among VCR VBER slot
    || (cursor && (eqb slot (at HCSR) || among (CURSOR 1) (CURSOR 3) slot))

abbrev pub needed_under : Registers → ℕ → Bool
needed_under g slot = needed_for (entries_in_use g) (cursor_on g) slot

-- Control is needed first: if it is unwritten, only its address is reported.
abbrev pub needed : Registers → ℕ → Bool
needed g slot = eqb slot (at CONTROL) || (written_at g CONTROL && needed_under g slot)

abbrev pub missing : Registers → ℕ → Bool
missing g slot = needed g slot && not (written_in g slot)
