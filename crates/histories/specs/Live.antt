-- Bytes read live against the words of a frame: which byte a position uses, and what the bytes read so far show.
use Rattle.std.specs.Prelude.{ℕ, ◌+◌, ◌*◌, ◌-◌, ◌/◌, ◌%◌, ◌^◌, List, [], ◌∷◌, ◌++◌, ◌≡◌, length, get_or, take}
use Rattle.buffers.specs.Words.{words_of}
use Rattle.registers.specs.declared.setting.Setting.{Setting}
use Rattle.queues.specs.Queue.{fresh_of}
use Rattle.queues.specs.declared.Queue.{Queue}
use Rattle.histories.specs.Calls.{QueueCall}
use Rattle.histories.specs.Since.{loaded_by, start_of}

-- Since an emptying, or from a fresh record, the words loaded are the frame's own in order, then filler.
pub record Fed (frame : List ℕ) (q : Queue) (cs : List QueueCall) : Type 0 where
  pub filler : List ℕ
  pub since : start_of q cs ≡ fresh_of q.ring.kind
  pub own : loaded_by q cs ≡ take (length (loaded_by q cs)) (frame ++ filler)

-- Position i at depth d uses byte i·d div 8 of those read, its d bits from bit i·d mod 8 on.
abbrev pub byte_used : ℕ → ℕ → ℕ
byte_used d i = i * d / 8

abbrev pub pixel_read : List ℕ → ℕ → ℕ → ℕ
pixel_read bytes d i = get_or bytes (byte_used d i) 0 / 2 ^ (i * d % 8) % 2 ^ d

-- Cursor positions are counted on from raster to raster too, 32 in each; a pair has two bits.
abbrev pub cursor_position : Setting → ℕ → ℕ → ℕ
cursor_position s x y = (y - s.vcs.0) * 32 + (x - s.cx.0)

-- The words of the bytes read so far; one that is not wholly read ends with 0.
abbrev pub words_read : List ℕ → List ℕ
words_read bytes = words_of (bytes ++ 0 ∷ 0 ∷ 0 ∷ [])
