-- Raster 3 of the small plate, cell by cell, by computing: 36608 in its border, 40960 up to 40967 in its display; a lent cell past its end keeps what it held.
use mathlib.Core.Path.{◌≡◌, refl}
use mathlib.Core.List.{[], ◌∷◌, ◌++◌}
use lib.ListN.{replicate}
use Rattle.buffers.specs.Painted.{each_from, painted}
use Rattle.registers.specs.Record.{reserved, stored_of}
use Rattle.registers.specs.Load.{applied}
use Rattle.registers.specs.Lowest.{lowest}
use Rattle.registers.specs.Setting.{setting_of, video_words, cursor_words}
use Rattle.registers.specs.Small.{small_registers}
use Rattle.cells.specs.Pixel.{pixel, cursor_pair}
use Rattle.cells.specs.Cell.{plain_code, covered, code, cell}
use Rattle.frame.specs.Frame.{raster_cell, raster_told, raster_leaves}

pub raster_three : raster_leaves small_registers (0x76543210 ∷ []) [] 3 (replicate 33 7)
    ≡ replicate 4 8192 ++ replicate 3 0 ++ replicate 4 36608
    ++ (40960 ∷ 40961 ∷ 40962 ∷ 40963 ∷ 40964 ∷ 40965 ∷ 40966 ∷ 40967 ∷ [])
    ++ replicate 4 36608 ++ replicate 9 0 ++ (7 ∷ [])
unfolding each_from painted reserved stored_of applied lowest setting_of video_words cursor_words
    pixel cursor_pair plain_code covered code cell raster_cell raster_told raster_leaves
raster_three = refl
