-- The thirteen marked cases hold, by computation.
use mathlib.Core.Path.{refl}
use Rattle.buffers.specs.Painted.{each_from, painted}
use Rattle.registers.specs.Record.{reserved, stored_of}
use Rattle.registers.specs.Load.{leading, applied}
use Rattle.registers.specs.Lowest.{lowest}
use Rattle.registers.specs.Setting.{setting_of, video_words, cursor_words}
use Rattle.registers.specs.Accept.{accept_told}
use Rattle.cells.specs.Pixel.{pixel, cursor_pair}
use Rattle.cells.specs.Cell.{plain_code, covered, code, cell}
use Rattle.frame.specs.Frame.{frame_told, raster_cell, raster_told, raster_leaves}
use Rattle.sound.specs.Amplitude.{amplitude_of, signed_of, value_of}
use Rattle.sound.specs.Pair.{pair_told}
use Rattle.claims.specs.Marked.{AllHold, marked_cases}

infixr 4 ◌and◌
◌and◌ : {A B : Type 0} → A → B → A × B
p and q = (p, q)

pub all_marked_cases : AllHold marked_cases
unfolding each_from painted reserved stored_of applied lowest setting_of video_words cursor_words leading accept_told
    pixel cursor_pair plain_code covered code cell frame_told raster_cell raster_told raster_leaves amplitude_of signed_of value_of pair_told
all_marked_cases =
    (refl, refl)
    and (refl, refl)
    and (refl, refl, refl, refl)
    and (refl, refl, refl)
    and (refl, refl)
    and (refl, refl, refl, refl)
    and refl
    and (refl, refl)
    and (refl, refl)
    and refl
    and (refl, refl, refl)
    and (refl, refl, refl, refl)
    and (refl, refl, refl)
    and tt
