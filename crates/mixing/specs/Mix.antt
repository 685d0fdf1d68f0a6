-- A raster's cells laid over a camera's colours, every place by one rule; refusals: the setting's, then 13, then 20.
use Rattle.std.specs.Prelude.{ℕ, ◌<◌, Bool, true, ◌&&◌, ◌||◌, List, [], ◌∷◌, ◌++◌, ◌≡◌, ltb, leb, length, get_or}
use Rattle.buffers.specs.Painted.{painted}
use Rattle.buffers.specs.Pick.{pick}
use Rattle.buffers.specs.Values.{values_from}
use Rattle.refusals.specs.Table.{Told, Row, row, judged, unless_refused}
use Rattle.registers.specs.Check.{setting_table}
use Rattle.registers.specs.Lowest.{lowest}
use Rattle.registers.specs.Setting.{setting_of}
use Rattle.registers.specs.declared.record.Registers.{Registers}
use Rattle.colours.specs.Apart.{apart_of}
use Rattle.colours.specs.Cells.{cell_code}

-- A cell of border, display or cursor, codes 4, 5 and 6, shows the camera where its supremacy is set.
abbrev pub shows_camera : ℕ → Bool
shows_camera cell = (apart_of cell).supremacy && leb 4 (cell_code cell) && leb (cell_code cell) 6

-- Any other shows its own colour, of 12 bits.
abbrev pub shown_over : ℕ → ℕ → ℕ
shown_over cell camera = pick (shows_camera cell) camera (apart_of cell).colour

-- The rule of every place.
abbrev pub mixed_at : List ℕ → List ℕ → ℕ → ℕ
mixed_at cells camera x = shown_over (get_or cells x 0) (get_or camera x 0)

-- The n colours of a raster, and two cameras that have the same colour at every place of it whose cell shows the camera.
abbrev pub mixed_raster : List ℕ → List ℕ → ℕ → List ℕ
mixed_raster cells camera n = values_from (mixed_at cells camera) 0 n

abbrev pub AgreeWhereShown : List ℕ → ℕ → List ℕ → List ℕ → Type 0
AgreeWhereShown cells n camera other = (x : ℕ) → x < n → shows_camera (get_or cells x 0) ≡ true → get_or camera x 0 ≡ get_or other x 0

-- 20: a camera's number of more than 12 bits, the first of n; n where there is none.
abbrev pub too_large : List ℕ → ℕ → Bool
too_large camera x = ltb 4095 (get_or camera x 0)

abbrev pub first_too_large : List ℕ → ℕ → ℕ
first_too_large camera n = lowest (too_large camera) n 0

-- The rows behind the setting's: of a raster of n cells nothing past them counts.
abbrev pub mix_rows : ℕ → List ℕ → List ℕ → ℕ → List Row
mix_rows n cells camera room =
    row 13 (ltb (length cells) n || ltb (length camera) n || ltb room n) 0
    ∷ row 20 (ltb (first_too_large camera n) n) (first_too_large camera n)
    ∷ []

abbrev pub mix_table : Registers → List ℕ → List ℕ → ℕ → List Row
mix_table g cells camera room = setting_table g ++ mix_rows (setting_of g).n.0 cells camera room

unfoldable pub mix_told : Registers → List ℕ → List ℕ → ℕ → Told (Unit {0})
mix_told g cells camera room = judged (mix_table g cells camera room) tt

-- What the lent answer holds after the call.
unfoldable pub mix_leaves : Registers → List ℕ → List ℕ → List ℕ → List ℕ
mix_leaves g cells camera out =
    unless_refused (mix_told g cells camera (length out)) out (painted out 0 (setting_of g).n.0 (mixed_at cells camera))
