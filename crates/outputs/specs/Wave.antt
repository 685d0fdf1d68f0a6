-- A plate's sound as a WAV file: its head, then the samples of its sound words, the counter from 0.
use Rattle.std.specs.Prelude.{ℕ, zero, suc, ◌*◌, ◌-◌, List, [], ◌++◌, length, take, drop, eqb}
use Rattle.buffers.specs.Pick.{pick}
use Rattle.refusals.specs.Table.{Told, given, refused, Row, judged}
use Rattle.registers.specs.Stereo.{frequency_of}
use Rattle.registers.specs.Record.{fresh}
use Rattle.registers.specs.Sound.{sound_told}
use Rattle.registers.specs.Accept.{accept_sound_table}
use Rattle.registers.specs.declared.record.Registers.{Registers}
use Rattle.sound.specs.Play.{played_of}
use Rattle.sound.specs.Values.{counter_after}
use Rattle.waves.specs.Head.{wave_head}
use Rattle.waves.specs.Samples.{samples_of}
use Rattle.sheets.specs.Sheet.{register_words, registers_of, sound_list}
use Rattle.sheets.specs.Input.{input_table}

-- 15, 14, then its register words loaded and judged for sound: 1, 2, 3, 10. The picture is not judged.
abbrev pub wave_table : List ℕ → List Row
wave_table file = input_table file ++ accept_sound_table fresh (register_words file)

unfoldable pub wave_told : List ℕ → Told (Unit {0})
wave_told file = judged (wave_table file) tt

-- The whole file of what is told of a sound: a refusal has none.
abbrev pub wave_by : Registers → List ℕ → Told (Unit {0}) → List ℕ
wave_by g words (given u) = wave_head (frequency_of g) (length words) ++ samples_of (played_of g 0 words)
wave_by g words (refused w) = []

-- Of a plate file: of its own record and sound words.
unfoldable pub wave_of : List ℕ → List ℕ
wave_of file = wave_by (registers_of file) (sound_list file) (wave_told file)

-- Block k, from 0, of some words' samples: 256 words, which are 1,024 bytes.
unfoldable pub sound_block : Registers → List ℕ → ℕ → List ℕ
sound_block g words k = samples_of (played_of g (counter_after 0 (1024 * k)) (take 256 (drop (256 * k) words)))

-- Block k of a file: 0 is the head; then the samples' blocks; none after them.
unfoldable pub wave_block : Registers → List ℕ → ℕ → List ℕ
wave_block g words k = pick (eqb k 0) (wave_head (frequency_of g) (length words)) (sound_block g words (k - 1))

abbrev pub block_by : Registers → List ℕ → Told (Unit {0}) → ℕ → List ℕ
block_by g words (given u) k = wave_block g words k
block_by g words (refused w) k = []

unfoldable pub first_blocks : Registers → List ℕ → Told (Unit {0}) → ℕ → List ℕ
first_blocks g words told zero = []
first_blocks g words told (suc n) = first_blocks g words told n ++ block_by g words told n

-- A block of a record and its sound words.
unfoldable pub block_at : Registers → List ℕ → ℕ → List ℕ
block_at g words k = block_by g words (sound_told g) k
