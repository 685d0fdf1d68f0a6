-- What is seen of a run of each public call that claims speak of: its arguments, what it tells, lent memory before and after, by name.
use Rattle.std.specs.Prelude.{ℕ, List, ℤ}
use Rattle.refusals.specs.Table.{Why, Told}
use Rattle.refusals.specs.Refusals.{says, why_of}
use Rattle.registers.specs.declared.record.Registers.{Registers}
use Rattle.registers.specs.declared.setting.Setting.{Setting}
use Rattle.registers.proofs.record.Registers.load_word.Kinds as load_word_kinds
use Rattle.registers.proofs.record.Registers.load_word.Reads as load_word_reads
use Rattle.registers.proofs.record.Registers.load_and_check.Kinds as load_and_check_kinds
use Rattle.registers.proofs.record.Registers.load_and_check.Reads as load_and_check_reads
use Rattle.registers.proofs.record.Registers.load_and_check_sound.Kinds as load_and_check_sound_kinds
use Rattle.registers.proofs.record.Registers.load_and_check_sound.Reads as load_and_check_sound_reads
use Rattle.registers.proofs.record.Registers.check_sound.Kinds as check_sound_kinds
use Rattle.registers.proofs.record.Registers.check_sound.Reads as check_sound_reads
use Rattle.cells.proofs.judge.Kinds as judge_kinds
use Rattle.cells.proofs.judge.Reads as judge_reads
use Rattle.frame.proofs.frame.Kinds as frame_kinds
use Rattle.frame.proofs.frame.Reads as frame_reads
use Rattle.frame.proofs.raster.Kinds as raster_kinds
use Rattle.frame.proofs.raster.Reads as raster_reads
use Rattle.mixing.proofs.mix.Kinds as mix_kinds
use Rattle.mixing.proofs.mix.Reads as mix_reads
use Rattle.marks.proofs.marks.Kinds as marks_kinds
use Rattle.marks.proofs.marks.Reads as marks_reads
use Rattle.marks.proofs.summaries.summaries.Kinds as summaries_kinds
use Rattle.marks.proofs.summaries.summaries.Reads as summaries_reads
use Rattle.marks.proofs.summaries.replace.Kinds as replace_kinds
use Rattle.marks.proofs.summaries.replace.Reads as replace_reads
use Rattle.stretch.specs.declared.found.Stretch.{Stretch}
use Rattle.stretch.proofs.found.find.Kinds as find_kinds
use Rattle.stretch.proofs.found.find.Reads as find_reads
use Rattle.stretch.proofs.raster_words.Kinds as words_kinds
use Rattle.stretch.proofs.raster_words.Reads as words_reads
use Rattle.stretch.proofs.raster_words_answer.Kinds as answer_kinds
use Rattle.stretch.proofs.raster_words_answer.Reads as answer_reads
use Rattle.sound.specs.declared.Sides.{Sides}
use Rattle.sound.proofs.pair.Kinds as pair_kinds
use Rattle.sound.proofs.pair.Reads as pair_reads
use Rattle.sound.proofs.play.Kinds as play_kinds
use Rattle.sound.proofs.play.Reads as play_reads
use Rattle.plates.specs.declared.Sections.{Sections}
use Rattle.plates.proofs.read.Kinds as read_kinds
use Rattle.plates.proofs.read.Reads as read_reads
use Rattle.plates.proofs.copy_out.Kinds as copy_kinds
use Rattle.plates.proofs.copy_out.Reads as copy_reads
use Rattle.plates.proofs.write.Kinds as write_kinds
use Rattle.plates.proofs.write.Reads as write_reads
use Rattle.sheets.specs.declared.Parts.{Parts}
use Rattle.sheets.proofs.take.Kinds as take_kinds
use Rattle.sheets.proofs.take.Reads as take_reads
use Rattle.sheets.proofs.input.take_input.Kinds as take_input_kinds
use Rattle.sheets.proofs.input.take_input.Reads as take_input_reads
use Rattle.outputs.proofs.text.refused.Kinds as refused_kinds
use Rattle.outputs.proofs.text.refused.Reads as refused_reads
use Rattle.outputs.proofs.whole.text.Kinds as text_kinds
use Rattle.outputs.proofs.whole.text.Reads as text_reads
use Rattle.outputs.proofs.text.line.Kinds as line_kinds
use Rattle.outputs.proofs.text.line.Reads as line_reads
use Rattle.outputs.proofs.strips.strip.Kinds as strip_kinds
use Rattle.outputs.proofs.strips.strip.Reads as strip_reads
use Rattle.outputs.proofs.blocks.block.Kinds as block_kinds
use Rattle.outputs.proofs.blocks.block.Reads as block_reads
use Rattle.claims.specs.Calls.{Call, call}

-- Loading one word, or a list for sound.
pub record LoadRun (W : Type 0) : Type 0 where
  pub registers : Registers
  pub words : W
  pub answer : Told (Unit {0})
  pub loaded : Registers

abbrev pub load_word : Call
load_word = call 1 load_word_kinds.ps load_word_kinds.r load_word_reads.Post (LoadRun ℕ)
    λ κs a x s. record { registers = a.0.now; words = a.1.0; answer = says x; loaded = s.0.now }

abbrev pub load_and_check_sound : Call
load_and_check_sound = call 2 load_and_check_sound_kinds.ps load_and_check_sound_kinds.r load_and_check_sound_reads.Post (LoadRun (List ℕ))
    λ κs a x s. record { registers = a.0.now; words = a.1.0.now; answer = says x; loaded = s.0.now }

-- Loading a list and checking what it leaves.
pub record AcceptRun : Type 0 where
  pub registers : Registers
  pub words : List ℕ
  pub answer : Told Setting
  pub handed : Registers

abbrev pub load_and_check : Call
load_and_check = call 2 load_and_check_kinds.ps load_and_check_kinds.r load_and_check_reads.Post AcceptRun
    λ κs a x s. record { registers = a.0.now; words = a.1.0.now; answer = says x; handed = s.0.now }

-- Judging a record for sound.
pub record CheckRun : Type 0 where
  pub registers : Registers
  pub answer : Told (Unit {0})

abbrev pub check_sound : Call
check_sound = call 0 check_sound_kinds.ps check_sound_kinds.r check_sound_reads.Post CheckRun
    λ κs a x s. record { registers = a.0; answer = says x }

-- Judging a picture: a record with its word lists.
pub record PictureRun : Type 0 where
  pub registers : Registers
  pub video : List ℕ
  pub cursor : List ℕ
  pub answer : Told Setting

abbrev pub judge : Call
judge = call 2 judge_kinds.ps judge_kinds.r judge_reads.Post PictureRun
    λ κs a x s. record { registers = a.0; video = a.1.0.now; cursor = a.1.1.0.now; answer = says x }

-- The frame, one raster of it, and its mark count.
pub record FrameRun : Type 0 where
  pub registers : Registers
  pub video : List ℕ
  pub cursor : List ℕ
  pub answer : Told (Unit {0})
  pub before : List ℕ
  pub after : List ℕ

abbrev pub frame : Call
frame = call 3 frame_kinds.ps frame_kinds.r frame_reads.Post FrameRun
    λ κs a x s. record {
      registers = a.0;
      video = a.1.0.now;
      cursor = a.1.1.0.now;
      answer = says x;
      before = a.1.1.1.0.now;
      after = s.1.1.1.0.now;
    }

pub record RasterRun : Type 0 where
  pub registers : Registers
  pub video : List ℕ
  pub cursor : List ℕ
  pub raster : ℕ
  pub answer : Told (Unit {0})
  pub before : List ℕ
  pub after : List ℕ

abbrev pub raster : Call
raster = call 3 raster_kinds.ps raster_kinds.r raster_reads.Post RasterRun
    λ κs a x s. record {
      registers = a.0;
      video = a.1.0.now;
      cursor = a.1.1.0.now;
      raster = a.1.1.1.0.0;
      answer = says x;
      before = a.1.1.1.1.0.now;
      after = s.1.1.1.1.0.now;
    }

-- One raster's cells laid over a camera's colours.
pub record MixRun : Type 0 where
  pub registers : Registers
  pub cells : List ℕ
  pub camera : List ℕ
  pub answer : Told (Unit {0})
  pub before : List ℕ
  pub after : List ℕ

abbrev pub mix : Call
mix = call 3 mix_kinds.ps mix_kinds.r mix_reads.Post MixRun
    λ κs a x s. record {
      registers = a.0;
      cells = a.1.0.now;
      camera = a.1.1.0.now;
      answer = says x;
      before = a.1.1.1.0.now;
      after = s.1.1.1.0.now;
    }

pub record MarksRun : Type 0 where
  pub registers : Registers
  pub video : List ℕ
  pub cursor : List ℕ
  pub threshold : ℕ
  pub answer : Told ℕ

abbrev pub marks : Call
marks = call 2 marks_kinds.ps marks_kinds.r marks_reads.Post MarksRun
    λ κs a x s. record { registers = a.0; video = a.1.0.now; cursor = a.1.1.0.now; threshold = a.1.1.1.0; answer = says x }

-- Marks per raster made afresh, and kept where one word is replaced: `list` is what the video list holds after it.
pub record SummariesRun : Type 0 where
  pub registers : Registers
  pub video : List ℕ
  pub cursor : List ℕ
  pub threshold : ℕ
  pub answer : Told (Unit {0})
  pub before : List ℕ
  pub after : List ℕ

abbrev pub summaries : Call
summaries = call 3 summaries_kinds.ps summaries_kinds.r summaries_reads.Post SummariesRun
    λ κs a x s. record {
      registers = a.0;
      video = a.1.0.now;
      cursor = a.1.1.0.now;
      threshold = a.1.1.1.0;
      answer = says x;
      before = a.1.1.1.1.0.now;
      after = s.1.1.1.1.0.now;
    }

pub record ReplaceRun : Type 0 where
  pub registers : Registers
  pub video : List ℕ
  pub cursor : List ℕ
  pub threshold : ℕ
  pub index : ℕ
  pub word : ℕ
  pub answer : Told (Unit {0})
  pub list : List ℕ
  pub before : List ℕ
  pub after : List ℕ

abbrev pub replace : Call
replace = call 3 replace_kinds.ps replace_kinds.r replace_reads.Post ReplaceRun
    λ κs a x s. record {
      registers = a.0;
      video = a.1.0.now;
      cursor = a.1.1.0.now;
      threshold = a.1.1.1.0;
      index = a.1.1.1.1.0;
      word = a.1.1.1.1.1.0;
      answer = says x;
      list = s.1.0.now;
      before = a.1.1.1.1.1.1.0.now;
      after = s.1.1.1.1.1.1.0.now;
    }

-- A raster's words: where they stand, and the refusal or none.
pub record StretchRun (A : Type 0) : Type 0 where
  pub registers : Registers
  pub video : List ℕ
  pub raster : ℕ
  pub answer : Told A

abbrev pub find : Call
find = call 1 find_kinds.ps find_kinds.r find_reads.Post (StretchRun Stretch)
    λ κs a x s. record { registers = a.0; video = a.1.0.now; raster = a.1.1.0.0; answer = says x }

abbrev pub raster_words_answer : Call
raster_words_answer = call 1 answer_kinds.ps answer_kinds.r answer_reads.Post (StretchRun (Unit {0}))
    λ κs a x s. record { registers = a.0; video = a.1.0.now; raster = a.1.1.0.0; answer = says x }

-- The words themselves. A list's place is its memory and the bytes before it there.
pub record WordsRun : Type 0 where
  pub registers : Registers
  pub video : List ℕ
  pub video_place : ℕ × ℕ
  pub raster : ℕ
  pub words : List ℕ
  pub words_place : ℕ × ℕ

abbrev pub raster_words : Call
raster_words = call 1 words_kinds.ps words_kinds.r words_reads.Post WordsRun
    λ κs a x s. record {
      registers = a.0;
      video = a.1.0.now;
      video_place = a.1.0.ref_ptr;
      raster = a.1.1.0.0;
      words = x.now;
      words_place = x.ref_ptr;
    }

-- Sound: words played, and one byte.
pub record PlayRun : Type 0 where
  pub registers : Registers
  pub words : List ℕ
  pub counter : ℕ
  pub answer : Told (Unit {0})
  pub counted : ℕ
  pub before : List ℤ
  pub after : List ℤ

abbrev pub play : Call
play = call 3 play_kinds.ps play_kinds.r play_reads.Post PlayRun
    λ κs a x s. record {
      registers = a.0;
      words = a.1.0.now;
      counter = a.1.1.0.now;
      answer = says x;
      counted = s.1.1.0.now;
      before = a.1.1.1.0.now;
      after = s.1.1.1.0.now;
    }

pub record PairRun : Type 0 where
  pub byte : ℕ
  pub stereo : ℕ
  pub answer : Told Sides

abbrev pub pair : Call
pair = call 0 pair_kinds.ps pair_kinds.r pair_reads.Post PairRun λ κs a x s. record { byte = a.0; stereo = a.1.0; answer = says x }

-- Plate files: read, copied out, written.
pub record ReadRun : Type 0 where
  pub file : List ℕ
  pub answer : Told Sections

abbrev pub read : Call
read = call 1 read_kinds.ps read_kinds.r read_reads.Post ReadRun λ κs a x s. record { file = a.0.now; answer = says x }

pub record CopyRun : Type 0 where
  pub file : List ℕ
  pub answer : Told (Unit {0})
  pub before : List ℕ
  pub after : List ℕ

abbrev pub copy_out : Call
copy_out = call 2 copy_kinds.ps copy_kinds.r copy_reads.Post CopyRun
    λ κs a x s. record { file = a.0.now; answer = says x; before = a.1.0.now; after = s.1.0.now }

pub record WriteRun : Type 0 where
  pub registers : List ℕ
  pub video : List ℕ
  pub cursor : List ℕ
  pub sound : List ℕ
  pub answer : Told ℕ
  pub before : List ℕ
  pub after : List ℕ

abbrev pub write : Call
write = call 5 write_kinds.ps write_kinds.r write_reads.Post WriteRun
    λ κs a x s. record {
      registers = a.0.now;
      video = a.1.0.now;
      cursor = a.1.1.0.now;
      sound = a.1.1.1.0.now;
      answer = says x;
      before = a.1.1.1.1.0.now;
      after = s.1.1.1.1.0.now;
    }

-- A plate taken apart, from a file or from standard input.
pub record TakeRun : Type 0 where
  pub file : List ℕ
  pub answer : Told Parts
  pub before : List ℕ
  pub after : List ℕ

abbrev pub take : Call
take = call 2 take_kinds.ps take_kinds.r take_reads.Post TakeRun
    λ κs a x s. record { file = a.0.now; answer = says x; before = a.1.0.now; after = s.1.0.now }

abbrev pub take_input : Call
take_input = call 2 take_input_kinds.ps take_input_kinds.r take_input_reads.Post TakeRun
    λ κs a x s. record { file = a.0.now; answer = says x; before = a.1.0.now; after = s.1.0.now }

-- What is written of a picture, its line or strip k or its whole text, and of a sound, its block k; and the line that refuses.
pub record PictureLists : Type 0 where
  pub registers : Registers
  pub video : List ℕ
  pub cursor : List ℕ

pub record SoundWords : Type 0 where
  pub registers : Registers
  pub words : List ℕ

-- A piece with a number, and how many bytes it has.
pub record PieceRun (A : Type 0) : Type 0 where
  pub of : A
  pub index : ℕ
  pub bytes : ℕ
  pub before : List ℕ
  pub after : List ℕ

abbrev pub line : Call
line = call 3 line_kinds.ps line_kinds.r line_reads.Post (PieceRun PictureLists)
    λ κs a x s. record {
      of = record { registers = a.0; video = a.1.0.now; cursor = a.1.1.0.now };
      index = a.1.1.1.0;
      bytes = x;
      before = a.1.1.1.1.0.now;
      after = s.1.1.1.1.0.now;
    }

abbrev pub strip : Call
strip = call 3 strip_kinds.ps strip_kinds.r strip_reads.Post (PieceRun PictureLists)
    λ κs a x s. record {
      of = record { registers = a.0; video = a.1.0.now; cursor = a.1.1.0.now };
      index = a.1.1.1.0;
      bytes = x;
      before = a.1.1.1.1.0.now;
      after = s.1.1.1.1.0.now;
    }

abbrev pub text : Call
text = call 3 text_kinds.ps text_kinds.r text_reads.Post (PieceRun PictureLists)
    λ κs a x s. record {
      of = record { registers = a.0; video = a.1.0.now; cursor = a.1.1.0.now };
      index = 0;
      bytes = x;
      before = a.1.1.1.0.now;
      after = s.1.1.1.0.now;
    }

abbrev pub block : Call
block = call 2 block_kinds.ps block_kinds.r block_reads.Post (PieceRun SoundWords)
    λ κs a x s. record {
      of = record { registers = a.0; words = a.1.0.now };
      index = a.1.1.0;
      bytes = x;
      before = a.1.1.1.0.now;
      after = s.1.1.1.0.now;
    }

abbrev pub refused_line : Call
refused_line = call 1 refused_kinds.ps refused_kinds.r refused_reads.Post (PieceRun Why)
    λ κs a x s. record { of = why_of a.0; index = 0; bytes = x; before = a.1.0.now; after = s.1.0.now }
