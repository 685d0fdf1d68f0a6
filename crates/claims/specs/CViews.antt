-- What is seen of a run of each call for C that can refuse: its arguments, what its number says, lent memory before and after, by name.
use Rattle.std.specs.Prelude.{ℕ, ◌/◌, ◌%◌, ◌^◌, List, eqb, ℤ}
use Rattle.buffers.specs.Pick.{pick}
use Rattle.refusals.specs.Table.{why, Told, given, refused}
use Rattle.vombelishi.proofs.loads.vom_load_and_check.Kinds as load_and_check_kinds
use Rattle.vombelishi.proofs.loads.vom_load_and_check.Reads as load_and_check_reads
use Rattle.vombelishi.proofs.loads.vom_load_and_check_sound.Kinds as load_and_check_sound_kinds
use Rattle.vombelishi.proofs.loads.vom_load_and_check_sound.Reads as load_and_check_sound_reads
use Rattle.vombelishi.proofs.loads.vom_load_word.Kinds as load_word_kinds
use Rattle.vombelishi.proofs.loads.vom_load_word.Reads as load_word_reads
use Rattle.vombelishi.proofs.settings.vom_check_sound.Kinds as check_sound_kinds
use Rattle.vombelishi.proofs.settings.vom_check_sound.Reads as check_sound_reads
use Rattle.vombelishi.proofs.frames.vom_frame.Kinds as frame_kinds
use Rattle.vombelishi.proofs.frames.vom_frame.Reads as frame_reads
use Rattle.vombelishi.proofs.frames.vom_raster.Kinds as raster_kinds
use Rattle.vombelishi.proofs.frames.vom_raster.Reads as raster_reads
use Rattle.vombelishi.proofs.rasters.vom_raster_words.Kinds as raster_words_kinds
use Rattle.vombelishi.proofs.rasters.vom_raster_words.Reads as raster_words_reads
use Rattle.vombelishi.proofs.rasters.vom_marks.Kinds as marks_kinds
use Rattle.vombelishi.proofs.rasters.vom_marks.Reads as marks_reads
use Rattle.vombelishi.proofs.summaries.vom_summaries.Kinds as summaries_kinds
use Rattle.vombelishi.proofs.summaries.vom_summaries.Reads as summaries_reads
use Rattle.vombelishi.proofs.summaries.vom_replace.Kinds as replace_kinds
use Rattle.vombelishi.proofs.summaries.vom_replace.Reads as replace_reads
use Rattle.vombelishi.proofs.mixes.vom_mix.Kinds as mix_kinds
use Rattle.vombelishi.proofs.mixes.vom_mix.Reads as mix_reads
use Rattle.vombelishi.proofs.levels.vom_colour.Kinds as colour_kinds
use Rattle.vombelishi.proofs.levels.vom_colour.Reads as colour_reads
use Rattle.vombelishi.proofs.queued.vom_sync_ask.Kinds as sync_ask_kinds
use Rattle.vombelishi.proofs.queued.vom_sync_ask.Reads as sync_ask_reads
use Rattle.vombelishi.proofs.sounds.vom_sound.Kinds as sound_kinds
use Rattle.vombelishi.proofs.sounds.vom_sound.Reads as sound_reads
use Rattle.vombelishi.proofs.sounds.vom_sound_pair.Kinds as sound_pair_kinds
use Rattle.vombelishi.proofs.sounds.vom_sound_pair.Reads as sound_pair_reads
use Rattle.vombelishi.proofs.files.vom_read.Kinds as read_kinds
use Rattle.vombelishi.proofs.files.vom_read.Reads as read_reads
use Rattle.vombelishi.proofs.files.vom_copy.Kinds as copy_kinds
use Rattle.vombelishi.proofs.files.vom_copy.Reads as copy_reads
use Rattle.vombelishi.proofs.files.vom_write.Kinds as write_kinds
use Rattle.vombelishi.proofs.files.vom_write.Reads as write_reads
use Rattle.vombelishi.proofs.texts.vom_text.Kinds as text_kinds
use Rattle.vombelishi.proofs.texts.vom_text.Reads as text_reads
use Rattle.claims.specs.Calls.{Call, call}

-- What a caller reads in the number that a call answers: 0 is success, else the refusal's number is above 2^32 and its detail below.
abbrev pub code_says : ℕ → Told (Unit {0})
code_says code = pick (eqb code 0) (given tt) (refused (why (code / 2 ^ 32) (code % 2 ^ 32)))

-- Loading one word, or a list for sound.
pub record LoadRun (W : Type 0) : Type 0 where
  pub values : List ℕ
  pub written : List ℕ
  pub words : W
  pub answer : Told (Unit {0})
  pub values_after : List ℕ
  pub written_after : List ℕ

abbrev pub load_and_check_sound : Call
load_and_check_sound = call 3 load_and_check_sound_kinds.ps load_and_check_sound_kinds.r load_and_check_sound_reads.Post (LoadRun (List ℕ))
    λ κs a x s. record {
      values = a.0.now;
      written = a.1.0.now;
      words = a.1.1.0.now;
      answer = code_says x;
      values_after = s.0.now;
      written_after = s.1.0.now;
    }

abbrev pub load_word : Call
load_word = call 2 load_word_kinds.ps load_word_kinds.r load_word_reads.Post (LoadRun ℕ)
    λ κs a x s. record {
      values = a.0.now;
      written = a.1.0.now;
      words = a.1.1.0;
      answer = code_says x;
      values_after = s.0.now;
      written_after = s.1.0.now;
    }

-- Loading a list and checking what it leaves; the setting's numbers go to lent memory.
pub record AcceptRun : Type 0 where
  pub values : List ℕ
  pub written : List ℕ
  pub words : List ℕ
  pub answer : Told (Unit {0})
  pub values_after : List ℕ
  pub written_after : List ℕ
  pub before : List ℕ
  pub after : List ℕ

abbrev pub load_and_check : Call
load_and_check = call 4 load_and_check_kinds.ps load_and_check_kinds.r load_and_check_reads.Post AcceptRun
    λ κs a x s. record {
      values = a.0.now;
      written = a.1.0.now;
      words = a.1.1.0.now;
      answer = code_says x;
      values_after = s.0.now;
      written_after = s.1.0.now;
      before = a.1.1.1.0.now;
      after = s.1.1.1.0.now;
    }

-- Judging a record for sound.
pub record CheckSoundRun : Type 0 where
  pub values : List ℕ
  pub written : List ℕ
  pub answer : Told (Unit {0})

abbrev pub check_sound : Call
check_sound = call 2 check_sound_kinds.ps check_sound_kinds.r check_sound_reads.Post CheckSoundRun
    λ κs a x s. record { values = a.0.now; written = a.1.0.now; answer = code_says x }

-- The frame, one raster of it, where a raster's words stand, the mark count.
pub record FrameRun : Type 0 where
  pub values : List ℕ
  pub written : List ℕ
  pub video : List ℕ
  pub cursor : List ℕ
  pub answer : Told (Unit {0})
  pub before : List ℕ
  pub after : List ℕ

abbrev pub frame : Call
frame = call 5 frame_kinds.ps frame_kinds.r frame_reads.Post FrameRun
    λ κs a x s. record {
      values = a.0.now;
      written = a.1.0.now;
      video = a.1.1.0.now;
      cursor = a.1.1.1.0.now;
      answer = code_says x;
      before = a.1.1.1.1.0.now;
      after = s.1.1.1.1.0.now;
    }

pub record RasterRun : Type 0 where
  pub values : List ℕ
  pub written : List ℕ
  pub video : List ℕ
  pub cursor : List ℕ
  pub raster : ℕ
  pub answer : Told (Unit {0})
  pub before : List ℕ
  pub after : List ℕ

abbrev pub raster : Call
raster = call 5 raster_kinds.ps raster_kinds.r raster_reads.Post RasterRun
    λ κs a x s. record {
      values = a.0.now;
      written = a.1.0.now;
      video = a.1.1.0.now;
      cursor = a.1.1.1.0.now;
      raster = a.1.1.1.1.0;
      answer = code_says x;
      before = a.1.1.1.1.1.0.now;
      after = s.1.1.1.1.1.0.now;
    }

pub record WordsRun : Type 0 where
  pub values : List ℕ
  pub written : List ℕ
  pub video : List ℕ
  pub raster : ℕ
  pub answer : Told (Unit {0})
  pub before : List ℕ
  pub after : List ℕ

abbrev pub raster_words : Call
raster_words = call 4 raster_words_kinds.ps raster_words_kinds.r raster_words_reads.Post WordsRun
    λ κs a x s. record {
      values = a.0.now;
      written = a.1.0.now;
      video = a.1.1.0.now;
      raster = a.1.1.1.0;
      answer = code_says x;
      before = a.1.1.1.1.0.now;
      after = s.1.1.1.1.0.now;
    }

pub record MarksRun : Type 0 where
  pub values : List ℕ
  pub written : List ℕ
  pub video : List ℕ
  pub cursor : List ℕ
  pub threshold : ℕ
  pub answer : Told (Unit {0})
  pub before : ℕ
  pub after : ℕ

abbrev pub marks : Call
marks = call 5 marks_kinds.ps marks_kinds.r marks_reads.Post MarksRun
    λ κs a x s. record {
      values = a.0.now;
      written = a.1.0.now;
      video = a.1.1.0.now;
      cursor = a.1.1.1.0.now;
      threshold = a.1.1.1.1.0;
      answer = code_says x;
      before = a.1.1.1.1.1.0.now;
      after = s.1.1.1.1.1.0.now;
    }

-- Marks per raster made afresh, and kept where one word is replaced.
pub record SummariesRun : Type 0 where
  pub values : List ℕ
  pub written : List ℕ
  pub video : List ℕ
  pub cursor : List ℕ
  pub threshold : ℕ
  pub answer : Told (Unit {0})
  pub before : List ℕ
  pub after : List ℕ

abbrev pub summaries : Call
summaries = call 5 summaries_kinds.ps summaries_kinds.r summaries_reads.Post SummariesRun
    λ κs a x s. record {
      values = a.0.now;
      written = a.1.0.now;
      video = a.1.1.0.now;
      cursor = a.1.1.1.0.now;
      threshold = a.1.1.1.1.0;
      answer = code_says x;
      before = a.1.1.1.1.1.0.now;
      after = s.1.1.1.1.1.0.now;
    }

pub record ReplaceRun : Type 0 where
  pub values : List ℕ
  pub written : List ℕ
  pub video : List ℕ
  pub cursor : List ℕ
  pub threshold : ℕ
  pub index : ℕ
  pub word : ℕ
  pub answer : Told (Unit {0})
  pub list : List ℕ
  pub before : List ℕ
  pub after : List ℕ

abbrev pub replace : Call
replace = call 5 replace_kinds.ps replace_kinds.r replace_reads.Post ReplaceRun
    λ κs a x s. record {
      values = a.0.now;
      written = a.1.0.now;
      video = a.1.1.0.now;
      cursor = a.1.1.1.0.now;
      threshold = a.1.1.1.1.0;
      index = a.1.1.1.1.1.0;
      word = a.1.1.1.1.1.1.0;
      answer = code_says x;
      list = s.1.1.0.now;
      before = a.1.1.1.1.1.1.1.0.now;
      after = s.1.1.1.1.1.1.1.0.now;
    }

-- A pixel's colour, and its supremacy.
pub record ColourRun : Type 0 where
  pub values : List ℕ
  pub written : List ℕ
  pub depth : ℕ
  pub pixel : ℕ
  pub answer : Told (Unit {0})
  pub before : ℕ
  pub after : ℕ
  pub supremacy_before : ℕ
  pub supremacy_after : ℕ

abbrev pub colour : Call
colour = call 4 colour_kinds.ps colour_kinds.r colour_reads.Post ColourRun
    λ κs a x s. record {
      values = a.0.now;
      written = a.1.0.now;
      depth = a.1.1.0;
      pixel = a.1.1.1.0;
      answer = code_says x;
      before = a.1.1.1.1.0.now;
      after = s.1.1.1.1.0.now;
      supremacy_before = a.1.1.1.1.1.0.now;
      supremacy_after = s.1.1.1.1.1.0.now;
    }

-- A raster's cells over a camera's colours.
pub record MixRun : Type 0 where
  pub values : List ℕ
  pub written : List ℕ
  pub cells : List ℕ
  pub camera : List ℕ
  pub answer : Told (Unit {0})
  pub before : List ℕ
  pub after : List ℕ

abbrev pub mix : Call
mix = call 5 mix_kinds.ps mix_kinds.r mix_reads.Post MixRun
    λ κs a x s. record {
      values = a.0.now;
      written = a.1.0.now;
      cells = a.1.1.0.now;
      camera = a.1.1.1.0.now;
      answer = code_says x;
      before = a.1.1.1.1.0.now;
      after = s.1.1.1.1.0.now;
    }

-- What a raster's sync asks of a queue.
pub record SyncRun : Type 0 where
  pub values : List ℕ
  pub written : List ℕ
  pub kind : ℕ
  pub raster : ℕ
  pub answer : Told (Unit {0})
  pub before : ℕ
  pub after : ℕ

abbrev pub sync_ask : Call
sync_ask = call 3 sync_ask_kinds.ps sync_ask_kinds.r sync_ask_reads.Post SyncRun
    λ κs a x s. record {
      values = a.0.now;
      written = a.1.0.now;
      kind = a.1.1.0;
      raster = a.1.1.1.0;
      answer = code_says x;
      before = a.1.1.1.1.0.now;
      after = s.1.1.1.1.0.now;
    }

-- Sound: words played, the counter before and after them, and one byte.
pub record SoundRun : Type 0 where
  pub values : List ℕ
  pub written : List ℕ
  pub words : List ℕ
  pub answer : Told (Unit {0})
  pub counter : ℕ
  pub counted : ℕ
  pub before : List ℤ
  pub after : List ℤ

abbrev pub sound : Call
sound = call 5 sound_kinds.ps sound_kinds.r sound_reads.Post SoundRun
    λ κs a x s. record {
      values = a.0.now;
      written = a.1.0.now;
      words = a.1.1.0.now;
      answer = code_says x;
      counter = a.1.1.1.0.now;
      counted = s.1.1.1.0.now;
      before = a.1.1.1.1.0.now;
      after = s.1.1.1.1.0.now;
    }

pub record PairRun : Type 0 where
  pub byte : ℕ
  pub stereo : ℕ
  pub answer : Told (Unit {0})
  pub before : List ℤ
  pub after : List ℤ

abbrev pub sound_pair : Call
sound_pair = call 1 sound_pair_kinds.ps sound_pair_kinds.r sound_pair_reads.Post PairRun
    λ κs a x s. record { byte = a.0; stereo = a.1.0; answer = code_says x; before = a.1.1.0.now; after = s.1.1.0.now }

-- Plate files: read, copied out, written, and their text; with the cell for a length.
pub record FileRun : Type 0 where
  pub file : List ℕ
  pub answer : Told (Unit {0})
  pub before : List ℕ
  pub after : List ℕ

abbrev pub read : Call
read = call 2 read_kinds.ps read_kinds.r read_reads.Post FileRun
    λ κs a x s. record { file = a.0.now; answer = code_says x; before = a.1.0.now; after = s.1.0.now }

abbrev pub copy : Call
copy = call 2 copy_kinds.ps copy_kinds.r copy_reads.Post FileRun
    λ κs a x s. record { file = a.0.now; answer = code_says x; before = a.1.0.now; after = s.1.0.now }

pub record WriteRun : Type 0 where
  pub registers : List ℕ
  pub video : List ℕ
  pub cursor : List ℕ
  pub sound : List ℕ
  pub answer : Told (Unit {0})
  pub before : List ℕ
  pub after : List ℕ
  pub size : ℕ
  pub size_after : ℕ

abbrev pub write : Call
write = call 6 write_kinds.ps write_kinds.r write_reads.Post WriteRun
    λ κs a x s. record {
      registers = a.0.now;
      video = a.1.0.now;
      cursor = a.1.1.0.now;
      sound = a.1.1.1.0.now;
      answer = code_says x;
      before = a.1.1.1.1.0.now;
      after = s.1.1.1.1.0.now;
      size = a.1.1.1.1.1.0.now;
      size_after = s.1.1.1.1.1.0.now;
    }

pub record TextRun : Type 0 where
  pub file : List ℕ
  pub answer : Told (Unit {0})
  pub before : List ℕ
  pub after : List ℕ
  pub size : ℕ
  pub size_after : ℕ

abbrev pub text : Call
text = call 3 text_kinds.ps text_kinds.r text_reads.Post TextRun
    λ κs a x s. record {
      file = a.0.now;
      answer = code_says x;
      before = a.1.0.now;
      after = s.1.0.now;
      size = a.1.1.0.now;
      size_after = s.1.1.0.now;
    }
