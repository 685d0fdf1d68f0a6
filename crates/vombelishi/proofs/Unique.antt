-- For each call, any two answers and any two states of the lent memory that its contract permits are the same.
use Prim.Native.Nat.{ℕ}
use mathlib.Core.Path.{sym, ◌∙◌}
use mathlib.Core.List.{List}
use lib.IntN.{ℤ}
use Rattle.buffers.proofs.Coincide.{OneAnswer, OneState, OneLent}
use Rattle.queues.specs.Steps.{load_of, read_of, vertical_of, ask_of}
use Rattle.queues.proofs.Unique.{one_lent}
use Rattle.vombelishi.proofs.files.vom_read.Kinds as vom_read_kinds
use Rattle.vombelishi.proofs.files.vom_read.Reads as vom_read_reads
use Rattle.vombelishi.proofs.files.vom_copy.Kinds as vom_copy_kinds
use Rattle.vombelishi.proofs.files.vom_copy.Reads as vom_copy_reads
use Rattle.vombelishi.proofs.files.vom_write.Kinds as vom_write_kinds
use Rattle.vombelishi.proofs.files.vom_write.Reads as vom_write_reads
use Rattle.vombelishi.proofs.levels.vom_colour.Kinds as vom_colour_kinds
use Rattle.vombelishi.proofs.levels.vom_colour.Reads as vom_colour_reads
use Rattle.vombelishi.proofs.levels.vom_grey.Kinds as vom_grey_kinds
use Rattle.vombelishi.proofs.levels.vom_grey.Reads as vom_grey_reads
use Rattle.vombelishi.proofs.levels.vom_pin.Kinds as vom_pin_kinds
use Rattle.vombelishi.proofs.levels.vom_pin.Reads as vom_pin_reads
use Rattle.vombelishi.proofs.loads.vom_load_and_check.Kinds as vom_load_and_check_kinds
use Rattle.vombelishi.proofs.loads.vom_load_and_check.Reads as vom_load_and_check_reads
use Rattle.vombelishi.proofs.loads.vom_load_and_check_sound.Kinds as vom_load_and_check_sound_kinds
use Rattle.vombelishi.proofs.loads.vom_load_and_check_sound.Reads as vom_load_and_check_sound_reads
use Rattle.vombelishi.proofs.loads.vom_load_word.Kinds as vom_load_word_kinds
use Rattle.vombelishi.proofs.loads.vom_load_word.Reads as vom_load_word_reads
use Rattle.vombelishi.proofs.frames.vom_frame.Kinds as vom_frame_kinds
use Rattle.vombelishi.proofs.frames.vom_frame.Reads as vom_frame_reads
use Rattle.vombelishi.proofs.mixes.vom_mix.Kinds as vom_mix_kinds
use Rattle.vombelishi.proofs.mixes.vom_mix.Reads as vom_mix_reads
use Rattle.vombelishi.proofs.frames.vom_raster.Kinds as vom_raster_kinds
use Rattle.vombelishi.proofs.frames.vom_raster.Reads as vom_raster_reads
use Rattle.vombelishi.specs.contracts.queued.vom_queue_load as vom_queue_load
use Rattle.vombelishi.specs.contracts.queued.vom_queue_read as vom_queue_read
use Rattle.vombelishi.specs.contracts.queued.vom_queue_vertical_sync as vom_queue_vertical_sync
use Rattle.vombelishi.specs.contracts.queued.vom_queue_ask as vom_queue_ask
use Rattle.vombelishi.proofs.queued.vom_queue_fresh.Kinds as vom_queue_fresh_kinds
use Rattle.vombelishi.proofs.queued.vom_queue_fresh.Reads as vom_queue_fresh_reads
use Rattle.vombelishi.proofs.queued.vom_sync_ask.Kinds as vom_sync_ask_kinds
use Rattle.vombelishi.proofs.queued.vom_sync_ask.Reads as vom_sync_ask_reads
use Rattle.vombelishi.proofs.rasters.vom_raster_words.Kinds as vom_raster_words_kinds
use Rattle.vombelishi.proofs.rasters.vom_raster_words.Reads as vom_raster_words_reads
use Rattle.vombelishi.proofs.rasters.vom_marks.Kinds as vom_marks_kinds
use Rattle.vombelishi.proofs.rasters.vom_marks.Reads as vom_marks_reads
use Rattle.vombelishi.proofs.settings.vom_check_sound.Kinds as vom_check_sound_kinds
use Rattle.vombelishi.proofs.settings.vom_check_sound.Reads as vom_check_sound_reads
use Rattle.vombelishi.proofs.sounds.vom_sound.Kinds as vom_sound_kinds
use Rattle.vombelishi.proofs.sounds.vom_sound.Reads as vom_sound_reads
use Rattle.vombelishi.proofs.sounds.vom_sound_pair.Kinds as vom_sound_pair_kinds
use Rattle.vombelishi.proofs.sounds.vom_sound_pair.Reads as vom_sound_pair_reads
use Rattle.vombelishi.proofs.summaries.vom_summaries.Kinds as vom_summaries_kinds
use Rattle.vombelishi.proofs.summaries.vom_summaries.Reads as vom_summaries_reads
use Rattle.vombelishi.proofs.summaries.vom_replace.Kinds as vom_replace_kinds
use Rattle.vombelishi.proofs.summaries.vom_replace.Reads as vom_replace_reads
use Rattle.vombelishi.proofs.texts.vom_text.Kinds as vom_text_kinds
use Rattle.vombelishi.proofs.texts.vom_text.Reads as vom_text_reads

pub one_vom_read : OneState 2 vom_read_kinds.ps vom_read_kinds.r (λ κs s. s.1.0.now) vom_read_reads.Post
one_vom_read κs a x y s t p q = (p.0 ∙ sym q.0, p.1 ∙ sym q.1)

pub one_vom_copy : OneState 2 vom_copy_kinds.ps vom_copy_kinds.r (λ κs s. s.1.0.now) vom_copy_reads.Post
one_vom_copy κs a x y s t p q = (p.0 ∙ sym q.0, p.1 ∙ sym q.1)

pub one_vom_write : OneState {A = List ℕ × ℕ} 6 vom_write_kinds.ps vom_write_kinds.r
    (λ κs s. (s.1.1.1.1.0.now, s.1.1.1.1.1.0.now)) vom_write_reads.Post
one_vom_write κs a x y s t p q = (p.0 ∙ sym q.0, λ i. ((p.1 ∙ sym q.1) i, (p.2 ∙ sym q.2) i))

pub one_vom_colour : OneState {A = ℕ × ℕ} 4 vom_colour_kinds.ps vom_colour_kinds.r
    (λ κs s. (s.1.1.1.1.0.now, s.1.1.1.1.1.0.now)) vom_colour_reads.Post
one_vom_colour κs a x y s t p q = (p.0 ∙ sym q.0, λ i. ((p.1 ∙ sym q.1) i, (p.2 ∙ sym q.2) i))

pub one_vom_mix : OneState 5 vom_mix_kinds.ps vom_mix_kinds.r (λ κs s. s.1.1.1.1.0.now) vom_mix_reads.Post
one_vom_mix κs a x y s t p q = (p.0 ∙ sym q.0, p.1 ∙ sym q.1)

pub one_vom_grey : OneAnswer 0 vom_grey_kinds.ps vom_grey_kinds.r vom_grey_reads.Post
one_vom_grey κs a x y s t p q = p ∙ sym q

pub one_vom_pin : OneAnswer 0 vom_pin_kinds.ps vom_pin_kinds.r vom_pin_reads.Post
one_vom_pin κs a x y s t p q = p ∙ sym q

pub one_vom_load_and_check : OneState {A = List ℕ × List ℕ × List ℕ} 4 vom_load_and_check_kinds.ps vom_load_and_check_kinds.r
    (λ κs s. (s.0.now, s.1.0.now, s.1.1.1.0.now)) vom_load_and_check_reads.Post
one_vom_load_and_check κs a x y s t p q =
    (p.0 ∙ sym q.0, λ i. ((p.1 ∙ sym q.1) i, (p.2 ∙ sym q.2) i, (p.3 ∙ sym q.3) i))

pub one_vom_load_and_check_sound : OneState {A = List ℕ × List ℕ} 3 vom_load_and_check_sound_kinds.ps vom_load_and_check_sound_kinds.r
    (λ κs s. (s.0.now, s.1.0.now)) vom_load_and_check_sound_reads.Post
one_vom_load_and_check_sound κs a x y s t p q = (p.0 ∙ sym q.0, λ i. ((p.1 ∙ sym q.1) i, (p.2 ∙ sym q.2) i))

pub one_vom_load_word : OneState {A = List ℕ × List ℕ} 2 vom_load_word_kinds.ps vom_load_word_kinds.r
    (λ κs s. (s.0.now, s.1.0.now)) vom_load_word_reads.Post
one_vom_load_word κs a x y s t p q = (p.0 ∙ sym q.0, λ i. ((p.1 ∙ sym q.1) i, (p.2 ∙ sym q.2) i))

pub one_vom_frame : OneState 5 vom_frame_kinds.ps vom_frame_kinds.r (λ κs s. s.1.1.1.1.0.now) vom_frame_reads.Post
one_vom_frame κs a x y s t p q = (p.0 ∙ sym q.0, p.1 ∙ sym q.1)

pub one_vom_raster : OneState 5 vom_raster_kinds.ps vom_raster_kinds.r (λ κs s. s.1.1.1.1.1.0.now) vom_raster_reads.Post
one_vom_raster κs a x y s t p q = (p.0 ∙ sym q.0, p.1 ∙ sym q.1)

pub one_vom_raster_words : OneState 4 vom_raster_words_kinds.ps vom_raster_words_kinds.r (λ κs s. s.1.1.1.1.0.now) vom_raster_words_reads.Post
one_vom_raster_words κs a x y s t p q = (p.0 ∙ sym q.0, p.1 ∙ sym q.1)

pub one_vom_marks : OneState 5 vom_marks_kinds.ps vom_marks_kinds.r (λ κs s. s.1.1.1.1.1.0.now) vom_marks_reads.Post
one_vom_marks κs a x y s t p q = (p.0 ∙ sym q.0, p.1 ∙ sym q.1)

pub one_vom_summaries : OneState 5 vom_summaries_kinds.ps vom_summaries_kinds.r (λ κs s. s.1.1.1.1.1.0.now) vom_summaries_reads.Post
one_vom_summaries κs a x y s t p q = (p.0 ∙ sym q.0, p.1 ∙ sym q.1)

pub one_vom_replace : OneState {A = List ℕ × List ℕ} 5 vom_replace_kinds.ps vom_replace_kinds.r
    (λ κs s. (s.1.1.0.now, s.1.1.1.1.1.1.1.0.now)) vom_replace_reads.Post
one_vom_replace κs a x y s t p q = (p.0 ∙ sym q.0, λ i. ((p.1 ∙ sym q.1) i, (p.2 ∙ sym q.2) i))

pub one_vom_check_sound : OneAnswer 2 vom_check_sound_kinds.ps vom_check_sound_kinds.r vom_check_sound_reads.Post
one_vom_check_sound κs a x y s t p q = p ∙ sym q

pub one_vom_sound : OneState {A = ℕ × List ℤ} 5 vom_sound_kinds.ps vom_sound_kinds.r
    (λ κs s. (s.1.1.1.0.now, s.1.1.1.1.0.now)) vom_sound_reads.Post
one_vom_sound κs a x y s t p q = (p.0 ∙ sym q.0, λ i. ((p.1 ∙ sym q.1) i, (p.2 ∙ sym q.2) i))

pub one_vom_sound_pair : OneState 1 vom_sound_pair_kinds.ps vom_sound_pair_kinds.r (λ κs s. s.1.1.0.now) vom_sound_pair_reads.Post
one_vom_sound_pair κs a x y s t p q = (p.0 ∙ sym q.0, p.1 ∙ sym q.1)

pub one_vom_text : OneState {A = List ℕ × ℕ} 3 vom_text_kinds.ps vom_text_kinds.r (λ κs s. (s.1.0.now, s.1.1.0.now)) vom_text_reads.Post
one_vom_text κs a x y s t p q = (p.0 ∙ sym q.0, λ i. ((p.1 ∙ sym q.1) i, (p.2 ∙ sym q.2) i))

pub one_vom_queue_fresh : OneAnswer 0 vom_queue_fresh_kinds.ps vom_queue_fresh_kinds.r vom_queue_fresh_reads.Post
one_vom_queue_fresh κs a x y s t p q = p ∙ sym q

pub one_vom_queue_load : OneLent vom_queue_load.ended (λ M 𝓤 𝓛. vom_queue_load.clauses 𝓛) (λ κs s. s.0.now)
one_vom_queue_load = one_lent load_of

pub one_vom_queue_read : OneLent vom_queue_read.ended (λ M 𝓤 𝓛. vom_queue_read.clauses 𝓛) (λ κs s. s.0.now)
one_vom_queue_read = one_lent read_of

pub one_vom_queue_vertical_sync : OneLent vom_queue_vertical_sync.ended (λ M 𝓤 𝓛. vom_queue_vertical_sync.clauses 𝓛) (λ κs s. s.0.now)
one_vom_queue_vertical_sync = one_lent vertical_of

pub one_vom_queue_ask : OneLent vom_queue_ask.ended (λ M 𝓤 𝓛. vom_queue_ask.clauses 𝓛) (λ κs s. s.0.now)
one_vom_queue_ask = one_lent ask_of

pub one_vom_sync_ask : OneState 3 vom_sync_ask_kinds.ps vom_sync_ask_kinds.r (λ κs s. s.1.1.1.1.0.now) vom_sync_ask_reads.Post
one_vom_sync_ask κs a x y s t p q = (p.0 ∙ sym q.0, p.1 ∙ sym q.1)
