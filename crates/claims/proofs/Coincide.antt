-- Answers coincide: for every public call of every library, the theorem of its own contract, in one list.
-- Of `raster_words` it says that any two answers read the same words at the same place.
pub use Rattle.buffers.proofs.Unique.{one_joined, one_copy_words, one_put_words}
pub use Rattle.refusals.proofs.Unique.{one_number, one_detail, one_refuse_if}
pub use Rattle.registers.proofs.Unique.{one_pixels, one_width_from, one_height_from, one_of_value, one_is_reserved}
pub use Rattle.registers.proofs.Unique.{one_addresses, one_of_slots, one_new, one_store, one_palette, one_border, one_cursor_colour}
pub use Rattle.registers.proofs.Unique.{one_display_on, one_border_on}
pub use Rattle.registers.proofs.Unique.{one_video_words, one_cursor_words, one_pixel_rate, one_control, one_entries_in_use, one_sub_position}
pub use Rattle.registers.proofs.Unique.{one_cursor_on, one_setting, one_stereo, one_sound_frequency, one_load_word, one_load_and_check}
pub use Rattle.registers.proofs.Unique.{one_load_and_check_sound, one_check_sound}
pub use Rattle.queues.proofs.Unique.{one_fresh, one_load_by_value, one_read_by_value, one_vertical_sync_by_value, one_ask_by_value}
pub use Rattle.queues.proofs.Unique.{one_horizontal_sync, one_sync_ends, one_cursor_ask, one_video_ask, one_sync_ask}
pub use Rattle.queues.proofs.Unique.{one_queue_load, one_queue_read, one_queue_vertical_sync, one_queue_ask}
pub use Rattle.colours.proofs.Unique.{one_of, one_cell, one_shown, one_colour, one_entries, one_grey, one_pin}
pub use Rattle.cells.proofs.Unique.{one_words_wrong, one_judge}
pub use Rattle.frame.proofs.Unique.{one_frame, one_raster}
pub use Rattle.marks.proofs.Unique.{one_marks, one_summaries, one_replace}
pub use Rattle.stretch.proofs.Unique.{one_find, one_raster_words, one_raster_words_answer}
pub use Rattle.mixing.proofs.Unique.{one_mix}
pub use Rattle.sound.proofs.Unique.{one_pair, one_play}
pub use Rattle.plates.proofs.Unique.{one_read_holds, one_copy_out, one_write}
pub use Rattle.pictures.proofs.Unique.{one_guns, one_colours, one_head_is_whole, one_head_is_open, one_head_next}
pub use Rattle.waves.proofs.Unique.{one_head, one_samples}
pub use Rattle.sheets.proofs.Unique.{one_take, one_take_input, one_of_input, one_of_input_end}
pub use Rattle.outputs.proofs.Unique.{one_line, one_refused, one_text, one_strip, one_block}
pub use Rattle.vombelishi.proofs.Unique.{one_vom_read, one_vom_copy, one_vom_write, one_vom_colour, one_vom_grey, one_vom_pin, one_vom_load_and_check}
pub use Rattle.vombelishi.proofs.Unique.{one_vom_load_word, one_vom_frame, one_vom_raster, one_vom_raster_words, one_vom_marks, one_vom_load_and_check_sound}
pub use Rattle.vombelishi.proofs.Unique.{one_vom_summaries, one_vom_replace, one_vom_check_sound, one_vom_sound, one_vom_sound_pair, one_vom_text}
pub use Rattle.vombelishi.proofs.Unique.{one_vom_queue_fresh, one_vom_queue_load, one_vom_queue_read, one_vom_queue_vertical_sync}
pub use Rattle.vombelishi.proofs.Unique.{one_vom_queue_ask, one_vom_sync_ask, one_vom_mix}
