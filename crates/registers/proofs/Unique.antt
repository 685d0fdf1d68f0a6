-- For each public call, any two answers that its contract permits are the same, and any two records that it leaves where one was lent: each contract is
-- an equation of the answer, or of what it tells.
use mathlib.Core.Path.{sym, ◌∙◌}
use Rattle.buffers.proofs.Coincide.{OneAnswer, OneState}
use Rattle.refusals.proofs.Told.{same_told}
use Rattle.registers.proofs.units.Pairs.pixels.Kinds as pixels_kinds
use Rattle.registers.proofs.units.Pairs.pixels.Reads as pixels_reads
use Rattle.registers.proofs.units.Pixels.width_from.Kinds as width_from_kinds
use Rattle.registers.proofs.units.Pixels.width_from.Reads as width_from_reads
use Rattle.registers.proofs.units.Rasters.height_from.Kinds as height_from_kinds
use Rattle.registers.proofs.units.Rasters.height_from.Reads as height_from_reads
use Rattle.registers.proofs.units.Rasters.of_value.Kinds as of_value_kinds
use Rattle.registers.proofs.units.Rasters.of_value.Reads as of_value_reads
use Rattle.registers.proofs.record.is_reserved.Kinds as is_reserved_kinds
use Rattle.registers.proofs.record.is_reserved.Reads as is_reserved_reads
use Rattle.registers.proofs.record.Registers.addresses.Kinds as addresses_kinds
use Rattle.registers.proofs.record.Registers.addresses.Reads as addresses_reads
use Rattle.registers.proofs.record.Registers.of_slots.Kinds as of_slots_kinds
use Rattle.registers.proofs.record.Registers.of_slots.Reads as of_slots_reads
use Rattle.registers.proofs.record.Registers.new.Kinds as new_kinds
use Rattle.registers.proofs.record.Registers.new.Reads as new_reads
use Rattle.registers.proofs.record.Registers.store.Kinds as store_kinds
use Rattle.registers.proofs.record.Registers.store.Reads as store_reads
use Rattle.registers.proofs.record.Registers.palette.Kinds as palette_kinds
use Rattle.registers.proofs.record.Registers.palette.Reads as palette_reads
use Rattle.registers.proofs.record.Registers.border.Kinds as border_kinds
use Rattle.registers.proofs.record.Registers.border.Reads as border_reads
use Rattle.registers.proofs.record.Registers.cursor_colour.Kinds as cursor_colour_kinds
use Rattle.registers.proofs.record.Registers.cursor_colour.Reads as cursor_colour_reads
use Rattle.registers.proofs.setting.Setting.display_on.Kinds as display_on_kinds
use Rattle.registers.proofs.setting.Setting.display_on.Reads as display_on_reads
use Rattle.registers.proofs.setting.Setting.border_on.Kinds as border_on_kinds
use Rattle.registers.proofs.setting.Setting.border_on.Reads as border_on_reads
use Rattle.registers.proofs.setting.Setting.video_words.Kinds as video_words_kinds
use Rattle.registers.proofs.setting.Setting.video_words.Reads as video_words_reads
use Rattle.registers.proofs.setting.Setting.cursor_words.Kinds as cursor_words_kinds
use Rattle.registers.proofs.setting.Setting.cursor_words.Reads as cursor_words_reads
use Rattle.registers.proofs.record.Registers.control.Kinds as control_kinds
use Rattle.registers.proofs.record.Registers.control.Reads as control_reads
use Rattle.registers.proofs.record.Registers.pixel_rate.Kinds as pixel_rate_kinds
use Rattle.registers.proofs.record.Registers.pixel_rate.Reads as pixel_rate_reads
use Rattle.registers.proofs.record.Registers.entries_in_use.Kinds as entries_in_use_kinds
use Rattle.registers.proofs.record.Registers.entries_in_use.Reads as entries_in_use_reads
use Rattle.registers.proofs.record.Registers.sub_position.Kinds as sub_position_kinds
use Rattle.registers.proofs.record.Registers.sub_position.Reads as sub_position_reads
use Rattle.registers.proofs.record.Registers.cursor_on.Kinds as cursor_on_kinds
use Rattle.registers.proofs.record.Registers.cursor_on.Reads as cursor_on_reads
use Rattle.registers.proofs.record.Registers.setting.Kinds as setting_kinds
use Rattle.registers.proofs.record.Registers.setting.Reads as setting_reads
use Rattle.registers.proofs.record.Registers.stereo.Kinds as stereo_kinds
use Rattle.registers.proofs.record.Registers.stereo.Reads as stereo_reads
use Rattle.registers.proofs.record.Registers.sound_frequency.Kinds as sound_frequency_kinds
use Rattle.registers.proofs.record.Registers.sound_frequency.Reads as sound_frequency_reads
use Rattle.registers.proofs.record.Registers.load_word.Kinds as load_word_kinds
use Rattle.registers.proofs.record.Registers.load_word.Reads as load_word_reads
use Rattle.registers.proofs.record.Registers.load_and_check.Kinds as load_and_check_kinds
use Rattle.registers.proofs.record.Registers.load_and_check.Reads as load_and_check_reads
use Rattle.registers.proofs.record.Registers.load_and_check_sound.Kinds as load_and_check_sound_kinds
use Rattle.registers.proofs.record.Registers.load_and_check_sound.Reads as load_and_check_sound_reads
use Rattle.registers.proofs.record.Registers.check_sound.Kinds as check_sound_kinds
use Rattle.registers.proofs.record.Registers.check_sound.Reads as check_sound_reads

pub one_pixels : OneAnswer 0 pixels_kinds.ps pixels_kinds.r pixels_reads.Post
one_pixels κs a x y s t p q = p ∙ sym q

pub one_width_from : OneAnswer 0 width_from_kinds.ps width_from_kinds.r width_from_reads.Post
one_width_from κs a x y s t p q = λ i. record { 0 = (p ∙ sym q) i }

pub one_height_from : OneAnswer 0 height_from_kinds.ps height_from_kinds.r height_from_reads.Post
one_height_from κs a x y s t p q = λ i. record { 0 = (p ∙ sym q) i }

pub one_of_value : OneAnswer 0 of_value_kinds.ps of_value_kinds.r of_value_reads.Post
one_of_value κs a x y s t p q = p ∙ sym q

pub one_is_reserved : OneAnswer 0 is_reserved_kinds.ps is_reserved_kinds.r is_reserved_reads.Post
one_is_reserved κs a x y s t p q = p ∙ sym q

pub one_addresses : OneAnswer 0 addresses_kinds.ps addresses_kinds.r addresses_reads.Post
one_addresses κs a x y s t p q = p ∙ sym q

pub one_of_slots : OneAnswer 0 of_slots_kinds.ps of_slots_kinds.r of_slots_reads.Post
one_of_slots κs a x y s t p q = p ∙ sym q

pub one_new : OneAnswer 0 new_kinds.ps new_kinds.r new_reads.Post
one_new κs a x y s t p q = p ∙ sym q

pub one_store : OneAnswer 0 store_kinds.ps store_kinds.r store_reads.Post
one_store κs a x y s t p q = p ∙ sym q

pub one_palette : OneAnswer 0 palette_kinds.ps palette_kinds.r palette_reads.Post
one_palette κs a x y s t p q = p ∙ sym q

pub one_border : OneAnswer 0 border_kinds.ps border_kinds.r border_reads.Post
one_border κs a x y s t p q = p ∙ sym q

pub one_cursor_colour : OneAnswer 0 cursor_colour_kinds.ps cursor_colour_kinds.r cursor_colour_reads.Post
one_cursor_colour κs a x y s t p q = p ∙ sym q

pub one_display_on : OneAnswer 0 display_on_kinds.ps display_on_kinds.r display_on_reads.Post
one_display_on κs a x y s t p q = p ∙ sym q

pub one_border_on : OneAnswer 0 border_on_kinds.ps border_on_kinds.r border_on_reads.Post
one_border_on κs a x y s t p q = p ∙ sym q

pub one_video_words : OneAnswer 0 video_words_kinds.ps video_words_kinds.r video_words_reads.Post
one_video_words κs a x y s t p q = p ∙ sym q

pub one_cursor_words : OneAnswer 0 cursor_words_kinds.ps cursor_words_kinds.r cursor_words_reads.Post
one_cursor_words κs a x y s t p q = p ∙ sym q

pub one_control : OneAnswer 0 control_kinds.ps control_kinds.r control_reads.Post
one_control κs a x y s t p q = p ∙ sym q

pub one_pixel_rate : OneAnswer 0 pixel_rate_kinds.ps pixel_rate_kinds.r pixel_rate_reads.Post
one_pixel_rate κs a x y s t p q = p ∙ sym q

pub one_entries_in_use : OneAnswer 0 entries_in_use_kinds.ps entries_in_use_kinds.r entries_in_use_reads.Post
one_entries_in_use κs a x y s t p q = p ∙ sym q

pub one_sub_position : OneAnswer 0 sub_position_kinds.ps sub_position_kinds.r sub_position_reads.Post
one_sub_position κs a x y s t p q = p ∙ sym q

pub one_cursor_on : OneAnswer 0 cursor_on_kinds.ps cursor_on_kinds.r cursor_on_reads.Post
one_cursor_on κs a x y s t p q = p ∙ sym q

pub one_setting : OneAnswer 0 setting_kinds.ps setting_kinds.r setting_reads.Post
one_setting κs a x y s t p q = p ∙ sym q

pub one_stereo : OneAnswer 0 stereo_kinds.ps stereo_kinds.r stereo_reads.Post
one_stereo κs a x y s t p q = p ∙ sym q

pub one_sound_frequency : OneAnswer 0 sound_frequency_kinds.ps sound_frequency_kinds.r sound_frequency_reads.Post
one_sound_frequency κs a x y s t p q = p ∙ sym q

pub one_load_word : OneState 1 load_word_kinds.ps load_word_kinds.r (λ κs s. s.0.now) load_word_reads.Post
one_load_word κs a x y s t p q = (same_told x y (p.0 ∙ sym q.0), p.1 ∙ sym q.1)

pub one_load_and_check : OneState 2 load_and_check_kinds.ps load_and_check_kinds.r (λ κs s. s.0.now) load_and_check_reads.Post
one_load_and_check κs a x y s t p q = (same_told x y (p.0 ∙ sym q.0), p.1 ∙ sym q.1)

pub one_load_and_check_sound : OneState 2 load_and_check_sound_kinds.ps load_and_check_sound_kinds.r (λ κs s. s.0.now) load_and_check_sound_reads.Post
one_load_and_check_sound κs a x y s t p q = (same_told x y (p.0 ∙ sym q.0), p.1 ∙ sym q.1)

pub one_check_sound : OneAnswer 0 check_sound_kinds.ps check_sound_kinds.r check_sound_reads.Post
one_check_sound κs a x y s t p q = same_told x y (p ∙ sym q)
