-- The lists of a plate file as they lie in its bytes and in lent words: the trailer is in order, so each lies within all words.
use Prim.Native.Nat.{ℕ, ◌*◌, ◌-◌, ◌≤◌}
use mathlib.Core.Path.{◌≡◌}
use mathlib.Core.Bool.{true}
use mathlib.Core.List.{List}
use native.Mathlib.Omega.{arith}
use lib.ListN.{length, take, drop, length-drop}
use lib.Seq.{sets, sets-eq, drop-append-le, take-append-le, length-take-le}
use Rattle.buffers.proofs.Words.{length_words}
use Rattle.plates.specs.Plate.{right, r_of, v_of, c_of, s_of}
use Rattle.plates.specs.Read.{copied}
use Rattle.plates.proofs.Rule.{Ordered}
use Rattle.plates.proofs.Calls.{right_ordered}
use Rattle.sheets.specs.Sheet.{part, register_words, video_list, cursor_list, sound_list}

-- a part of words that were stored from the first place on
part_sets : (o ws : List ℕ) (from to : ℕ) → from ≤ to → to ≤ length ws → length ws ≤ length o → part (sets o 0 ws) from to ≡ part ws from to
part_sets o ws from to a b c =
    rw (sets-eq ws o 0 (omega arith), drop-append-le from ws _ (omega arith))
    (take-append-le (to - from) (drop from ws) _ (rw length-drop (omega arith)))

module _ (file : List ℕ) (is : right file ≡ true) where
  order : Ordered (length file) (r_of file) (v_of file) (c_of file) (s_of file)
  order = right_ordered file is

  pub length_copied : length (copied file) ≡ r_of file
  length_copied = omega (arith, length_words (take (4 * r_of file) file), length-take-le (4 * r_of file) file (omega (arith, order.whole)))

  -- the lists, where all words were stored from the first place of a list on
  module _ (o : List ℕ) (room : r_of file ≤ length o) where
    held : (from to : ℕ) → from ≤ to → to ≤ r_of file → part (sets o 0 (copied file)) from to ≡ part (copied file) from to
    held from to a b = part_sets o (copied file) from to a (omega (arith, length_copied)) (omega (arith, length_copied))

    pub held_registers : part (sets o 0 (copied file)) 0 (r_of file - v_of file) ≡ register_words file
    unfolding register_words
    held_registers = held 0 (r_of file - v_of file) (omega arith) (omega arith)

    pub held_video : part (sets o 0 (copied file)) (r_of file - v_of file) (r_of file - c_of file) ≡ video_list file
    unfolding video_list
    held_video = held (r_of file - v_of file) (r_of file - c_of file) (omega (arith, order.c_v)) (omega arith)

    pub held_cursor : part (sets o 0 (copied file)) (r_of file - c_of file) (r_of file - s_of file) ≡ cursor_list file
    unfolding cursor_list
    held_cursor = held (r_of file - c_of file) (r_of file - s_of file) (omega (arith, order.s_c)) (omega arith)

    pub held_sound : part (sets o 0 (copied file)) (r_of file - s_of file) (r_of file) ≡ sound_list file
    unfolding sound_list
    held_sound = held (r_of file - s_of file) (r_of file) (omega arith) (omega arith)
