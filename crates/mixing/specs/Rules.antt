-- When mixing is not refused, and when it is with 20, in plain words.
use Rattle.std.specs.Prelude.{ℕ, ◌<◌, ◌≤◌, List, length, get_or}
use Rattle.registers.specs.Rules.{EveryRule}
use Rattle.registers.specs.Setting.{setting_of}
use Rattle.registers.specs.declared.record.Registers.{Registers}

-- The setting is accepted, and both lists and the lent answer have N places.
pub record Judged (g : Registers) (cells camera : List ℕ) (room : ℕ) : Type 0 where
  pub setting : EveryRule g
  pub cells_long : (setting_of g).n.0 ≤ length cells
  pub camera_long : (setting_of g).n.0 ≤ length camera
  pub answer_long : (setting_of g).n.0 ≤ room

-- Then it is not refused exactly where the camera's first N numbers have 12 bits,
pub record MixRules (g : Registers) (cells camera : List ℕ) (room : ℕ) : Type 0 where
  pub judged : Judged g cells camera room
  pub colours : (x : ℕ) → x < (setting_of g).n.0 → get_or camera x 0 ≤ 4095

-- and refused with 20 and an index exactly where that is the first of them that has more.
pub record TooLargeAt (g : Registers) (cells camera : List ℕ) (room index : ℕ) : Type 0 where
  pub judged : Judged g cells camera room
  pub inside : index < (setting_of g).n.0
  pub above : 4095 < get_or camera index 0
  pub first : (x : ℕ) → x < index → get_or camera x 0 ≤ 4095
