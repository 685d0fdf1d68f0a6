-- What is known of a judged picture, as the functions of the crates above ask it of each other; no public promise reaches this.
use Rattle.std.specs.Prelude.{ℕ, List, ◌≡◌, length}
use Rattle.registers.specs.inner.Accepted.{Accepted}
use Rattle.registers.specs.Setting.{video_words, cursor_words}
use Rattle.registers.specs.declared.setting.Setting.{Setting}

-- An accepted setting, with as many words as its frame needs.
pub record Picture (s : Setting) (video cursor : List ℕ) : Type 0 where
  pub accepted : Accepted s
  pub video_words : length video ≡ video_words s
  pub cursor_words : length cursor ≡ cursor_words s
