-- What each call tells is its table judged, as it is defined.
use Rattle.std.proofs.Common.{◌≡◌, ℕ, ◌%◌, refl}
use Rattle.refusals.specs.Table.{judged}
use Rattle.registers.specs.declared.record.Registers.{Registers}
use Rattle.sound.specs.Play.{play_table, play_told}
use Rattle.sound.specs.Pair.{sides_of, pair_table, pair_told}

pub play_told_holds : (g : Registers) (words places : ℕ) → play_told g words places ≡ judged (play_table g words places) tt
unfolding play_told
play_told_holds g words places = refl

pub pair_told_holds : (byte stereo : ℕ) → pair_told byte stereo ≡ judged (pair_table stereo) (sides_of byte (stereo % 8))
unfolding pair_told
pair_told_holds byte stereo = refl
