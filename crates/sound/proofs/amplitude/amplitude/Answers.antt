-- A byte's amplitude: the shift is the power, and 16 can be taken off.
use Rattle.sound.specs.Amplitude.{amplitude_of}
use Rattle.sound.proofs.Amplitudes.{shifted, shifted_least}
use Rattle.std.proofs.Common.{◌-◌, ap, le_trans, arith, rules}
use Rattle.sound.proofs.amplitude.amplitude.Goals as goal

pub overflow_sub-result : goal.overflow_sub-result
overflow_sub-result c = le_trans (omega arith) (shifted_least _ _ (omega arith) (omega arith))

pub returns : goal.returns
unfolding amplitude_of
returns c = rw c.from-point.ensures (ap (λ n. n - 16) (shifted c.args.byte (search rules)))
