-- The amplitude negated by the sign bit: both fit 16 bits.
use Rattle.sound.proofs.Signed.{amplitude_fits, neg_fits, negative, positive}
use Rattle.std.proofs.Common.{rules}
use Rattle.sound.proofs.amplitude.signed.Goals as goal

pub overflow_cast-a : goal.overflow_cast-a
overflow_cast-a c = rw c.amplitude-a.ensures (amplitude_fits _ (search rules))

pub overflow_sub-result : goal.overflow_sub-result
overflow_sub-result c = neg_fits _ (search rules) _ c.amplitude-a.ensures

pub returns-then-byte-eq1 : goal.returns-then-byte-eq1
returns-then-byte-eq1 c = negative c.args.byte (search rules) _ c.amplitude-a.ensures c.if-byte-eq1.true

pub returns : goal.returns
returns c = positive c.args.byte (search rules) _ c.amplitude-a.ensures c.if-byte-eq1.false
