-- A byte's value is its signed amplitude times sixths, and fits 16 bits.
use Rattle.sound.proofs.Signed.{product_fits, product_is}
use Rattle.std.proofs.Common.{rules}
use Rattle.sound.proofs.amplitude.value.Goals as goal

pub overflow_mul-result : goal.overflow_mul-result
overflow_mul-result c = rw c.from.ensures (product_fits c.args.byte (search rules) c.args.sixths c.requires _ c.signed.ensures)

pub returns : goal.returns
returns c = rw c.from.ensures (product_is c.args.byte (search rules) c.args.sixths c.requires _ c.signed.ensures)
