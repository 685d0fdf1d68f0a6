-- A word's four bytes, lowest first.
use mathlib.Core.Path.{◌∙◌}
use Rattle.buffers.specs.Words.{bytes_of}
use Rattle.buffers.proofs.Sets.{sets_range}
use native.Mathlib.Omega.{arith}
use Rattle.buffers.proofs.put_word.Goals as goal

pub returns : goal.returns
unfolding bytes_of
returns c = sets_range c.args.out.now _ c.args.at _ c.requires (omega arith) (c.copy_from_slice.ensures.after ∙ c.to_le_bytes.ensures)
