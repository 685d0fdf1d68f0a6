-- The letters stand over a part of the memory.
use Rattle.buffers.proofs.Sets.{sets_range}
use native.Mathlib.Omega.{arith}
use mathlib.Core.Path.{refl}
use Rattle.outputs.proofs.words.put_bytes.Goals as goal

pub returns : goal.returns
returns c =
    record {
      stored = sets_range c.args.out.now c.args.text.now c.args.at _ c.requires (omega arith) c.copy_from_slice.ensures.after;
      after = refl;
      inside = c.requires;
    }
