-- A block past the last word is none; any other has the samples of its words.
use mathlib.Core.Path.{ap}
use native.Mathlib.Omega.{arith}
use lib.ListN.{length, length-take}
use Rattle.buffers.proofs.Puts.{put_nothing}
use Rattle.outputs.proofs.Waves.{block_none, block_part}
use Rattle.outputs.proofs.blocks.sound_block.Goals as goal

pub put_played-requires : goal.put_played-requires
put_played-requires c =
    (c.requires.0, omega (arith, simp length-take at (ap length c.in-Some.ensures.1)), c.requires.1)

pub returns-in-Some : goal.returns-in-Some
returns-in-Some c =
    let a = c.args in
    rw (← block_part a.g a.words.now a.k _ c.in-Some.ensures.1) c.put_played.ensures

pub returns-in-None : goal.returns-in-None
returns-in-None c =
    let a = c.args in
    rw (block_none a.g a.words.now a.k c.in-None.ensures) (put_nothing _)
