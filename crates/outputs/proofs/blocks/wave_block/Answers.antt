-- Block 0 is the head, for which there is room, and any other a block of samples.
use lib.ListN.{length}
use native.Mathlib.Omega.{arith}
use Rattle.buffers.proofs.Puts.{text_fits}
use Rattle.registers.specs.Stereo.{frequency_of}
use Rattle.waves.specs.Head.{wave_head}
use Rattle.waves.proofs.Heads.{length_head}
use Rattle.outputs.proofs.Waves.{file_head, file_block}
use Rattle.outputs.proofs.blocks.wave_block.Goals as goal

pub returns-then-k-eq0 : goal.returns-then-k-eq0
returns-then-k-eq0 c =
    let if1 = c.if-k-eq0 in
    let sound_frequency = c.sound_frequency in
    let head = c.head in
    let words = length c.args.words.now in
    rw (
      file_head c.args.g c.args.words.now c.args.k if1.true,
      ← text_fits (length c.args.out.now) (wave_head (frequency_of c.args.g) words)
          (omega (arith, length_head (frequency_of c.args.g) words)),
      ← sound_frequency.ensures,
    )
    head.ensures

pub returns : goal.returns
returns c =
    let a = c.args in
    rw (file_block a.g a.words.now a.k c.if-k-eq0.false) c.sound_block.ensures
