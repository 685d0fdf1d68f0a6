-- A refused sound has no block; any other's are those of its words.
use mathlib.Core.Path.{sym}
use borrow.Author.Rules.{rules}
use Rattle.buffers.proofs.Puts.{put_nothing}
use Rattle.outputs.proofs.Waves.{block_refused, block_given}
use Rattle.outputs.proofs.blocks.block.Goals as goal

pub wave_block-requires : goal.wave_block-requires
wave_block-requires c = (search rules, sym c.in-Ok.ensures)

pub returns-in-Ok : goal.returns-in-Ok
returns-in-Ok c =
    let a = c.args in
    rw (block_given a.g a.words.now a.k c.in-Ok.ensures) c.wave_block.ensures

pub returns-in-Err : goal.returns-in-Err
returns-in-Err c =
    let a = c.args in
    rw (block_refused a.g a.words.now a.k _ c.in-Err.ensures) (put_nothing _)
