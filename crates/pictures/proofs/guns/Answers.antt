-- All bytes are stored where they fit, else none.
use Rattle.pictures.proofs.Stored.{length_guns}
use Rattle.buffers.proofs.Puts.{put_nothing, put_text, text_short}
use native.Mathlib.Omega.{arith}
use lib.ListN.{length}
use Rattle.pictures.specs.Colours.{guns_of}
use Rattle.pictures.proofs.guns.Goals as goal

pub returns-then-out-cells : goal.returns-then-out-cells
returns-then-out-cells c =
    let args = c.args in
    rw (text_short (length args.out.now) (guns_of args.cells.now) (omega (arith, length_guns args.cells.now))) (put_nothing _)

pub returns : goal.returns
returns c =
    let args = c.args in
    put_text args.out.now _ (guns_of args.cells.now) _ (omega (arith, length_guns args.cells.now)) (omega arith)
    c.put_cells.ensures
