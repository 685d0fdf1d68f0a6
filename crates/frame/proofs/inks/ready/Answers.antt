-- The table of bytes: at depth 8 the display cells themselves, else what is made of them.
use Rattle.std.proofs.Common.{arith}
use Rattle.frame.proofs.Ready.{bytes_eight, bytes_right}
use Rattle.frame.proofs.Words.{depth_few}
use Rattle.frame.proofs.inks.ready.Goals as goal

pub returns-then-depth-eq8 : goal.returns-then-depth-eq8
returns-then-depth-eq8 c =
    bytes_eight c.args.g c.args.depth _ _ c.if-depth-eq8.true (omega arith) c.shades.ensures

pub returns : goal.returns
returns c =
    bytes_right c.args.g c.args.depth _ _ _ c.requires (depth_few c.requires c.if-depth-eq8.false) c.shades-2.ensures (omega arith)
    c.bytes.ensures
