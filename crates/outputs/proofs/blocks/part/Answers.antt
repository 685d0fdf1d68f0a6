-- A block begins where the ones before it end, and has the words from there on, or the first 256 of them.
use Prim.Native.Nat.{◌-◌, ◌*◌}
use mathlib.Core.Path.{◌≡◌}
use native.Mathlib.Omega.{arith}
use lib.ListN.{length, take, drop, length-drop}
use lib.Seq.{take_all}
use Rattle.std.proofs.lemmas.List.{take_min}
use Rattle.outputs.proofs.blocks.part.Goals as goal

pub returns : goal.returns
returns c =
    let words = c.args.words.now in
    let rest = drop (256 * c.args.k) words in
    let n : length rest ≡ length words - 256 * c.args.k = length-drop _ words in
    let whole : take (length words - 256 * c.args.k) rest ≡ rest = take_all _ rest (omega (arith, n)) in
    (omega (arith, c.if-div_ceil-k.false, c.div_ceil.ensures), rw (c.min.ensures, whole) (take_min 256 rest))
