-- The words' values are played into memory of their own, which is long enough for a block, and taken from its front.
use mathlib.Core.Path.{◌∙◌, refl}
use native.Mathlib.Omega.{arith}
use lib.ListN.{length, replicate}
use lib.IntN.{pos}
use Rattle.std.specs.Prelude.{Ok}
use Rattle.refusals.proofs.Told.{same_told}
use Rattle.sound.proofs.Parts.{playing}
use Rattle.outputs.proofs.Waves.{samples_put}
use Rattle.outputs.proofs.blocks.put_played.Goals as goal

pub unwrap-requires : goal.unwrap-requires
unwrap-requires c =
    let few = c.requires.1 in
    rw (same_told _ (Ok tt) (c.play.ensures.told ∙ playing c.args.g (length c.args.words.now) 2048 c.requires.2 (omega (arith, few)))) refl

pub returns : goal.returns
returns c =
    let few = c.requires.1 in
    samples_put c.args.g c.args.words.now c.args.counter (replicate 2048 (pos 0)) _ c.requires.2 c.play.ensures.left (omega (arith, few))
    (length c.args.out.now) (omega (arith, c.requires.0, few)) c.samples.ensures
