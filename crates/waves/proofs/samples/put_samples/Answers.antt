-- Two bytes a value, a value a turn: what is stored and what the rest will store make the whole.
use mir.Syntax.{w16}
use mir.Val.{SFits}
use mir.Facts.{to_z-of_z}
use lib.IntN.{pos}
use lib.ListN.{get_or}
use mathlib.Core.List.{[], ◌∷◌}
use mathlib.Core.Path.{sym, ◌∙◌}
use native.Mathlib.Omega.{arith}
use borrow.Author.Rules.{rules}
use Rattle.buffers.proofs.Sets.{sets_range}
use Rattle.waves.specs.Samples.{samples_of}
use Rattle.waves.proofs.Stored.{bytes_of_value, length_samples, samples_turn, samples_done}
use Rattle.waves.proofs.samples.put_samples.Goals as goal

pub loop-k-preserved : goal.loop-k-preserved
loop-k-preserved c =
    let l = c.loop-k in
    let v = get_or c.args.values.now l.k (pos 0) in
    let f : SFits w16 v = search rules in
    let n = length_samples (v ∷ []) in
    l.invariant
    ∙ samples_turn l.out _ c.args.values.now l.k c.loop-k-test.true
    (sets_range l.out (samples_of (v ∷ [])) _ _ (omega (arith, n)) (omega (arith, n))
    (c.copy_from_slice.ensures.after ∙ c.to_le_bytes.ensures ∙ rw (to_z-of_z f) (bytes_of_value v f)))

pub returns : goal.returns
returns c = sym (c.loop-k.invariant ∙ samples_done c.loop-k.out c.args.values.now _ c.loop-k.k c.loop-k-test.false)
