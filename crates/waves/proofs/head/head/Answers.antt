-- The head is stored where it fits, else nothing.
use Prim.Native.Nat.{◌-◌}
use mathlib.Core.Path.{◌≡◌, ap, ◌∙◌}
use native.Mathlib.Omega.{arith}
use lib.ListN.{length}
use lib.Seq.{sets}
use Rattle.buffers.specs.Put.{text_in}
use Rattle.buffers.specs.Words.{bytes_of}
use Rattle.buffers.proofs.Puts.{put_nothing, put_text, text_short}
use Rattle.buffers.proofs.Turns.{bytes_fit}
use Rattle.waves.specs.Head.{wave_head}
use Rattle.waves.proofs.Heads.{length_head, head_bytes}
use Rattle.waves.proofs.head.head.Goals as goal

pub returns-then-out-lt44 : goal.returns-then-out-lt44
returns-then-out-lt44 c =
    let args = c.args in
    let n = length_head args.frequency args.words in
    rw (text_short (length args.out.now) (wave_head args.frequency args.words) (omega (arith, n))) (put_nothing _)

pub returns : goal.returns
returns c =
    let args = c.args in
    let parts = c.head_words-parts in
    let stored : text_in (length args.out.now - 0) (bytes_of parts.result) ≡ wave_head args.frequency args.words =
    bytes_fit parts.result (length args.out.now - 0) (omega arith) ∙ head_bytes parts.result args.frequency args.words parts.ensures in
    put_text args.out.now _ (wave_head args.frequency args.words) _ (omega (arith, length_head args.frequency args.words)) (omega arith)
    (c.put_words.ensures ∙ ap (sets args.out.now 0) stored)
