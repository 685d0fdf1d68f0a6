-- For each public call, any two answers that its contract permits are the same, and so are any two states of what it was lent.
use Rattle.std.proofs.Common.{ℕ, List, ℤ, sym, ◌∙◌}
use Rattle.buffers.proofs.Coincide.{OneAnswer, OneState}
use Rattle.refusals.proofs.Told.{same_told}
use Rattle.sound.proofs.pair.Kinds as pair_kinds
use Rattle.sound.proofs.pair.Reads as pair_reads
use Rattle.sound.proofs.play.Kinds as play_kinds
use Rattle.sound.proofs.play.Reads as play_reads

pub one_pair : OneAnswer 0 pair_kinds.ps pair_kinds.r pair_reads.Post
one_pair κs a x y s t p q = same_told x y (p ∙ sym q)

pub one_play : OneState {A = ℕ × List ℤ} 3 play_kinds.ps play_kinds.r (λ κs s. (s.1.1.0.now, s.1.1.1.0.now)) play_reads.Post
one_play κs a x y s t p q =
    let counted = p.1.0 ∙ sym q.1.0 in
    let left = p.1.1 ∙ sym q.1.1 in
    (same_told x y (p.0 ∙ sym q.0), λ i. (counted i, left i))
