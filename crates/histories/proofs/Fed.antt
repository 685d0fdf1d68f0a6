-- Where the words loaded are a frame's own in order, then filler, the bytes given are byte for byte those of the frame, in its order.
use Prim.Native.Nat.{ℕ, ◌*◌, ◌/◌, ◌%◌, ◌^◌, ◌<◌, ◌≤◌}
use mathlib.Core.List.{List, ◌++◌}
use mathlib.Core.Path.{◌≡◌, sym, ◌∙◌, ap}
use native.Mathlib.Omega.{arith}
use lib.ListN.{length, get_or, take, drop, length-take, take-append-drop, get_or-append}
use lib.Seq.{take-append-le, get_or-take}
use Rattle.buffers.specs.Words.{bytes_of, byte_of, Below}
use Rattle.buffers.proofs.Words.{length_bytes, bytes_append, bytes_at, below_take}
use Rattle.registers.specs.inner.Accepted.{Depth}
use Rattle.queues.specs.declared.Queue.{Queue}
use Rattle.cells.specs.Pixel.{pixel}
use Rattle.histories.specs.Calls.{QueueCall}
use Rattle.histories.specs.Since.{loaded_by, given_by}
use Rattle.histories.specs.Live.{Fed, byte_used, pixel_read, words_read}
use Rattle.histories.proofs.Bytes.{pixel_at, below_bytes, pixel_words_read}
use Rattle.histories.proofs.Order.{fresh_in_order}

module _ (q : Queue) (long : length q.words ≡ 8) (cs : List QueueCall) (frame : List ℕ) (fed : Fed frame q cs) where
  pub bytes_read : given_by q cs ≡ take (length (given_by q cs)) (bytes_of (frame ++ fed.filler))
  bytes_read =
      let n = length (given_by q cs) in
      let all = frame ++ fed.filler in
      let rest = drop (length (loaded_by q cs)) all in
      let first = fresh_in_order q long cs fed.since in
      let enough : n ≤ length (bytes_of (loaded_by q cs)) = omega (arith, ap length first, length-take n (bytes_of (loaded_by q cs))) in
      let whole : all ≡ loaded_by q cs ++ rest =
      sym (take-append-drop (length (loaded_by q cs)) all) ∙ ap (λ (l : List ℕ). l ++ rest) (sym fed.own) in
      first
      ∙ sym (take-append-le n (bytes_of (loaded_by q cs)) (bytes_of rest) enough)
      ∙ ap (take n) (sym (ap bytes_of whole ∙ bytes_append (loaded_by q cs) rest))

  pub byte_read : (k : ℕ) → k < length (given_by q cs) → k < 4 * length frame → get_or (given_by q cs) k 0 ≡ byte_of frame k
  byte_read k h own =
      let n = length (given_by q cs) in
      ap (λ (l : List ℕ). get_or l k 0) (bytes_read ∙ ap (take n) (bytes_append frame fed.filler))
      ∙ get_or-take n (bytes_of frame ++ bytes_of fed.filler) k 0 h
      ∙ get_or-append (bytes_of frame) (bytes_of fed.filler) 0 k (omega (arith, length_bytes frame))
      ∙ bytes_at frame k own

  -- Each pixel whose byte was read, once over the depth.
  module _ (d i : ℕ) (depth : Depth d) (h : byte_used d i < length (given_by q cs)) (own : byte_used d i < 4 * length frame) where
    pub pixel_read_holds : pixel frame d i ≡ pixel_read (given_by q cs) d i
    pixel_read_holds = pixel_at frame d i depth ∙ ap (λ n. n / 2 ^ (i * d % 8) % 2 ^ d) (sym (byte_read (byte_used d i) h own))

    pub pixel_in_words : pixel (words_read (given_by q cs)) d i ≡ pixel frame d i
    pixel_in_words =
        let all = frame ++ fed.filler in
        let small : Below 256 (given_by q cs) =
        rw bytes_read (below_take 256 (length (given_by q cs)) (bytes_of all) (omega arith) (below_bytes all)) in
        pixel_words_read (given_by q cs) d i depth small h ∙ sym pixel_read_holds
