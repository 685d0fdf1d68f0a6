-- The marks: bright pixels of the display without those that the cursor covers, which are no more than all.
use Rattle.std.proofs.Common.{arith, ◌≡◌, ◌+◌}
use Rattle.marks.specs.Marks.{marks_of}
use Rattle.marks.proofs.Counted.{counted}
use Rattle.marks.proofs.Masks.{bytes_most}
use Rattle.registers.proofs.Words.{video_most}
use Rattle.marks.proofs.judged.Judged.count.Goals as goal

pub bright_bytes-sums-requires : goal.bright_bytes-sums-requires
bright_bytes-sums-requires c = (c.args.self.now.judged.accepted.depth, c.of-shades.result.few)

pub in_words-requires : goal.in_words-requires
in_words-requires c =
    let p = c.args.self.now.judged in
    (bytes_most _ _ c.of-shades.result.few c.bright_bytes-sums.ensures, omega (arith, video_most c.args.self.now.s p.accepted, p.video_words))

-- The marks and the bright pixels that are covered are all bright pixels.
all : (c : goal.After-covered)
    → marks_of c.args.g c.args.self.now.s c.args.self.now.video.now c.args.self.now.cursor.now c.args.threshold + c.covered.result ≡ c.in_words.result
all c =
    let p = c.args.self.now in
    omega (
      arith,
      c.covered.ensures,
      c.in_words.ensures,
      counted p.s p.judged.accepted c.args.g p.video.now p.cursor.now c.args.threshold _ c.of-shades.ensures.bright _
          c.bright_bytes-sums.ensures p.judged.video_words,
    )

pub overflow_sub-result : goal.overflow_sub-result
overflow_sub-result c = omega (arith, all c)

pub returns : goal.returns
returns c = omega (arith, all c)
