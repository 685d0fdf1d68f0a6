-- Each entry is the grey of what the palette's entry shows.
use Rattle.std.proofs.Common.{arith}
use Rattle.std.proofs.lemmas.Grind.{common_steps}
use Rattle.colours.proofs.Sixteen.{entry_of}
use Rattle.marks.proofs.Tabled.{apart_grey}
use Rattle.marks.proofs.tables.greys_of.Goals as goal

pub returns : goal.returns
returns c =
    record {
      len = c.table_of.ensures.len;
      on = λ k h.
          let t = c.table_of.ensures.each k h in
          let e = entry_of c.args.g _ k c.entries-palette.ensures in
          grind (arith, common_steps, apart_grey);
    }
