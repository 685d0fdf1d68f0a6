-- What is known of a picture that is given: its marks, its raster's cells in lent memory, and that its words are few.
use Prim.Native.Nat.{ℕ, ◌<◌, ◌≤◌}
use mathlib.Core.Path.{◌≡◌, ◌∙◌, ap}
use mathlib.Core.List.{List}
use native.Mathlib.Omega.{arith}
use lib.ListN.{length, take}
use Rattle.std.specs.Prelude.{Result, Ok}
use Rattle.buffers.specs.Values.{values_from}
use Rattle.buffers.proofs.Values.{length_values, painted_values}
use Rattle.refusals.specs.Table.{given}
use Rattle.refusals.specs.Refusals.{says}
use Rattle.refusals.specs.declared.Refusal.{Refusal}
use Rattle.refusals.proofs.Told.{same_told}
use Rattle.registers.specs.inner.Accepted.{Accepted}
use Rattle.registers.specs.declared.record.Registers.{Registers}
use Rattle.registers.specs.declared.setting.Setting.{Setting}
use Rattle.registers.proofs.Words.{video_most}
use Rattle.cells.specs.Picture.{picture_told}
use Rattle.cells.specs.inner.Known.{Picture}
use Rattle.cells.proofs.Pictures.{given_picture}
use Rattle.frame.specs.Frame.{raster_cell, raster_leaves}
use Rattle.frame.proofs.Calls.{raster_held}
use Rattle.marks.specs.Marks.{marks_of, marks_told}
use Rattle.marks.proofs.Answers.{marks_counted}

module _ (g : Registers) (video cursor : List ℕ) (s : Setting) (e : picture_told g video cursor ≡ given s) where
  known : Picture s video cursor
  known = given_picture g video cursor s e

  pub picture_accepted : Accepted s
  picture_accepted = known.accepted

  pub marks_given : (threshold : ℕ) → marks_told g video cursor threshold ≡ given (marks_of g s video cursor threshold)
  marks_given threshold = marks_counted g video cursor threshold s e

  pub few_video : length video ≤ 524288
  few_video = omega (arith, known.video_words, video_most s picture_accepted)

  -- the cells of a raster, as they stand in lent memory
  pub raster_values : (y : ℕ) (o cells : List ℕ) → y < s.v.0 → s.n.0 ≤ length o → cells ≡ raster_leaves g video cursor y o
      → take s.n.0 cells ≡ values_from (raster_cell g s video cursor y) 0 s.n.0
  raster_values y o cells a b h =
      ap (take s.n.0) (h ∙ raster_held g video cursor o y s e a b)
      ∙ painted_values o s.n.0 (raster_cell g s video cursor y) b

  -- and how many they are
  pub some_cells : {cells : List ℕ} (y : ℕ) → cells ≡ values_from (raster_cell g s video cursor y) 0 s.n.0 → (1 ≤ length cells) × (length cells ≤ 2048)
  some_cells y h =
      let a = picture_accepted in
      let n = ap length h ∙ length_values (raster_cell g s video cursor y) 0 s.n.0 in
      (omega (arith, n, a.be_n, a.de_be, a.ds_de), omega (arith, n, a.n_most))

  module _ (threshold : ℕ) (x : Result ℕ Refusal) (h : says x ≡ marks_told g video cursor threshold) where
    pub marks_are : x ≡ Ok (marks_of g s video cursor threshold)
    marks_are = same_told x (Ok (marks_of g s video cursor threshold)) (h ∙ marks_given threshold)

    pub marks_value : (m : ℕ) → x ≡ Ok m → m ≡ marks_of g s video cursor threshold
    marks_value m q = let are = marks_are in cc
