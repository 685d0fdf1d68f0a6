-- The two calls from the judged picture on: the picture's table with the rows behind it is the call's own, and what is given is painted.
use Prim.Native.Nat.{ℕ, ◌*◌, ◌≤◌, ◌<◌}
use mathlib.Core.Path.{◌≡◌, sym, ◌∙◌}
use mathlib.Core.List.{List, [], ◌∷◌}
use native.Mathlib.Nat.{mul-le-mul}
use borrow.Author.Tests.{le-ltb, lt-leb}
use lib.Dec.{ltb, leb}
use lib.ListN.{length}
use Rattle.buffers.specs.Painted.{painted}
use Rattle.refusals.specs.Table.{given, row, judged, and_then}
use Rattle.refusals.proofs.Tables.{and_then_judged}
use Rattle.registers.specs.Setting.{setting_of}
use Rattle.registers.specs.declared.record.Registers.{Registers}
use Rattle.registers.specs.declared.setting.Setting.{Setting}
use Rattle.registers.specs.inner.Accepted.{Accepted}
use Rattle.cells.specs.Picture.{picture_table, picture_told}
use Rattle.cells.proofs.Pictures.{picture_told_holds, picture_setting}
use Rattle.frame.specs.Frame.{cells, frame_cell, frame_told, frame_leaves, raster_cell, raster_told, raster_leaves}
use Rattle.frame.proofs.Told.{frame_told_holds, raster_told_holds}

-- An accepted setting's frame has at most 2048 by 1024 cells.
pub cells_most : (s : Setting) → Accepted s → cells s ≤ 2048 * 1024
cells_most s a = mul-le-mul {n₂ = 2048} {m₂ = 1024} a.n_most a.v_most

module _ (g : Registers) (video cursor o : List ℕ) where
  -- First what the picture tells, then 13.
  pub frame_then : frame_told g video cursor (length o)
      ≡ and_then (picture_told g video cursor) (λ s. judged (row 13 (ltb (length o) (cells s)) 0 ∷ []) tt)
  frame_then =
      rw (picture_told_holds g video cursor)
      (frame_told_holds g video cursor (length o)
      ∙ sym (and_then_judged (setting_of g) (picture_table g video cursor) (λ s. row 13 (ltb (length o) (cells s)) 0 ∷ []) (λ s. tt)))

  module _ (s : Setting) (e : picture_told g video cursor ≡ given s) where
    pub frame_given : cells s ≤ length o → frame_told g video cursor (length o) ≡ given tt
    frame_given h = rw (frame_then, e, le-ltb (length o) (cells s) h)

    -- What the lent cells hold of a frame that is not refused.
    pub frame_held : cells s ≤ length o → frame_leaves g video cursor o ≡ painted o 0 (cells s) (frame_cell g s video cursor)
    unfolding frame_leaves
    frame_held h = rw (frame_given h, ← picture_setting g video cursor s e)

    -- Cells so painted are what the call tells and leaves.
    pub frame_painted : (p : List ℕ) → cells s ≤ length o → p ≡ painted o 0 (cells s) (frame_cell g s video cursor)
        → (given tt ≡ frame_told g video cursor (length o)) × (p ≡ frame_leaves g video cursor o)
    frame_painted p h q = (sym (frame_given h), rw (frame_held h) q)

  module _ (y : ℕ) where
    -- First what the picture tells, then 12 and 13.
    pub raster_then : raster_told g video cursor y (length o)
        ≡ and_then (picture_told g video cursor) (λ s. judged (row 12 (leb s.v.0 y) 0 ∷ row 13 (ltb (length o) s.n.0) 0 ∷ []) tt)
    raster_then =
        rw (picture_told_holds g video cursor)
        (raster_told_holds g video cursor y (length o)
        ∙ sym (and_then_judged (setting_of g) (picture_table g video cursor)
        (λ s. row 12 (leb s.v.0 y) 0 ∷ row 13 (ltb (length o) s.n.0) 0 ∷ []) (λ s. tt)))

    module _ (s : Setting) (e : picture_told g video cursor ≡ given s) (here : y < s.v.0) where
      pub raster_given : s.n.0 ≤ length o → raster_told g video cursor y (length o) ≡ given tt
      raster_given h = rw (raster_then, e, lt-leb s.v.0 y here, le-ltb (length o) s.n.0 h)

      -- What the lent cells hold of a raster that is not refused.
      pub raster_held : s.n.0 ≤ length o → raster_leaves g video cursor y o ≡ painted o 0 s.n.0 (raster_cell g s video cursor y)
      unfolding raster_leaves
      raster_held h = rw (raster_given h, ← picture_setting g video cursor s e)
