-- What the crates above know of an accepted setting: each field of `Accepted` is one of the rules, or a bound that its bits give.
use Prim.Native.Nat.{ℕ, zero, suc, ◌*◌, ◌-◌, ◌/◌, ◌<◌, ◌≤◌}
use mathlib.Core.Path.{◌≡◌, refl}
use mathlib.Core.Bool.{true, false}
use mathlib.Core.List.{[], ◌∷◌}
use mathlib.Core.Logic.{◌⊎◌, inl, inr}
use native.Mathlib.Omega.{arith}
use lib.ListN.{get_or}
use borrow.Author.Tests.{ltb-true}
use Rattle.refusals.specs.Table.{given}
use Rattle.registers.specs.Control.{depth_choice}
use Rattle.registers.specs.Setting.{setting_of, display_on, border_on, video_words, cursor_words}
use Rattle.registers.specs.Check.{check_told}
use Rattle.registers.specs.Rules.{Displayed, Bordered, Vertical, EveryRule}
use Rattle.registers.specs.inner.Accepted.{Depth, Accepted}
use Rattle.registers.specs.declared.record.Registers.{Registers}
use Rattle.registers.specs.declared.setting.Setting.{Setting}
use Rattle.registers.proofs.Exactly.{every_rule, accepted_setting}

choice : (k : ℕ) → k < 4 → Depth (get_or (1 ∷ 2 ∷ 4 ∷ 8 ∷ []) k 0)
choice zero h = inl refl
choice (suc zero) h = inr (inl refl)
choice (suc (suc zero)) h = inr (inr (inl refl))
choice (suc (suc (suc zero))) h = inr (inr (inr refl))
choice (suc (suc (suc (suc k)))) h = absurd (omega arith)

module _ (s : Setting) where
  displayed : Vertical s → display_on s ≡ true → Displayed s
  displayed v e = go v.1
    where
      go : Displayed s ⊎ ((s.vde.0 ≤ s.vds.0) × ((s.vbe.0 ≤ s.vbs.0) ⊎ Bordered s)) → Displayed s
      go (inl d) = d
      go (inr o) = let h : s.vds.0 < s.vde.0 = ltb-true _ _ e in absurd (omega arith)

  bordered : Vertical s → border_on s ≡ true → (s.vs.0 ≤ s.vbs.0) × (s.vbe.0 ≤ s.v.0)
  bordered v e = go v.1
    where
      go : Displayed s ⊎ ((s.vde.0 ≤ s.vds.0) × ((s.vbe.0 ≤ s.vbs.0) ⊎ Bordered s)) → (s.vs.0 ≤ s.vbs.0) × (s.vbe.0 ≤ s.v.0)
      go (inl d) = (d.vs_vbs, d.vbe_v)
      go (inr (o, inl b)) = let h : s.vbs.0 < s.vbe.0 = ltb-true _ _ e in absurd (omega arith)
      go (inr (o, inr b)) = (b.vs_vbs, b.vbe_v)

module _ (g : Registers) where
  accepts : EveryRule g → Accepted (setting_of g)
  unfolding setting_of
  accepts h =
      record {
        hs_bs = h.horizontal.hs_bs;
        bs_ds = h.horizontal.bs_ds;
        ds_de = h.horizontal.ds_de;
        de_be = h.horizontal.de_be;
        be_n = h.horizontal.be_n;
        n_most = omega arith;
        v_most = omega arith;
        v_least = omega arith;
        vde_most = omega arith;
        vce_most = omega arith;
        cx_most = omega arith;
        depth = choice (depth_choice g) (omega arith);
        whole = h.width;
        vs_v = h.vertical.0;
        display = displayed (setting_of g) h.vertical;
        border = bordered (setting_of g) h.vertical;
        cursor = λ on. (h.cursor on).1;
      }

  pub accepted : (s : Setting) → check_told g ≡ given s → Accepted s
  accepted s e = rw (accepted_setting g s e) (accepts (every_rule g s e))

-- The video words of an accepted setting: those of one raster for each displayed raster.
module _ (s : Setting) where
  pub video_off : display_on s ≡ false → video_words s ≡ 0
  unfolding video_words
  video_off e = rw e

  pub video_on : display_on s ≡ true → video_words s ≡ (s.de.0 - s.ds.0) * (s.vde.0 - s.vds.0) * s.depth / 32
  unfolding video_words
  video_on e = rw e

  pub cursor_off : s.cursor ≡ false → cursor_words s ≡ 0
  unfolding cursor_words
  cursor_off e = rw e

  pub cursor_words_holds : s.cursor ≡ true → cursor_words s ≡ 2 * (s.vce.0 - s.vcs.0)
  unfolding cursor_words
  cursor_words_holds e = rw e
