-- The words of a raster, of the call's own promise: that stretch of the caller's list, at its place; none where it is undisplayed or refused.
use Prim.Native.Nat.{ℕ, ◌+◌, ◌*◌, ◌-◌, ◌<◌}
use mathlib.Core.Path.{◌≡◌, refl, sym, ◌∙◌, ap}
use mathlib.Core.Bool.{true, false, false≢true}
use mathlib.Core.List.{List, []}
use lib.ListN.{take, drop}
use Rattle.refusals.specs.Table.{Why, Told, given, refused, Passes, First}
use Rattle.registers.specs.Setting.{setting_of}
use Rattle.registers.specs.declared.record.Registers.{Registers}
use Rattle.cells.specs.Pixel.{pixel, logical}
use Rattle.stretch.specs.Stretch.{is_displayed, stretch_of, stretch_table, stretch_told, words_told, start_told}
use Rattle.stretch.specs.declared.found.Stretch.{Stretch}
use Rattle.stretch.proofs.Stretches.{in_rasters, is_displayed_holds, stretch_none, stretch_pixel}
use Rattle.stretch.proofs.Answers.{passes_accepted}
use Rattle.claims.specs.Calls.{Every}
use Rattle.claims.specs.Views as call
use Rattle.claims.specs.Views.{WordsRun}
use Rattle.claims.proofs.Refusals.{stretch_table_holds}

-- Not refused, they are the stretch's, and stand where it does: in the list's own memory, 4 bytes on for each word before them.
pub raster_words_given : Every call.raster_words λ run. Passes (stretch_table run.registers run.video run.raster)
    → (run.words
    ≡ take (stretch_of (setting_of run.registers) run.raster).count (drop (stretch_of (setting_of run.registers) run.raster).start run.video))
    × (run.words_place ≡ (run.video_place.0, run.video_place.1 + 4 * (stretch_of (setting_of run.registers) run.raster).start))
raster_words_given κs a x s p q =
    let run : WordsRun = (call.raster_words).seen κs a x s in
    let e = (stretch_table_holds run.registers run.video run.raster).given_when.1 q in
    (p.words ∙ ap (words_told run.video) e, λ i. (p.memory i, (p.place ∙ ap (λ t. run.video_place.1 + 4 * start_told t) e) i))

-- Refused, there are none.
pub raster_words_refused : Every call.raster_words λ run. (w : Why) → First (stretch_table run.registers run.video run.raster) w → run.words ≡ []
raster_words_refused κs a x s p w f =
    let run : WordsRun = (call.raster_words).seen κs a x s in
    p.words ∙ ap (words_told run.video) (((stretch_table_holds run.registers run.video run.raster).refused_when w).1 f)

-- Nor of a raster that is not displayed, refused or not.
pub raster_words_undisplayed : Every call.raster_words λ run. is_displayed (setting_of run.registers) run.raster ≡ false → run.words ≡ []
raster_words_undisplayed κs a x s p h = p.words ∙ go (stretch_told g video y) refl
  where
    g : Registers
    g = ((call.raster_words).seen κs a x s).registers

    video : List ℕ
    video = ((call.raster_words).seen κs a x s).video

    y : ℕ
    y = ((call.raster_words).seen κs a x s).raster

    go : (t : Told Stretch) → stretch_told g video y ≡ t → words_told video t ≡ []
    go (refused w) e = refl
    go (given q) e =
        let none = stretch_none (setting_of g) y (λ l. false≢true (sym h ∙ is_displayed_holds (setting_of g) y l.0 l.1)) in
        ap (λ (u : Stretch). take u.count (drop u.start video)) ((stretch_table_holds g video y).given_what q e ∙ sym none)

-- Of a displayed raster, pixel i of them is the frame's logical pixel at display position i.
pub raster_words_pixels : Every call.raster_words λ run. Passes (stretch_table run.registers run.video run.raster)
    → is_displayed (setting_of run.registers) run.raster ≡ true
    → (i : ℕ) → i < (setting_of run.registers).de.0 - (setting_of run.registers).ds.0
    → pixel run.words (setting_of run.registers).depth i
    ≡ logical (setting_of run.registers) run.video ((setting_of run.registers).ds.0 + i) run.raster
raster_words_pixels κs a x s p q shown i h =
    let run : WordsRun = (call.raster_words).seen κs a x s in
    let own = setting_of run.registers in
    let good = passes_accepted run.registers run.video run.raster q in
    let on = in_rasters own run.raster shown in
    ap (λ (l : List ℕ). pixel l own.depth i) (raster_words_given κs a x s p q).0
    ∙ stretch_pixel own run.raster good on.0 on.1 run.video i h
