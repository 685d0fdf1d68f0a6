-- Mixing, of every run that the call's own promise permits: every place, when it is refused and when not, what it hides of a camera, and what
-- is seen of a frame's own raster. And that there is a run.
use Prim.Native.Nat.{ℕ, ◌<◌}
use mathlib.Core.List.{List, []}
use mathlib.Core.Logic.{◌↔◌}
use mathlib.Core.Path.{◌≡◌, refl, sym, ◌∙◌, ap}
use native.Mathlib.Omega.{arith}
use lib.ListN.{length, get_or, take}
use Rattle.buffers.specs.Painted.{painted}
use Rattle.buffers.proofs.Paints.{Paints, paints_of}
use Rattle.buffers.proofs.Values.{painted_values}
use Rattle.refusals.specs.Table.{why, given, refused}
use Rattle.std.specs.Prelude.{Ok}
use Rattle.registers.specs.Setting.{setting_of}
use Rattle.registers.specs.declared.record.Registers.{Registers}
use Rattle.cells.specs.Cell.{cell}
use Rattle.mixing.specs.Mix.{shown_over, mixed_at, mixed_raster, AgreeWhereShown, mix_leaves}
use Rattle.mixing.specs.Rules.{MixRules, TooLargeAt}
use Rattle.mixing.proofs.Exactly.{mix_exactly, too_large_exactly}
use Rattle.mixing.proofs.Hiding.{hidden, mixed_few}
use Rattle.claims.specs.Calls.{Every, Ran}
use Rattle.claims.specs.Views as call
use Rattle.claims.specs.Views.{MixRun}
use Rattle.claims.specs.Mixing.{Mixed, raster_in, SameRaster, Overlaid}
use Rattle.claims.proofs.Demands.{each_raster_cell}
use Rattle.claims.proofs.Runs.{lent, lent_out}

-- It is not refused exactly when every rule holds, and refused with 20 and an index exactly when the first number too large stands there.
pub mixed_exactly : Every call.mix λ run. (run.answer ≡ given tt) ↔ MixRules run.registers run.cells run.camera (length run.before)
mixed_exactly κs a x s p =
    let run : MixRun = (call.mix).seen κs a x s in
    let rules = mix_exactly run.registers run.cells run.camera (length run.before) in
    (λ e. rules.0 (sym p.0 ∙ e), λ r. p.0 ∙ rules.1 r)

pub camera_refused : Every call.mix λ run. (index : ℕ)
    → (run.answer ≡ refused (why 20 index)) ↔ TooLargeAt run.registers run.cells run.camera (length run.before) index
camera_refused κs a x s p index =
    let run : MixRun = (call.mix).seen κs a x s in
    let rules = too_large_exactly run.registers run.cells run.camera (length run.before) index in
    (λ e. rules.0 (sym p.0 ∙ e), λ r. p.0 ∙ rules.1 r)

-- What is left of a call that is not refused.
mix_left : Every call.mix λ run. run.answer ≡ given tt
    → run.after ≡ painted run.before 0 (setting_of run.registers).n.0 (mixed_at run.cells run.camera)
unfolding mix_leaves
mix_left κs a x s p e = p.1 ∙ rw (sym p.0 ∙ e)

-- Every place by the one rule.
pub each_mixed : Every call.mix λ run. run.answer ≡ given tt → Mixed run
each_mixed κs a x s p e =
    let run : MixRun = (call.mix).seen κs a x s in
    let rules = (mixed_exactly κs a x s p).0 e in
    let rule : ℕ → ℕ = mixed_at run.cells run.camera in
    let paints : Paints 0 run.before run.after 0 (setting_of run.registers).n.0 rule =
    paints_of rules.judged.answer_long (mix_left κs a x s p e) in
    record {
      long = paints.len;
      each = λ k h. paints.on k (omega arith) h;
      twelve_bits = λ k h. rw (paints.on k (omega arith) h) (mixed_few run.cells run.camera k (rules.colours k h));
      beyond = paints.high;
    }

-- What mixing hides: two cameras give the same mixed raster exactly when they agree at every place whose cell shows the camera.
mixed_raster_holds : Every call.mix λ run. run.answer ≡ given tt
    → raster_in run ≡ mixed_raster run.cells run.camera (setting_of run.registers).n.0
mixed_raster_holds κs a x s p e =
    let run : MixRun = (call.mix).seen κs a x s in
    let n = (setting_of run.registers).n.0 in
    ap (take n) (mix_left κs a x s p e)
    ∙ painted_values run.before n (mixed_at run.cells run.camera) ((mixed_exactly κs a x s p).0 e).judged.answer_long

pub camera_hidden : Every call.mix λ one. Every call.mix λ two. SameRaster one two → one.answer ≡ given tt → two.answer ≡ given tt
    → (raster_in one ≡ raster_in two) ↔ AgreeWhereShown one.cells (setting_of one.registers).n.0 one.camera two.camera
camera_hidden κs a x s p κs' a' x' s' p' same e e' =
    let one : MixRun = (call.mix).seen κs a x s in
    let two : MixRun = (call.mix).seen κs' a' x' s' in
    let here = mixed_raster_holds κs a x s p e in
    let there : raster_in two ≡ mixed_raster one.cells two.camera (setting_of one.registers).n.0 =
    mixed_raster_holds κs' a' x' s' p' e' ∙ rw (same.registers_are, same.cells_are) in
    let law = hidden one.cells one.camera two.camera (setting_of one.registers).n.0 in
    (λ q. law.0 (sym here ∙ q ∙ there), λ agree. here ∙ law.1 agree ∙ sym there)

-- Of a frame's own raster each place shows what the cell rule gives it over the camera.
pub overlaid : Every call.raster λ raster. Every call.mix λ mix. Overlaid raster mix → raster.answer ≡ given tt → mix.answer ≡ given tt
    → (x : ℕ) → x < (setting_of raster.registers).n.0
    → get_or mix.after x 0
    ≡ shown_over (cell raster.registers (setting_of raster.registers) raster.video raster.cursor x raster.raster) (get_or mix.camera x 0)
overlaid κs a x s p κs' a' x' s' p' laid e e' k h =
    let mix : MixRun = (call.mix).seen κs' a' x' s' in
    (each_mixed κs' a' x' s' p' e').each k (rw laid.registers_are h)
    ∙ ap (λ (c : ℕ). shown_over c (get_or mix.camera k 0))
    (ap (λ (l : List ℕ). get_or l k 0) laid.cells_are ∙ (each_raster_cell κs a x s p e).each k h)

-- Asked rightly, there is a run: what is said of every run is not said of none.
pub mix_run : (g : Registers) (cells camera before : List ℕ) → MixRules g cells camera (length before)
    → Ran call.mix (record {
      registers = g;
      cells = cells;
      camera = camera;
      answer = given tt;
      before = before;
      after = mix_leaves g cells camera before;
    })
unfolding lent lent_out
mix_run g cells camera before r = record {
  lifetimes = ([], ([], ([], tt)));
  arguments = (g, (lent cells, (lent camera, (lent_out before, tt))));
  answer = Ok tt;
  exit = (g, (lent cells, (lent camera, (lent_out (mix_leaves g cells camera before), tt))));
  promise = (sym ((mix_exactly g cells camera (length before)).1 r), refl);
  is = refl;
}
