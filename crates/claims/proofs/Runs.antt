-- What a run of the frame call leaves in lent memory, from the call's own promise: each cell by the cell rule. And that there is a run.
use Prim.Native.Nat.{ℕ, ◌≤◌}
use mathlib.Core.Path.{◌≡◌, refl, sym, ◌∙◌, ap, subst}
use mathlib.Core.List.{List, []}
use native.Mathlib.Omega.{arith}
use lib.ListN.{length}
use denote.Ref.{Bor}
use denote.MutBor.{MutBor}
use Rattle.buffers.specs.Painted.{painted}
use Rattle.buffers.proofs.Paints.{Paints, paints_of}
use Rattle.refusals.specs.Table.{Told, given, unless_refused}
use Rattle.registers.specs.Setting.{setting_of}
use Rattle.registers.specs.declared.record.Registers.{Registers}
use Rattle.std.specs.Prelude.{Ok}
use Rattle.frame.specs.Frame.{cells, frame_cell, frame_told, frame_leaves}
use Rattle.frame.proofs.Calls.{frame_given}
use Rattle.claims.specs.Calls.{Call, Every, Ran}
use Rattle.claims.specs.Views as call
use Rattle.claims.specs.Framed.{On, Right, Framed}

module _ {g : Registers} {video cursor before : List ℕ} where
  right_told : Right g video cursor before → frame_told g video cursor (length before) ≡ given tt
  right_told r = frame_given g video cursor before (setting_of g) r.picture r.room

  painted_framed : {after : List ℕ} → cells (setting_of g) ≤ length before
      → after ≡ painted before 0 (cells (setting_of g)) (frame_cell g (setting_of g) video cursor) → Framed g video cursor before after
  unfolding frame_cell
  painted_framed {after} room e =
      let p : Paints 0 before after 0 (cells (setting_of g)) (frame_cell g (setting_of g) video cursor) = paints_of room e in
      record { long = p.len; each = λ k h. p.on k (omega arith) h; beyond = p.high }

  held_framed : {after : List ℕ} → Right g video cursor before → after ≡ frame_leaves g video cursor before → Framed g video cursor before after
  unfolding frame_leaves
  held_framed r h =
      let drawn = painted before 0 (cells (setting_of g)) (frame_cell g (setting_of g) video cursor) in
      painted_framed r.room (h ∙ ap (λ (u : Told (Unit {0})). unless_refused u before drawn) (right_told r))

-- Asked rightly, the call is not refused, and every cell is the rule's.
pub each_cell : Every call.frame λ run. Right run.registers run.video run.cursor run.before
    → (run.answer ≡ given tt) × Framed run.registers run.video run.cursor run.before run.after
each_cell κs a x s p r = (p.0 ∙ right_told r, held_framed r p.1)

pub framed : {g : Registers} {video cursor : List ℕ}
    → Every call.frame λ run. On g video cursor run → Right g video cursor run.before → Framed g video cursor run.before run.after
framed κs a x s p on r = held_framed r (p.1 ∙ rw (on.registers_are, on.video_is, on.cursor_is))

-- What holds of every run holds of a run that there is.
pub of_run : (c : Call) (holds : c.Seen → Type 0) → Every c holds → (run : c.Seen) → Ran c run → holds run
of_run c holds every run r = subst holds r.is (every r.lifetimes r.arguments r.answer r.exit r.promise)

-- A list as it is lent.
unfoldable pub lent : List ℕ → Bor (List ℕ)
lent l = record { ref_ptr = (0, 0); now = l }

-- A list or a record as it is lent to be written.
unfoldable pub lent_out : {A : Type 0} → A → MutBor A
lent_out a = record { ref_ptr = (0, 0); ghost_name = 0; now = a }

-- Asked rightly, there is a run: what is said of every run is not said of none.
pub right_runs : (g : Registers) (video cursor before : List ℕ) → Right g video cursor before
    → Ran call.frame (record {
      registers = g;
      video = video;
      cursor = cursor;
      answer = given tt;
      before = before;
      after = frame_leaves g video cursor before;
    })
unfolding lent lent_out
right_runs g video cursor before r = record {
  lifetimes = ([], ([], ([], tt)));
  arguments = (g, (lent video, (lent cursor, (lent_out before, tt))));
  answer = Ok tt;
  exit = (g, (lent video, (lent cursor, (lent_out (frame_leaves g video cursor before), tt))));
  promise = (sym (right_told r), refl);
  is = refl;
}
