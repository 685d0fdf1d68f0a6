-- The setting judged: its refusal is the call's, and an accepted one's line is handed on with the rows behind the setting's.
use mathlib.Core.Path.{sym, ◌∙◌}
use Rattle.registers.proofs.Accepting.{accept_none}
use Rattle.mixing.proofs.Calls.{mix_refused, mix_judged}
use Rattle.mixing.proofs.mix.Goals as goal

pub returns-in_err-s-clause-left : goal.returns-in_err-s-clause-left
returns-in_err-s-clause-left c =
    (mix_refused c.args.g c.args.cells.now c.args.camera.now c.args.out.now _ (sym (c.in_err-s.ensures.told ∙ accept_none _))).1

pub returns-clause-told : goal.returns-clause-told
returns-clause-told c =
    let a = c.args in
    let mixed = c.judged_mix.ensures in
    (mix_judged a.g a.cells.now a.camera.now a.out.now _ (sym (c.in_ok-s.ensures.told ∙ accept_none _)) _ _ mixed.told mixed.left).0

pub returns-clause-left : goal.returns-clause-left
returns-clause-left c =
    let a = c.args in
    let mixed = c.judged_mix.ensures in
    (mix_judged a.g a.cells.now a.camera.now a.out.now _ (sym (c.in_ok-s.ensures.told ∙ accept_none _)) _ _ mixed.told mixed.left).1
