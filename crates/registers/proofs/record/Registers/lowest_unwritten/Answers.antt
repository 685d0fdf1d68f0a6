-- A group walked from its first slot: the first unwritten one is the lowest, or none of the group is unwritten.
use mathlib.Core.Path.{ap}
use mathlib.Core.Bool.{false, not}
use native.Mathlib.Omega.{arith}
use lib.ListN.{get_or}
use Rattle.std.specs.Prelude.{Some, None}
use Rattle.registers.proofs.Groups.{first_slot}
use Rattle.registers.proofs.record.Registers.lowest_unwritten.Goals as goal

pub returns-then-not-self-slot : goal.returns-then-not-self-slot
returns-then-not-self-slot c =
    let w = c.args.self.now.written in
    first_slot c.args.first c.args.last (λ j. not (get_or w j false)) c.requires.1 (Some c.loop-slot.slot)
    (omega arith, omega arith, ap not c.if-not-self-slot.true, c.loop-slot.invariant)

pub returns : goal.returns
returns c =
    let w = c.args.self.now.written in
    first_slot c.args.first c.args.last (λ j. not (get_or w j false)) c.requires.1 None (λ k low high. c.loop-slot.invariant k low (omega arith))
