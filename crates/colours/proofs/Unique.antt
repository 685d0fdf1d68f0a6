-- For each public call, any two answers that its contract permits are the same.
use mathlib.Core.Path.{sym, ◌∙◌}
use Rattle.buffers.proofs.Coincide.{OneAnswer}
use Rattle.colours.proofs.apart.Apart.of.Kinds as of_kinds
use Rattle.colours.proofs.apart.Apart.of.Reads as of_reads
use Rattle.colours.proofs.apart.Apart.cell.Kinds as cell_kinds
use Rattle.colours.proofs.apart.Apart.cell.Reads as cell_reads
use Rattle.colours.proofs.colour.Kinds as colour_kinds
use Rattle.colours.proofs.colour.Reads as colour_reads
use Rattle.colours.proofs.entries.Kinds as entries_kinds
use Rattle.colours.proofs.entries.Reads as entries_reads
use Rattle.colours.proofs.grey.Kinds as grey_kinds
use Rattle.colours.proofs.grey.Reads as grey_reads
use Rattle.colours.proofs.pin.Kinds as pin_kinds
use Rattle.colours.proofs.pin.Reads as pin_reads
use Rattle.colours.proofs.shown.Kinds as shown_kinds
use Rattle.colours.proofs.shown.Reads as shown_reads

pub one_of : OneAnswer 0 of_kinds.ps of_kinds.r of_reads.Post
one_of κs a x y s t p q = p ∙ sym q

pub one_cell : OneAnswer 0 cell_kinds.ps cell_kinds.r cell_reads.Post
one_cell κs a x y s t p q = p ∙ sym q

pub one_shown : OneAnswer 0 shown_kinds.ps shown_kinds.r shown_reads.Post
one_shown κs a x y s t p q = p ∙ sym q

pub one_colour : OneAnswer 0 colour_kinds.ps colour_kinds.r colour_reads.Post
one_colour κs a x y s t p q = p ∙ sym q

pub one_entries : OneAnswer 0 entries_kinds.ps entries_kinds.r entries_reads.Post
one_entries κs a x y s t p q = p ∙ sym q

pub one_grey : OneAnswer 0 grey_kinds.ps grey_kinds.r grey_reads.Post
one_grey κs a x y s t p q = p ∙ sym q

pub one_pin : OneAnswer 0 pin_kinds.ps pin_kinds.r pin_reads.Post
one_pin κs a x y s t p q = p ∙ sym q
