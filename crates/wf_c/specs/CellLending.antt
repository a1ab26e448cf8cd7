-- Defines what a cell's handle holds when a `&mut` to its content ends.
use Rattle.std.specs.Prelude.{Some}
use Rattle.std.specs.Borrow.{Fml, Lends, MutBor}
use Rattle.wf_c.specs.declared.cell.held.HeldCell.{HeldCell}
use Rattle.wf_c.specs.contracts.cell.held.HeldCell.{the_row as HeldRow}
use Rattle.wf_c.specs.declared.cell.slot.CellSlot.{CellSlot}
use Rattle.wf_c.specs.contracts.cell.slot.CellSlot.{the_row}

-- the same handle with another content
abbrev pub with_cell : CellSlot → HeldCell → CellSlot
with_cell s h = record { at = s.at; alloc = s.alloc; value = Some h }

-- s ends with the last value at r
abbrev pub LendsCell : MutBor CellSlot → MutBor HeldCell → Fml
LendsCell s r = Lends the_row HeldRow s r (with_cell s.now)
