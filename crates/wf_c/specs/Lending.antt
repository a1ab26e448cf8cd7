-- Defines what a handle holds when a `&mut` to its content ends.
use Rattle.std.specs.Prelude.{Some}
use Rattle.std.specs.Borrow.{Fml, Lends, MutBor}
use Rattle.wf_c.specs.declared.held.Held.{Held}
use Rattle.wf_c.specs.contracts.held.Held.{the_row as HeldRow}
use Rattle.wf_c.specs.declared.slot.PathSlot.{PathSlot}
use Rattle.wf_c.specs.contracts.slot.PathSlot.{the_row}

-- the same handle with another content
abbrev pub with_held : PathSlot → Held → PathSlot
with_held s h = record { at = s.at; alloc = s.alloc; value = Some h }

-- s ends with the last value at r
abbrev pub LendsHeld : MutBor PathSlot → MutBor Held → Fml
LendsHeld s r = Lends the_row HeldRow s r (with_held s.now)
