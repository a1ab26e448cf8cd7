-- Defines the value of an owned node after a `&mut` to it has ended. The representation is this crate's; no
-- document defines it.
use Rattle.std.specs.Borrow.{Fml, Lends, MutBor}
use Rattle.std_heap.specs.declared.Global.{Global}
use Rattle.std_heap.specs.contracts.Global.{the_row as GlobalRow}
use Rattle.std_heap.specs.contracts.GlobalAllocator.TheImpl.{ghosts}
use Rattle.wf_queue_parts.specs.declared.chain.node.Node.{Node}
use Rattle.wf_queue_parts.specs.contracts.chain.node.Node.{the_row as NodeRow}
use Rattle.wf_queue_parts.specs.declared.chain.unboxed.Unboxed.{Unboxed}
use Rattle.wf_queue_parts.specs.contracts.chain.unboxed.Unboxed.{the_row}

-- the same place with another node
abbrev pub with_node : Unboxed Node Global → Node → Unboxed Node Global
with_node u n = record { at = u.at; alloc = u.alloc; value = n }

-- u ends with the last node of the reference r
abbrev pub LendsNode : MutBor (Unboxed Node Global) → MutBor Node → Fml
LendsNode u r = Lends (the_row NodeRow GlobalRow ghosts) NodeRow u r (with_node u.now)
