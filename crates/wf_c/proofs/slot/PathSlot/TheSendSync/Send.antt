-- Proves that a handle may be sent to another thread: its content may be sent, and any thread may free its
-- block.
use denote.Struct.Struct.{exits_of}
use denote.Struct.Owning.{shape, fields, to}
use denote.Param.Send.{IsSend, AllSend, owning_send, struct_send}
use Rattle.std_alloc.proofs.SendSync.{quiet}
use Rattle.std_heap.proofs.Global.TheSendSync.{the_field_send as allocator_send}
use Rattle.wf_c.specs.contracts.held.Held.{the_row as Held-row}
use Rattle.wf_c.proofs.held.Held.TheSendSync.{the_send as held_send}
use Rattle.wf_c.specs.contracts.slot.PathSlot.{the_row, the_type}
use Rattle.wf_c.proofs.Sending.{pointer_send, owns_Keyless}

pub send : IsSend the_row
send =
    let all : AllSend (fields the_type) = (pointer_send, (allocator_send, tt)) in
    owning_send the_type all (λ d. owns_Keyless Held-row held_send d.alloc d.at d.value)
    (λ k. quiet (to the_type) (exits_of k (fields the_type))
    ((struct_send (shape the_type) all).leaving k))
