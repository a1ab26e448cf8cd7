-- Proves that a handle may be sent to another thread.
use denote.Struct.Struct.{exits_of}
use denote.Struct.Owning.{shape, fields, to}
use denote.Param.Send.{IsSend, AllSend, owning_send, struct_send, sendable}
use Rattle.std.proofs.Crossing.{crosses}
use Rattle.std_alloc.proofs.SendSync.{quiet}
use Rattle.std_heap.proofs.Global.TheSendSync.{the_field_send as allocator_send}
use Rattle.wf_frame.proofs.answers.Answer.TheSendSync.{the_field_send as answer_send}
use Rattle.wf_frame.proofs.notes.Note.TheSendSync.{the_send as note_send}
use Rattle.wf_cell.proofs.engine.Engine.TheSendSync.{the_send as engine_send}
use Rattle.wf_c.specs.contracts.cell.held.HeldCell.{the_row as Held-row}
use Rattle.wf_c.specs.contracts.cell.slot.CellSlot.{the_row, the_type}
use Rattle.wf_c.proofs.Sending.{pointer_send, owns_Keyless}

-- Rattle writes such a proof for `Held`, but none for `HeldCell`: a search finds one from those of its parts
held_send : IsSend Held-row
held_send = search (sendable, crosses, answer_send, note_send, engine_send) depth 40

pub send : IsSend the_row
send =
    let all : AllSend (fields the_type) = (pointer_send, (allocator_send, tt)) in
    owning_send the_type all (λ d. owns_Keyless Held-row held_send d.alloc d.at d.value)
    (λ k. quiet (to the_type) (exits_of k (fields the_type))
    ((struct_send (shape the_type) all).leaving k))
