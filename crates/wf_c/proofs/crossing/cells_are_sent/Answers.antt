-- Proves that a cell may be sent to another thread, from the proofs of its parts.
use denote.Param.Send.{sendable}
use Rattle.std.proofs.Crossing.{crosses}
use Rattle.wf_frame.proofs.answers.Answer.TheSendSync.{the_field_send as answer_send}
use Rattle.wf_frame.proofs.notes.Note.TheSendSync.{the_send as note_send}
use Rattle.wf_cell.proofs.engine.Engine.TheSendSync.{the_send as engine_send}
use Rattle.wf_c.proofs.crossing.cells_are_sent.Goals as goal

pub is_sent-requires-send-T : goal.is_sent-requires-send-T
is_sent-requires-send-T c κs = search (sendable, crosses, answer_send, note_send, engine_send) depth 40
