-- A node may go to another thread, since its frame may.
use denote.Param.Send.{IsSend, view_send, sendable}
use Rattle.std.proofs.Crossing.{crosses}
use Rattle.wf_frame.specs.contracts.frames.Frame.{the_row as Frame}
use Rattle.wf_frame.specs.contracts.frames.Frame.TheInside.{the_row as Inside}
use Rattle.wf_queue_parts.specs.contracts.chain.node.Node.{the_row}

inside_send : IsSend Inside
inside_send = search (sendable, crosses) depth 40

frame_send : IsSend Frame
frame_send = view_send _ _ _ _ _ inside_send

pub node_send : IsSend the_row
node_send = search (sendable, crosses, frame_send) depth 20
