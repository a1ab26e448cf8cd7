-- A run may go to another thread, since its nodes may, and any thread may free their blocks.
use Rattle.std.specs.Prelude.{List, [], ◌∷◌}
use mir.Raw.{raw}
use base.Shift.{Keyless}
use denote.Memory.{lone}
use denote.RawPtr.{RawPtr}
use denote.Struct.Struct.{exits_of}
use denote.Struct.Owning.{shape, fields, to}
use denote.Param.Send.{IsSend, AllSend, owning_send, struct_send, sendable}
use Rattle.std.proofs.Crossing.{frees}
use Rattle.std_alloc.proofs.SendSync.{lies, quiet}
use Rattle.wf_queue_parts.specs.Links.{Placed, nodes_own}
use Rattle.wf_queue_parts.specs.contracts.chain.node.Node.{the_row as Node}
use Rattle.wf_queue_parts.specs.contracts.chain.run.Run.{the_row, the_type}
use Rattle.wf_queue_parts.proofs.NodeSend.{node_send}

pointer_send : IsSend RawPtr
pointer_send = search sendable

nodes_own-Keyless : (ns : List Placed) → Keyless (nodes_own ns)
nodes_own-Keyless [] = tt
nodes_own-Keyless (n ∷ ns) = (
  (lies Node node_send n.0 n.1, frees.frees n.1.alloc (raw (lone Node.mir)) n.0),
  nodes_own-Keyless ns,
)

pub send : IsSend the_row
send =
    let all : AllSend (fields the_type) = (pointer_send, (pointer_send, tt)) in
    owning_send the_type all (λ d. nodes_own-Keyless d.nodes)
    (λ k. quiet (to the_type) (exits_of k (fields the_type))
    ((struct_send (shape the_type) all).leaving k))
