-- An unboxed value may go to another thread if the value and the handle may, and if any thread may free
-- its block.
use mir.Raw.{raw}
use denote.Memory.{lone}
use denote.RattleType.{RattleType}
use denote.RawPtr.{RawPtr}
use denote.Struct.Struct.{exits_of}
use denote.Struct.Owning.{shape, fields, to}
use denote.Param.Send.{IsSend, AllSend, Frees, owning_send, struct_send, sendable}
use Rattle.core.specs.declared.alloc.Allocator.{Ghosts}
use Rattle.std_alloc.proofs.SendSync.{lies, quiet}
use Rattle.wf_queue_parts.specs.contracts.chain.unboxed.Unboxed.{the_row, the_type}

pointer_send : IsSend RawPtr
pointer_send = search sendable

pub send : (T A : RattleType) (g : Ghosts A.Denot) → IsSend T → IsSend A → Frees g g.dealloc_token →
    IsSend (the_row T A g)
send T A g sends handle frees =
    let O = the_type T A g in let all : AllSend (fields O) = (pointer_send, (handle, tt)) in
    owning_send O all (λ d. (lies T sends d.at d.value, frees.frees d.alloc (raw (lone T.mir)) d.at))
    (λ k. quiet (to O) (exits_of k (fields O)) ((struct_send (shape O) all).leaving k))
