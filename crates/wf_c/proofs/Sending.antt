-- Proves that what a handle owns may be sent to another thread if its content may: any thread may free the
-- block.
use Rattle.std.specs.Prelude.{Option, Some, None}
use mir.Raw.{raw}
use base.Shift.{Keyless}
use denote.Memory.{lone}
use denote.RattleType.{RattleType}
use denote.RawPtr.{Ptr, RawPtr}
use denote.Param.Send.{IsSend, sendable}
use Rattle.std.proofs.Crossing.{frees}
use Rattle.std_alloc.proofs.SendSync.{lies}
use Rattle.std_heap.specs.declared.Global.{Global}
use Rattle.wf_c.specs.Slots.{slot_owns}

pub pointer_send : IsSend RawPtr
pointer_send = search sendable

pub owns_Keyless : (T : RattleType) → IsSend T → (alloc : Global) (p : Ptr) (o : Option T.Denot) →
    Keyless (slot_owns T alloc p o)
owns_Keyless T sends alloc p None = tt
owns_Keyless T sends alloc p (Some held) = (lies T sends p held, frees.frees alloc (raw (lone T.mir)) p)
