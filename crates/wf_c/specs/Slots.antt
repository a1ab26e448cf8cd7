-- Defines what a handle owns.
use Rattle.std.specs.Prelude.{Option, Some, None}
use base.Fml.{Fml, feq}
use denote.RattleType.{RattleType}
use denote.RawPtr.{Ptr, null_ptr}
use Rattle.std_alloc.specs.Box.Ownership.{box_owns}
use Rattle.std_heap.specs.declared.Global.{Global}
use Rattle.std_heap.specs.contracts.GlobalAllocator.TheImpl.{ghosts}

-- the block of the handle's content, a T, with the right to free it; the pointer of an empty handle is null
abbrev pub slot_owns : (T : RattleType) → Global → Ptr → Option T.Denot → Fml
slot_owns T alloc p None = feq Ptr p null_ptr
slot_owns T alloc p (Some held) = box_owns (ghosts.dealloc_token alloc) T p held
