-- Proves that the parts of an engine represent what the engine does, and that equal parts do.
use Rattle.std.proofs.Common.{◌≡◌, sym, subst, ℕ, List}
use Rattle.wf_frame.specs.Frames.{FrameValue}
use Rattle.wf_def_world.specs.World.{World}
use Rattle.wf_recv_marks.specs.declared.marks.Mark.{Mark}
use Rattle.wf_send_half_model.specs.Half.{TransmitValue}
use Rattle.wf_cell.specs.Engines.{EngineValue, EngineIsIn}

-- v has the parts of the engine u
pub inside : {v u : EngineValue} → v ≡ u → (w : World) (bodies : ℕ → FrameValue) → EngineIsIn u w bodies →
    EngineIsIn v w bodies
inside same w bodies i = subst (λ (x : EngineValue). EngineIsIn x w bodies) (sym same) i

-- a property of an engine whose path and marks are these
pub of_parts : (P : EngineValue → Type 0) (u : EngineValue) (half : TransmitValue) (marks : List Mark) →
    u.half ≡ half → u.marks ≡ marks → P (record { half = half; peers = u.peers; marks = marks }) → P u
of_parts P u half marks same_half same_marks p =
    subst (λ (h : TransmitValue). P (record { half = h; peers = u.peers; marks = u.marks })) (sym same_half)
    (subst (λ (ms : List Mark). P (record { half = half; peers = u.peers; marks = ms })) (sym same_marks) p)
