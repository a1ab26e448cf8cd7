-- The first frames of the chain, as many as the place, are at its end.
use Rattle.std.proofs.Common.{◌≡◌, List, ◌++◌, drop, length}
use Rattle.std.specs.List.{list_any}
use Rattle.wf_frame.specs.Frames.{FrameValue}
use Rattle.wf_queue_flows.specs.Flows.{is_of_queue}
use Rattle.wf_queue_flows.proofs.backlog.holds_flow.Given as goal

abbrev pub invariant-loop-place : goal.invariant-loop-place
invariant-loop-place l = (front : List FrameValue) × (rest : List FrameValue) ×
    (l.initial.chain ≡ front ++ rest) × (l.chain ≡ rest ++ front) × (length front ≡ l.place) ×
    (l.found ≡ list_any (is_of_queue l.flows l.q) (drop l.skip front))
