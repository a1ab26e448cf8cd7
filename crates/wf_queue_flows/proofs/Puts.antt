-- The parts of a put compose to the whole put.
use Rattle.std.proofs.Common.{◌≡◌, ℕ, ◌==◌, refl, inl, inr}
use Rattle.std.proofs.lemmas.Bool.{cases_Bool}
use Rattle.wf_frame.specs.Frames.{FrameValue}
use Rattle.wf_queue_flows.specs.Flows.{FlowsValue, is_listed, with_listed_queue, with_appended, after_put_in}

-- a queue may be listed before the frame is appended
pub put_is : (v : FlowsValue) (i q : ℕ) (f : FrameValue) →
    with_appended (with_listed_queue v i q) q f ≡ after_put_in v i q f
unfolding with_listed_queue
put_is v i q f = elim (cases_Bool (is_listed v i q)) [
  | inl holds ↦ rw holds refl
  | inr fails ↦ elim (cases_Bool (v.codel_reset == 1)) [
    | inl calms ↦ rw (fails, calms) refl
    | inr stays ↦ rw (fails, stays) refl
  ]
]
