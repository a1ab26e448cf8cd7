-- Proves the step of a pull that takes a frame out of a TID's queues: the number of frames that CoDel
-- dropped, and that they were held.
use Rattle.std.proofs.Common.{◌≡◌, ap, sym, ◌∙◌, subst, arith, ℕ, ◌+◌, ◌-◌, ◌<◌, ◌≤◌, length, Option, Some, None}
use Rattle.std.specs.Prelude.{IfSome}
use Rattle.wf_frame.specs.declared.classes.Cause.TheVariants.{Codel as By_codel}
use Rattle.wf_frame.specs.declared.classes.Fate.TheVariants.{Dropped}
use Rattle.wf_frame.specs.Frames.{FrameValue}
use Rattle.wf_def_codel.specs.Codel.{Params}
use Rattle.wf_def_world.specs.World.{World, codel_params}
use Rattle.wf_def_world.specs.FlowQueues.{taken_for_tid}
use Rattle.wf_law_runs.specs.Tallies.{AddsUp}
use Rattle.wf_law_runs.proofs.Frames.Tallies.{counts_add}
use Rattle.wf_send_parts.specs.Tally.{Counts, held_in, many_settled_as}
use Rattle.wf_frame.specs.Classes.{tid_number}
use Rattle.wf_queue_flows.specs.Flows.{FlowsValue, frames_of_tid, TakeGives, taken_for_tid as take_out}
use Rattle.wf_queue_flows_refines.proofs.Heads.{drops_counted}
use Rattle.wf_queue_flows_refines.specs.Standing.{flows_part}
use Rattle.wf_send_half_model.specs.Half.{TransmitValue}
use Rattle.wf_send_half_model.specs.Standing.{counts_in, Parts}
use Rattle.wf_send_half_model.specs.Filling.{after_take, IsTurned}
use Rattle.wf_send_half.specs.Pulls.{IsParamsOf, IsTaken}
use Rattle.wf_send_half_model.proofs.Dropping.{held_counted, finished_known}
use Rattle.wf_send_half_model.proofs.Gives.{Placed, placed}
use Rattle.wf_send_half_model.proofs.Takes.{take_parts}

adds_up : (w : World) → AddsUp w
adds_up w = counts_add w.frames

module _ (v : TransmitValue) (w : World) (bodies : ℕ → FrameValue) (s t : ℕ) (h : IsTurned v w bodies s t)
    (params : Params) (right : params ≡ codel_params w s) where
  abbrev after : TransmitValue
  after = after_take v (tid_number s t) params

  abbrev taken : World
  taken = (taken_for_tid w s t).world

  after_parts : Parts after taken bodies
  after_parts =
      let p : Placed w = placed w s t h.underway in
      subst (λ (q : Params). Parts (after_take v (tid_number s t) q) taken bodies) (sym right)
      (take_parts v w bodies s t p.named p.placing p.fresh h.live h.tid h.parts)

  abbrev dropped : ℕ
  dropped = length after.flows.backlog.finished - length v.flows.backlog.finished

  before_is : v.tally ≡ counts_in w
  before_is = h.parts.others.tally

  after_is : after.tally ≡ counts_in taken
  after_is = after_parts.others.tally

  pub drops_are_held : (dropped ≤ held_in v.tally) ×
      (length v.flows.backlog.finished ≤ length after.flows.backlog.finished)
  drops_are_held =
      let a = after_is in
      let b = before_is in
      subst (λ (c : Counts). (dropped ≤ held_in c) ×
      (length v.flows.backlog.finished ≤ length after.flows.backlog.finished)) (sym before_is)
      (omega (
        arith,
        adds_up w,
        adds_up taken,
        held_counted w,
        held_counted taken,
        h.parts.others.inside,
        after_parts.others.inside,
        finished_known v.flows w h.parts.others.flows,
        finished_known after.flows taken after_parts.others.flows,
        ap (λ (c : Counts). c.accepted) a,
        ap (λ (c : Counts). c.acked) a,
        ap (λ (c : Counts). c.overlimit) a,
        ap (λ (c : Counts). c.codel) a,
        ap (λ (c : Counts). c.retries) a,
        ap (λ (c : Counts). c.left) a,
        ap (λ (c : Counts). c.flushed) a,
        ap (λ (c : Counts). c.ended) a,
        ap (λ (c : Counts). c.accepted) b,
        ap (λ (c : Counts). c.acked) b,
        ap (λ (c : Counts). c.overlimit) b,
        ap (λ (c : Counts). c.codel) b,
        ap (λ (c : Counts). c.retries) b,
        ap (λ (c : Counts). c.left) b,
        ap (λ (c : Counts). c.flushed) b,
        ap (λ (c : Counts). c.ended) b,
      ))

  -- the number that the code counts: the frames that were queued before, without the frame that is taken and
  -- those that are still queued
  module _ (u : FlowsValue) (f : FrameValue) (gives : TakeGives u f
      (take_out v.flows (tid_number s t) v.clock params)) where
    balance : length after.flows.backlog.finished + frames_of_tid after.flows (tid_number s t) + 1
        ≡ length v.flows.backlog.finished + frames_of_tid v.flows (tid_number s t)
    balance =
        let st = h.parts.others.flows in
        let within : tid_number s t < length v.flows.rotas.lists =
        omega (
          arith,
          h.parts.others.turns.live s h.live,
          h.tid,
          st.sized.lists,
          ap (λ x. x.stations) st.settings,
        ) in
        some_of (take_out v.flows (tid_number s t) v.clock params).frame (sym gives.1)
        (drops_counted v.flows (flows_part w) st (tid_number s t) within v.clock params)
      where
        some_of : (o : Option FrameValue) → o ≡ Some f →
            IfSome o (λ g. length after.flows.backlog.finished + frames_of_tid after.flows
            (tid_number s t) + 1 ≡ length v.flows.backlog.finished + frames_of_tid v.flows (tid_number s t)) →
            length after.flows.backlog.finished + frames_of_tid after.flows (tid_number s t) + 1
            ≡ length v.flows.backlog.finished + frames_of_tid v.flows (tid_number s t)
        some_of None e k = absurd (cc e)
        some_of (Some g) e k = k

    left_is : frames_of_tid u (tid_number s t) ≡ frames_of_tid after.flows (tid_number s t)
    left_is = ap (λ (z : FlowsValue). frames_of_tid z (tid_number s t)) gives.0

    pub counted_drops : frames_of_tid v.flows (tid_number s t) - 1 - frames_of_tid u (tid_number s t)
        ≡ dropped
    counted_drops = omega (arith, balance, left_is, drops_are_held.1)

-- the frame that is taken, after those that CoDel dropped are counted
pub took : (v : TransmitValue) (s t : ℕ) (params : Params) (read : IsParamsOf v s params) (u : FlowsValue)
    (f : FrameValue) → TakeGives u f (take_out v.flows (tid_number s t) v.clock params) →
    (count : ℕ) → count ≡ length (take_out v.flows (tid_number s t) v.clock params).flows.backlog.finished -
    length v.flows.backlog.finished →
    (tally : Counts) → tally ≡ many_settled_as (Dropped By_codel) count v.tally →
    IsTaken v (record v { flows = u; tally = tally }) s t f
took v s t params read u f gives count is tally settled = record {
  params = params;
  read = read;
  out = sym gives.1;
  is =
      ap (λ (z : FlowsValue). record v { flows = z; tally = tally }) gives.0
      ∙ ap (λ (c : Counts). record v {
        flows = (take_out v.flows (tid_number s t) v.clock params).flows;
        tally = c;
      }) (settled ∙ ap (λ (n : ℕ). many_settled_as (Dropped By_codel) n v.tally) is);
}
