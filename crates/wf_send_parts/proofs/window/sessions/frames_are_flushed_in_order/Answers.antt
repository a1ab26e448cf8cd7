-- Proves the law `frames_are_flushed_in_order` by the lemmas of Flushing.
use Rattle.wf_send_parts.proofs.Flushing.{flushing_begins, flushing_near, flushing_next, flushing_ends}
use Rattle.wf_send_parts.proofs.window.sessions.frames_are_flushed_in_order.Goals as goal

pub returns-clause-begins : goal.returns-clause-begins
returns-clause-begins c = flushing_begins

pub returns-clause-near : goal.returns-clause-near
returns-clause-near c = flushing_near

pub returns-clause-next : goal.returns-clause-next
returns-clause-next c cause limit w v s bodies frames from parcel next so_far f =
    flushing_next cause limit w s bodies frames from so_far v parcel next f

pub returns-clause-ends : goal.returns-clause-ends
returns-clause-ends c cause limit w v s bodies frames from so_far none stands =
    flushing_ends cause limit w s bodies frames from so_far v none stands
