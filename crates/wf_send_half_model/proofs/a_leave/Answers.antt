-- Proves the law `a_leave` by the lemmas of Leavings and Gone.
use Rattle.std.proofs.Common.{refl}
use Rattle.wf_def_agreement.specs.Session.{slot, start_of}
use Rattle.wf_send_parts.specs.Expelling.{frame_left}
use Rattle.wf_send_half_model.proofs.Leavings.{leave_begins, tid_begins, none_flies_now, within, room_for_one, frame_next, window_ends, tid_ends, expelled_few, left_few}
use Rattle.wf_send_half_model.proofs.Gone.{dropped_are_held, leave_meets}
use Rattle.wf_send_half_model.proofs.a_leave.Goals as goal

pub returns-clause-begins : goal.returns-clause-begins
returns-clause-begins c = leave_begins

pub returns-clause-tid : goal.returns-clause-tid
returns-clause-tid c = tid_begins

pub returns-clause-none_fly : goal.returns-clause-none_fly
returns-clause-none_fly c = none_flies_now

pub returns-clause-within : goal.returns-clause-within
returns-clause-within c = within

pub returns-clause-room : goal.returns-clause-room
returns-clause-room c = λ before v w bodies s t dropped frames left some.
    room_for_one before v w bodies s t dropped frames left
    (frame_left bodies (slot left.expelled.now (start_of left.expelled.now))) some refl

pub returns-clause-next : goal.returns-clause-next
returns-clause-next c = λ before v w bodies s t dropped frames left x f some same stands.
    frame_next before v w bodies s t dropped frames left f some same x stands

pub returns-clause-none : goal.returns-clause-none
returns-clause-none c = window_ends

pub returns-clause-purge : goal.returns-clause-purge
returns-clause-purge c = tid_ends

pub returns-clause-expelled : goal.returns-clause-expelled
returns-clause-expelled c = expelled_few

pub returns-clause-left : goal.returns-clause-left
returns-clause-left c = left_few

pub returns-clause-counts : goal.returns-clause-counts
returns-clause-counts c = dropped_are_held

pub returns-clause-ends : goal.returns-clause-ends
returns-clause-ends c = leave_meets
