-- Proves what `Half::drop_one` promises. By cases: the window returns a frame, for which the finished list
-- has room, or no further number waits.
use Rattle.std.proofs.Common.{sym, subst, ◌+◌}
use Rattle.wf_send_half_model.specs.Half.{TransmitValue}
use Rattle.wf_send_half.specs.Flushing.{GivesFlushed}
use Rattle.wf_send_half.proofs.CallSteps.{view_of}
use Rattle.wf_send_half.proofs.Flushes.{number_there, search_near, has_fate, can_finish, flushed_further, flushed_all}
use Rattle.wf_send_half.proofs.half.Half.drop_one.Goals as goal

pub flush_next-requires-clause-near : goal.flush_next-requires-clause-near
flush_next-requires-clause-near c =
    search_near c.args.cause c.args.self.now (view_of c.self.inside) c.self.view_is c.args.station c.args.tid
    c.args.from
    c.requires.some

pub flush_next-requires-clause-within : goal.flush_next-requires-clause-within
flush_next-requires-clause-within c =
    number_there c.args.cause c.args.self.now (view_of c.self.inside) c.self.view_is c.args.station c.args.tid
    c.args.from
    c.requires.some

pub returns-in_err-parcel-clause-ends : goal.returns-in_err-parcel-clause-ends
returns-in_err-parcel-clause-ends c = rw (c.from_residual.ensures) (
    flushed_all c.args.cause c.args.self.now (view_of c.self.inside) c.self.view_is c.args.station c.args.tid
    c.args.from
    c.flush_next.new.self c.in_err-parcel.ensures.none c.in_err-parcel.ensures.room
    c.in_err-parcel.ensures.others)

pub finish-requires-clause-fate : goal.finish-requires-clause-fate
finish-requires-clause-fate c =
    has_fate c.args.cause c.args.self.now (view_of c.self.inside) c.self.view_is c.args.station c.args.tid
    c.args.from
    c.in_ok-parcel.parcel c.in_ok-parcel.next c.flush_next.new.self c.in_ok-parcel.ensures.some
    c.requires.some

pub finish-requires-clause-room : goal.finish-requires-clause-room
finish-requires-clause-room c =
    can_finish c.args.cause c.args.self.now (view_of c.self.inside) c.self.view_is c.args.station c.args.tid
    c.args.from
    c.in_ok-parcel.parcel c.in_ok-parcel.next c.flush_next.new.self c.in_ok-parcel.ensures.some
    c.requires.some

pub returns-clause-next : goal.returns-clause-next
returns-clause-next c before w bodies dropped g =
    subst (λ (z : TransmitValue). GivesFlushed c.args.cause before w bodies c.args.station c.args.tid z
    (dropped + 1)
    c.in_ok-parcel.next)
    (sym c.finish.ensures)
    (flushed_further c.args.cause c.args.self.now (view_of c.self.inside) c.self.view_is c.args.station
    c.args.tid c.args.from
    c.in_ok-parcel.parcel c.in_ok-parcel.next c.flush_next.new.self c.in_ok-parcel.ensures.some before w
    bodies
    dropped g c.in_ok-parcel.ensures.room c.in_ok-parcel.ensures.others)
