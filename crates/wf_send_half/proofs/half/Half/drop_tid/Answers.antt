-- Proves what `Half::drop_tid` promises: a TID has left when the frames of its window are finished and its
-- queues are purged. The sum fits in 32 bits since it is at most the setting `room`.
use Rattle.std.proofs.Common.{◌<◌, ◌^◌, ◌+◌, arith, subst, sym}
use Rattle.wf_send_parts.specs.Windows.{WindowsHaveRoom}
use Rattle.wf_send_half_model.specs.Half.{TransmitValue}
use Rattle.wf_send_half.proofs.CallSteps.{view_of}
use Rattle.wf_send_half.proofs.Leaves.{leaves_few, station_there, queues_purged}
use Rattle.wf_send_half.proofs.half.Half.drop_tid.Goals as goal

pub purge-requires-clause-station : goal.purge-requires-clause-station
purge-requires-clause-station c =
    let r = c.requires.some in
    station_there c.expel_all-expelled.new.self (view_of c.self.inside) c.self.view_is c.args.station
    c.args.tid r.before r.world r.bodies (r.dropped + c.expel_all-expelled.result)
    (c.expel_all-expelled.ensures.expelled r.before r.world r.bodies r.dropped r.leaving)

pub returns : goal.returns
returns c = record {
  left = λ before w bodies dropped left.
      queues_purged c.expel_all-expelled.new.self (view_of c.self.inside) c.self.view_is c.args.station
      c.args.tid c.purge.new.self c.purge.result c.purge.ensures.purged c.purge.ensures.count
      before w bodies dropped c.expel_all-expelled.result
      (c.expel_all-expelled.ensures.expelled before w bodies dropped left);
  room = subst (λ (v : TransmitValue). WindowsHaveRoom v.windows)
      (sym c.self.view_is) c.expel_all-expelled.ensures.room;
}

pub overflow_add-result : goal.overflow_add-result
overflow_add-result c =
    let r = c.requires.some in
    let few : r.dropped + (c.expel_all-expelled.result + c.purge.result) < 2 ^ 32 =
    leaves_few r.before _ r.world r.bodies c.args.station (c.args.tid + 1) _
    (queues_purged c.expel_all-expelled.new.self (view_of c.self.inside) c.self.view_is c.args.station
    c.args.tid c.purge.new.self c.purge.result c.purge.ensures.purged c.purge.ensures.count
    r.before r.world r.bodies r.dropped c.expel_all-expelled.result
    (c.expel_all-expelled.ensures.expelled r.before r.world r.bodies r.dropped r.leaving)) in
    omega (arith, few)
