-- Proves that `PlainPeer::receive` refuses no data frame for the station, and reads it as its header says.
use Rattle.std.proofs.Common.{rules, ◌≡◌, None}
use Rattle.wf_recv_peer.specs.Plain.{first_data_fault}
use Rattle.wf_recv_peer.proofs.Taken.{data_read, same_repeat}
use Rattle.wf_recv_peer.proofs.plain.PlainPeer.receive.Goals as goal

pub returns-in_err-header-clause-data : goal.returns-in_err-header-clause-data
returns-in_err-header-clause-data c = λ h is.
    let p = c.args.self.now in
    let none : first_data_fault p.own p.base c.args.octets.now ≡ None =
    (data_read p.own p.base c.args.octets.now h is).none in
    search rules

pub returns-clause-data : goal.returns-clause-data
returns-clause-data c = λ h is.
    let p = c.args.self.now in
    let read = data_read p.own p.base c.args.octets.now h is in
    let same = same_repeat c.args.octets.now h p read.tid read.number read.retry in
    search rules
