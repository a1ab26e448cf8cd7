-- Proves that `Peer::receive` refuses no frame for the station, since each such frame passes the checks.
use Rattle.std.proofs.Common.{rules, ◌≡◌, None}
use Rattle.wf_recv_peer.specs.Receiving.{first_peer_fault}
use Rattle.wf_recv_peer.proofs.Taken.{data_passes, request_passes}
use Rattle.wf_recv_peer.proofs.peer.Peer.receive.Goals as goal

pub returns-in_err-reading-clause-data : goal.returns-in_err-reading-clause-data
returns-in_err-reading-clause-data c = λ h is.
    let p = c.args.self.now in
    let none : first_peer_fault p.own p.base c.args.octets.now ≡ None =
    data_passes p.own p.base c.args.octets.now h is in
    search rules

pub returns-in_err-reading-clause-request : goal.returns-in_err-reading-clause-request
returns-in_err-reading-clause-request c = λ b is.
    let p = c.args.self.now in
    let none : first_peer_fault p.own p.base c.args.octets.now ≡ None =
    request_passes p.own p.base c.args.octets.now b is in
    search rules
