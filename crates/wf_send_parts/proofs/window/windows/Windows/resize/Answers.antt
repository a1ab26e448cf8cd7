-- Proves the contract of `Windows::resize` from that of the one window that changes.
use Rattle.std.proofs.Common.{max}
use Rattle.wf_def_agreement.specs.Session.{start_of}
use Rattle.wf_send_parts.proofs.Changes.{stands_now}
use Rattle.wf_send_parts.proofs.window.windows.Windows.resize.Goals as goal

pub returns-clause-stands : goal.returns-clause-stands
returns-clause-stands c s bodies stands =
    stands_now c.self.inside.windows.items c.args.self.now c.self.view_is c.args.station c.args.tid
    c.tid_number.result c.tid_number.ensures c.requires.within c.index_mut.result.now
    c.index_mut.ensures.value c.resize.new.self s
    (record s { heard = max s.heard (start_of s); size = c.args.size }) bodies
    (λ here. c.resize.ensures.stands s bodies here) stands
