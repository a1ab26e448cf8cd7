-- Proves the contract of `Windows::bar_heard` from that of the one window that changes.
use Rattle.std.proofs.Common.{max}
use Rattle.wf_send_parts.proofs.Changes.{stands_now}
use Rattle.wf_send_parts.proofs.window.windows.Windows.bar_heard.Goals as goal

pub returns-clause-stands : goal.returns-clause-stands
returns-clause-stands c s bodies f stands on_air below near =
    stands_now c.self.inside.windows.items c.args.self.now c.self.view_is c.args.station c.args.tid
    c.tid_number.result c.tid_number.ensures c.requires.within c.index_mut.result.now
    c.index_mut.ensures.value c.bar_heard.new.self s (record s { heard = max s.heard f }) bodies
    (λ here. c.bar_heard.ensures.stands s bodies f here on_air below near) stands
