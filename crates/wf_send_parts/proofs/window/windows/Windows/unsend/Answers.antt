-- Proves the contract of `Windows::unsend` from that of the one window that changes.
use Rattle.wf_def_agreement.specs.Session.{slot}
use Rattle.wf_send_parts.specs.Sent.{with_one_unsent}
use Rattle.wf_send_parts.proofs.Changes.{stands_with}
use Rattle.wf_send_parts.proofs.window.windows.Windows.unsend.Goals as goal

pub returns-clause-stands : goal.returns-clause-stands
returns-clause-stands c s bodies n stands number own =
    stands_with c.self.inside.windows.items c.args.self.now c.self.view_is c.args.station c.args.tid
    c.tid_number.result c.tid_number.ensures c.requires.within c.index_mut.result.now
    c.index_mut.ensures.value c.unsend.new.self s s bodies
    (with_one_unsent (slot s n).id bodies) (λ here. c.unsend.ensures.stands s bodies n here number own) stands
