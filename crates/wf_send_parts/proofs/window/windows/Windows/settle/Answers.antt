-- Proves the contract of `Windows::settle` from that of the one window that changes.
use Rattle.wf_def_agreement.specs.Session.{after_end}
use Rattle.wf_send_parts.specs.Answers.{as_end}
use Rattle.wf_send_parts.proofs.Changes.{stands_now}
use Rattle.wf_send_parts.proofs.window.windows.Windows.settle.Goals as goal

pub returns-clause-stands : goal.returns-clause-stands
returns-clause-stands c s bodies n stands number =
    stands_now c.self.inside.windows.items c.args.self.now c.self.view_is c.args.station c.args.tid
    c.tid_number.result c.tid_number.ensures c.requires.within c.index_mut.result.now
    c.index_mut.ensures.value c.settle.new.self s (after_end c.args.limit (as_end c.args.end) n s) bodies
    (λ here. c.settle.ensures.stands s bodies n here number) stands
