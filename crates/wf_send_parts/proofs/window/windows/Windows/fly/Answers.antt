-- Proves the contract of `Windows::fly` from that of the one window that changes.
use Rattle.std.proofs.Common.{subst, sym}
use Rattle.wf_def_agreement.specs.Session.{State, slot, with_state}
use Rattle.wf_send_parts.specs.Sent.{with_one_sent}
use Rattle.wf_send_parts.specs.Window.{WindowValue, WindowStandsFor}
use Rattle.wf_send_parts.proofs.Changes.{before_is, stands_with}
use Rattle.wf_send_parts.proofs.window.windows.Windows.fly.Goals as goal

pub returns-clause-stands : goal.returns-clause-stands
returns-clause-stands c s bodies n stands number own =
    stands_with c.self.inside.windows.items c.args.self.now c.self.view_is c.args.station c.args.tid
    c.tid_number.result c.tid_number.ensures c.requires.within c.index_mut.result.now
    c.index_mut.ensures.value c.fly.new.self s (with_state (State.Flying c.args.exchange) n s) bodies
    (with_one_sent (slot s n).id bodies) (λ here. c.fly.ensures.stands s bodies n here number own) stands

pub returns-clause-id : goal.returns-clause-id
returns-clause-id c s bodies n stands number =
    c.fly.ensures.id s bodies n (subst (λ (w : WindowValue). WindowStandsFor w s bodies)
    (sym (before_is c.self.inside.windows.items c.args.self.now c.self.view_is c.args.station c.args.tid
    c.tid_number.result c.tid_number.ensures c.requires.within c.index_mut.result.now
    c.index_mut.ensures.value)) stands) number
