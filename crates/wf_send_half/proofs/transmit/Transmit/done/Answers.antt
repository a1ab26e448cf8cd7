-- Proves what `Transmit::done` promises from the clauses of `Half::done`. Only the readiness of the
-- exchange's station in the class of its TID may change, and this flag is set.
use Rattle.std.proofs.Common.{◌≡◌, subst, ◌==◌, Ok, Err}
use Rattle.std.specs.Prelude.{find, IfSome}
use Rattle.wf_send_half_model.specs.Half.{TransmitValue}
use Rattle.wf_send_half.specs.Bits.{count_shown_of}
use Rattle.wf_send_half.specs.Driven.{IsAfterDone}
use Rattle.wf_send_half.proofs.Endings.{ended_unheard, closed_room, tracked_ended}
use Rattle.wf_send_half.proofs.transmit.Transmit.done.Goals as goal

pub set-requires : goal.set-requires
set-requires c = record {
  room = closed_room c.self.inside.half c.self.inside.ready c.self.invariant c.done.new.self c.args.exchange
      c.args.heard c.args.air (Ok c.in-Ok.closed.ended) (record {
        lost = c.in-Ok.ensures.lost;
        shown = c.in-Ok.ensures.shown;
        none_shown = c.in-Ok.ensures.none_shown;
        arrived = c.in-Ok.ensures.arrived;
        found = c.in-Ok.ensures.found;
        refused = c.in-Ok.ensures.refused;
      }) c.in-Ok.closed c.in-Ok.ensures.closed;
}

pub invariant_of-self : goal.invariant_of-self
invariant_of-self c = tracked_ended c.self.inside.half c.self.inside.ready c.self.invariant c.done.new.self
    c.args.exchange c.args.heard c.args.air (Ok c.in-Ok.closed.ended) (record {
      lost = c.in-Ok.ensures.lost;
      shown = c.in-Ok.ensures.shown;
      none_shown = c.in-Ok.ensures.none_shown;
      arrived = c.in-Ok.ensures.arrived;
      found = c.in-Ok.ensures.found;
      refused = c.in-Ok.ensures.refused;
    }) c.in-Ok.closed c.in-Ok.ensures.closed c.set.new.self c.set.ensures

pub returns-in-Ok-clause-ended : goal.returns-in-Ok-clause-ended
returns-in-Ok-clause-ended c = subst (λ (v : TransmitValue).
    IsAfterDone v c.done.new.self c.args.exchange c.args.heard c.args.air (Ok c.in-Ok.closed.ended))
    c.self.view_is (record {
      lost = c.in-Ok.ensures.lost;
      shown = c.in-Ok.ensures.shown;
      none_shown = c.in-Ok.ensures.none_shown;
      arrived = c.in-Ok.ensures.arrived;
      found = c.in-Ok.ensures.found;
      refused = c.in-Ok.ensures.refused;
    })

pub returns-in-Ok-clause-acked : goal.returns-in-Ok-clause-acked
returns-in-Ok-clause-acked c = subst (λ (v : TransmitValue).
    IfSome (find (λ x. x.number == c.args.exchange) v.opened)
    (λ x. c.in-Ok.closed.ended.acked ≡ count_shown_of v c.args.heard x)) c.self.view_is c.in-Ok.ensures.acked

pub returns-in-Ok-clause-unheard : goal.returns-in-Ok-clause-unheard
returns-in-Ok-clause-unheard c = ended_unheard c.self.inside.half c.self.inside.ready c.self.invariant
    c.done.new.self c.args.exchange c.args.heard c.args.air (Ok c.in-Ok.closed.ended) (record {
      lost = c.in-Ok.ensures.lost;
      shown = c.in-Ok.ensures.shown;
      none_shown = c.in-Ok.ensures.none_shown;
      arrived = c.in-Ok.ensures.arrived;
      found = c.in-Ok.ensures.found;
      refused = c.in-Ok.ensures.refused;
    })

pub returns-in-Err-clause-ended : goal.returns-in-Err-clause-ended
returns-in-Err-clause-ended c = subst (λ (v : TransmitValue).
    IsAfterDone v c.done.new.self c.args.exchange c.args.heard c.args.air (Err c.in-Err.reason))
    c.self.view_is (record {
      lost = c.in-Err.ensures.lost;
      shown = c.in-Err.ensures.shown;
      none_shown = c.in-Err.ensures.none_shown;
      arrived = c.in-Err.ensures.arrived;
      found = c.in-Err.ensures.found;
      refused = c.in-Err.ensures.refused;
    })
