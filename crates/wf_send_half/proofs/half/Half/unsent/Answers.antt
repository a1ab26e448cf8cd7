-- Proves what `Half::unsent` promises. By cases: the call is refused, or the exchange is marked, and if the
-- transmission sends a frame, this counts one transmission less.
use Rattle.std.proofs.Common.{sym, subst, ap, arith, length}
use Rattle.std.proofs.lemmas.Result.{err_from_is_err_and}
use Rattle.wf_send_half_model.specs.Half.{TransmitValue}
use Rattle.wf_send_half_model.specs.Standing.{StandsFor}
use Rattle.wf_send_half.specs.Marks.{IsCarried}
use Rattle.wf_send_half.proofs.CallSteps.{view_of}
use Rattle.wf_send_half.proofs.Marked.{carried_tid, carried_within, carried_flies, frame_met, request_met, refused_mark}
use Rattle.wf_send_half.proofs.half.Half.unsent.Goals as goal

pub returns-in_err-carried-clause-meets : goal.returns-in_err-carried-clause-meets
returns-in_err-carried-clause-meets c w bodies h untold =
    let p = err_from_is_err_and c.from_residual.result c.from_residual.ensures.1 in rw (p.1, p.2)
    (refused_mark c.args.self.now w bodies h c.args.exchange c.args.index _
    (c.in_err-carried.ensures.unsent w bodies h untold))

pub unsend-requires-clause-tid : goal.unsend-requires-clause-tid
unsend-requires-clause-tid c =
    carried_tid c.args.self.now c.requires.some.world c.requires.some.bodies c.requires.some.stands
    c.args.exchange c.args.index c.in_ok-carried.carried c.in_ok-carried.ensures.carried c.in-Some.number
    c.in-Some.is

pub unsend-requires-clause-within : goal.unsend-requires-clause-within
unsend-requires-clause-within c = omega (
  arith,
  ap (λ (z : TransmitValue). length z.windows) c.self.view_is,
  carried_within c.args.self.now c.requires.some.world c.requires.some.bodies c.requires.some.stands
      c.args.exchange c.args.index c.in_ok-carried.carried c.in_ok-carried.ensures.carried c.in-Some.number
      c.in-Some.is,
)

pub unsend-requires-clause-flies : goal.unsend-requires-clause-flies
unsend-requires-clause-flies c =
    carried_flies (view_of c.self.inside) c.requires.some.world c.requires.some.bodies
    (subst (λ (v : TransmitValue). StandsFor v c.requires.some.world c.requires.some.bodies)
    (sym c.self.view_is) c.requires.some.stands)
    c.args.exchange c.args.index c.in_ok-carried.carried
    (subst (λ (v : TransmitValue). IsCarried v c.args.exchange c.args.index c.in_ok-carried.carried)
    (sym c.self.view_is) c.in_ok-carried.ensures.carried) c.in-Some.number c.in-Some.is

pub returns-in-Some-clause-meets : goal.returns-in-Some-clause-meets
returns-in-Some-clause-meets c w bodies h untold =
    frame_met (view_of c.self.inside) w bodies
    (subst (λ (v : TransmitValue). StandsFor v w bodies) (sym c.self.view_is) h)
    c.args.exchange c.args.index c.in_ok-carried.carried
    (subst (λ (v : TransmitValue). IsCarried v c.args.exchange c.args.index c.in_ok-carried.carried)
    (sym c.self.view_is) c.in_ok-carried.ensures.carried) c.in-Some.number c.in-Some.is
    (sym (c.in_ok-carried.ensures.unsent w bodies h untold)) c.mark_unsent.new.self c.unsend.new.self
    c.mark_unsent.ensures c.unsend.ensures.room c.unsend.ensures.others c.unsend.ensures.stands

pub returns-in-None-clause-meets : goal.returns-in-None-clause-meets
returns-in-None-clause-meets c w bodies h untold =
    request_met (view_of c.self.inside) w bodies
    (subst (λ (v : TransmitValue). StandsFor v w bodies) (sym c.self.view_is) h)
    c.args.exchange c.args.index c.in_ok-carried.carried
    (subst (λ (v : TransmitValue). IsCarried v c.args.exchange c.args.index c.in_ok-carried.carried)
    (sym c.self.view_is) c.in_ok-carried.ensures.carried) c.in-None.is
    (sym (c.in_ok-carried.ensures.unsent w bodies h untold)) c.mark_unsent.new.self c.mark_unsent.ensures
