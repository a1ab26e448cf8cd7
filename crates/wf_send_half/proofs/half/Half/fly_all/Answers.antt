-- Proves what `Half::fly_all` promises: each step marks the next number as in flight and writes its pair, by
-- the lemmas of Flying.
use Rattle.std.proofs.Common.{◌≡◌, ap, sym, ◌∙◌, subst, arith, ℕ, List}
use Rattle.std.specs.Prelude.{slice_get}
use Rattle.wf_frame.specs.Frames.{FrameValue}
use Rattle.wf_def_agreement.specs.Session.{State, Session, slot, with_state}
use Rattle.wf_send_parts.specs.Window.{WindowStandsFor as WindowStandsFor, IsNumber, HasOwnFrame}
use Rattle.wf_send_parts.specs.Sent.{with_one_sent}
use Rattle.wf_send_parts.specs.Windows.{window_of}
use Rattle.wf_send_half_model.specs.Half.{TransmitValue}
use Rattle.wf_send_half.proofs.CallSteps.{view_of}
use Rattle.wf_send_half.proofs.Flying.{flying_waits, flying_next, all_fly, as_many, one_more_pair}
use Rattle.wf_send_half.proofs.half.Half.fly_all.Goals as goal

pub fly-id-requires-clause-waits : goal.fly-id-requires-clause-waits
fly-id-requires-clause-waits c =
    let h = c.requires.off in
    flying_waits (view_of c.loop-i.self-inside) h.bodies c.args.station c.args.tid c.args.self.now.exchanges
    h.mpdus h.after c.loop-i.i c.loop-i.pairs
    (c.loop-i.invariant.flying h.world h.bodies h.mpdus h.after h.off h.on_air) c.at-number.result
    (ap (λ (ns : List ℕ). slice_get ns c.loop-i.i) (sym h.on_air) ∙ c.at-number.ensures)

pub loop-i-preserved : goal.loop-i-preserved
loop-i-preserved c = record {
  flying = λ w bodies mpdus after off on_air.
      let x : TransmitValue = view_of c.loop-i.self-inside in
      let same : c.loop-i.self-inside.exchanges ≡ c.args.self.now.exchanges =
      ap (λ (z : TransmitValue). z.exchanges) c.loop-i.invariant.others in
      let flies = subst (λ (e : ℕ). (y : Session) (all : ℕ → FrameValue) (n : ℕ) →
      WindowStandsFor (window_of x.windows c.args.station c.args.tid) y all →
      IsNumber y n c.at-number.result → HasOwnFrame y n → WindowStandsFor
      (window_of c.fly-id.new.self c.args.station c.args.tid) (with_state (State.Flying e) n y)
      (with_one_sent (slot y n).id all)) same c.fly-id.ensures.stands in
      rw (c.push.ensures, c.raw.ensures.number)
      (flying_next x bodies c.args.station c.args.tid c.args.self.now.exchanges mpdus after c.loop-i.i
      c.loop-i.pairs (c.loop-i.invariant.flying w bodies mpdus after off on_air) c.at-number.result
      (ap (λ (ns : List ℕ). slice_get ns c.loop-i.i) (sym on_air) ∙ c.at-number.ensures) c.fly-id.result
      c.fly-id.ensures.id c.fly-id.new.self c.fly-id.ensures.others c.fly-id.ensures.room flies);
  others = ap (λ (z : TransmitValue). record z { windows = c.fly-id.new.self }) c.loop-i.invariant.others;
  sized = c.fly-id.ensures.count ∙ c.loop-i.invariant.sized;
  count = one_more_pair c.loop-i.pairs c.push.new.self
      (c.fly-id.result, c.raw.result) c.loop-i.i c.push.ensures c.loop-i.invariant.count;
}

pub returns-clause-flown : goal.returns-clause-flown
returns-clause-flown c w bodies mpdus after off on_air =
    all_fly (view_of c.loop-i.self-inside) bodies c.args.station c.args.tid c.args.self.now.exchanges mpdus
    after c.loop-i.i c.loop-i.pairs (c.loop-i.invariant.flying w bodies mpdus after off on_air)
    c.loop-i.invariant.count
    (omega (arith, as_many mpdus c.args.numbers.now on_air, c.len-i-end.ensures.count, c.loop-i-test.false))
