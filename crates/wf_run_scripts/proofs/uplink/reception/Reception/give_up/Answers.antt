-- Proves that the loop writes the text of the timeouts, one hole per step. It ends when no hole is due, when
-- no room is left, or when the sink fails.
use Rattle.std.proofs.Common.{◌≡◌, suc, ◌+◌, ◌*◌, ◌-◌, replicate, sym, ◌∙◌, ap, subst, arith}
use Rattle.wf_uplink.specs.World.{World, Expire, tids_of_station, first_due, after_calls}
use Rattle.wf_uplink.proofs.Heard.{none_after}
use Rattle.wf_uplink.proofs.Worlds.{none_of}
use Rattle.wf_run_scripts.specs.UplinkAnswers.{stations, calls_text}
use Rattle.wf_run_scripts.proofs.UplinkCalls.{GivesUp, text_none, after_none, quiet_after, quiet_text, due_step, due_front, full_front, given_up_text}
use Rattle.wf_run_scripts.proofs.UplinkWriting.{on_err}
use Rattle.wf_run_scripts.proofs.uplink.reception.Reception.give_up.Goals as goal

pub returns-then-not-has_room-clause-memory : goal.returns-then-not-has_room-clause-memory
returns-then-not-has_room-clause-memory g c =
    let left : tids_of_station * stations - c.loop.counter
    ≡ suc (tids_of_station * stations - (c.loop.counter + 1)) = omega (arith, c.loop-test.true) in
    λ is. full_front (g.K.Sink.held c.args.sink.now) (g.K.Sink.held c.loop.sink) c.args.self.now c.loop.self
    (tids_of_station * stations - c.loop.counter)
    (tids_of_station * stations - (c.loop.counter + 1)) left c.loop.invariant.0
    (sym c.has_room.ensures.exactly ∙ c.if-not-has_room.true)

pub returns-then-not-expired-clause-written : goal.returns-then-not-expired-clause-written
returns-then-not-expired-clause-written g c =
    let w = c.self.inside.uplink in
    let left = tids_of_station * stations - c.loop.counter in
    given_up_text (g.K.Sink.held c.args.sink.now) (g.K.Sink.held c.loop.sink) c.args.self.now w left
    (subst (λ (v : World). GivesUp (g.K.Sink.held c.args.sink.now)
    (g.K.Sink.held c.loop.sink) c.args.self.now v left) (sym c.self.view_is) c.loop.invariant.0)
    (quiet_text w left (none_of (first_due w) (sym c.expired.ensures.due ∙ c.if-not-expired.true)))

pub returns-then-not-expired-clause-after : goal.returns-then-not-expired-clause-after
returns-then-not-expired-clause-after g c =
    let w = c.self.inside.uplink in
    let left = tids_of_station * stations - c.loop.counter in
    let none = none_of (first_due w) (sym c.expired.ensures.due ∙ c.if-not-expired.true) in
    c.expired.ensures.after ∙ sym (none_after w none) ∙ sym (quiet_after w left none)
    ∙ ap (λ (v : World). after_calls v (replicate left Expire)) c.self.view_is ∙ sym c.loop.invariant.0.after

pub returns-in_err-write_up-clause-front : goal.returns-in_err-write_up-clause-front
returns-in_err-write_up-clause-front g c =
    let left : tids_of_station * stations - c.loop.counter
    ≡ suc (tids_of_station * stations - (c.loop.counter + 1)) = omega (arith, c.loop-test.true) in
    on_err _ _
    (due_front (g.K.Sink.held c.args.sink.now) (g.K.Sink.held c.loop.sink)
    (g.K.Sink.held c.write_up.new.sink) c.args.self.now c.loop.self c.self.inside.uplink c.expired.new.up
    (tids_of_station * stations - c.loop.counter)
    (tids_of_station * stations - (c.loop.counter + 1)) c.self.view_is left c.loop.invariant.0
    (sym c.expired.ensures.due ∙ c.if-not-expired.false) c.expired.ensures.up c.in_err-write_up.ensures.front)

pub loop-preserved : goal.loop-preserved
loop-preserved g c =
    let left : tids_of_station * stations - c.loop.counter
    ≡ suc (tids_of_station * stations - (c.loop.counter + 1)) = omega (arith, c.loop-test.true) in (
      due_step (g.K.Sink.held c.args.sink.now) (g.K.Sink.held c.loop.sink)
          (g.K.Sink.held c.write_up.new.sink) c.args.self.now c.loop.self c.self.inside.uplink
          c.expired.new.self c.expired.new.up
          (tids_of_station * stations - c.loop.counter)
          (tids_of_station * stations - (c.loop.counter + 1)) c.self.view_is left c.loop.invariant.0
          (sym c.expired.ensures.due ∙ c.if-not-expired.false) c.expired.ensures.up c.expired.ensures.after
          c.in_ok-write_up.ensures.written,
      c.in_ok-write_up.ensures.quiet (λ is. absurd (cc)) ∙ c.loop.invariant.1,
    )

pub returns-clause-written : goal.returns-clause-written
returns-clause-written g c =
    let over : tids_of_station * stations - c.loop.counter ≡ 0 = omega (arith, c.loop-test.false) in
    given_up_text (g.K.Sink.held c.args.sink.now) (g.K.Sink.held c.loop.sink) c.args.self.now c.loop.self
    (tids_of_station * stations - c.loop.counter) c.loop.invariant.0
    (ap (λ n. calls_text c.loop.self (replicate n Expire)) over ∙ text_none c.loop.self)

pub returns-clause-after : goal.returns-clause-after
returns-clause-after g c =
    let over : tids_of_station * stations - c.loop.counter ≡ 0 = omega (arith, c.loop-test.false) in
    sym (c.loop.invariant.0.after ∙ ap (λ n. after_calls c.loop.self (replicate n Expire)) over
    ∙ after_none c.loop.self)
