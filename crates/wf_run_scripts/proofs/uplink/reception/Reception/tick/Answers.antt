-- Proves that the written text is the clock, followed by the text of the timeouts. By cases of which step
-- failed.
use Rattle.std.proofs.Common.{◌≡◌, ◌*◌, true, replicate, sym, ◌∙◌, ap, subst}
use Rattle.std.specs.Io.KnownBytes.{append_known}
use Rattle.wf_io.specs.Fronts.{HoldsFront}
use Rattle.wf_io.proofs.FrontLaws.{front_first, front_next, two_written}
use Rattle.wf_uplink.specs.World.{World, Tick, Now, Expire, tids_of_station, after_calls}
use Rattle.wf_run_scripts.specs.UplinkAnswers.{stations, answer_text, calls_text}
use Rattle.wf_run_scripts.specs.UplinkRoom.{lacks_room}
use Rattle.wf_run_scripts.proofs.UplinkCalls.{after_one, tick_text}
use Rattle.wf_run_scripts.proofs.UplinkRoom.{later_lacks, tick_lacks}
use Rattle.wf_run_scripts.proofs.UplinkWriting.{on_ok, on_err, on_err_by}
use Rattle.wf_run_scripts.proofs.uplink.reception.Reception.tick.Goals as goal

pub returns-in_err-now-clause-memory : goal.returns-in_err-now-clause-memory
returns-in_err-now-clause-memory g c = λ is.
    tick_lacks c.args.self.now c.args.by (replicate (tids_of_station * stations) Expire)
    c.in_err-now.ensures.fails

pub returns-in_err-write_line-clause-front : goal.returns-in_err-write_line-clause-front
returns-in_err-write_line-clause-front g c =
    let line = c.print_now.new.out in
    let told = c.print_now.ensures ∙ ap (λ n. answer_text (Now n)) c.in_ok-now.ensures.now in
    on_err _ _
    (subst (HoldsFront (g.K.Sink.held c.args.sink.now) (g.K.Sink.held c.write_line.new.sink))
    (sym (tick_text c.args.self.now c.pass.new.self c.args.by line told c.in_ok-now.ensures.after))
    (front_first (g.K.Sink.held c.args.sink.now) (g.K.Sink.held c.write_line.new.sink) line
    (calls_text c.pass.new.self (replicate (tids_of_station * stations) Expire))
    c.in_err-write_line.ensures.front))

pub returns-clause-written : goal.returns-clause-written
returns-clause-written g c =
    let line = c.print_now.new.out in
    let told = c.print_now.ensures ∙ ap (λ n. answer_text (Now n)) c.in_ok-now.ensures.now in
    on_ok c.give_up.result _ _
    (λ wrote. two_written (g.K.Sink.held c.args.sink.now) (g.K.Sink.held c.write_line.new.sink)
    (g.K.Sink.held c.give_up.new.sink) line (calls_text c.pass.new.self
    (replicate (tids_of_station * stations) Expire))
    c.in_ok-write_line.ensures.written wrote
    ∙ ap (append_known (g.K.Sink.held c.args.sink.now))
    (sym (tick_text c.args.self.now c.pass.new.self c.args.by line told c.in_ok-now.ensures.after)))
    c.give_up.ensures.written

pub returns-clause-after : goal.returns-clause-after
returns-clause-after g c =
    on_ok c.give_up.result _ _
    (λ is. is ∙ ap (λ (v : World). after_calls v (replicate (tids_of_station * stations) Expire))
    c.in_ok-now.ensures.after
    ∙ sym (after_one c.args.self.now (Tick c.args.by) (replicate (tids_of_station * stations) Expire)))
    c.give_up.ensures.after

pub returns-clause-front : goal.returns-clause-front
returns-clause-front g c =
    let line = c.print_now.new.out in
    let told = c.print_now.ensures ∙ ap (λ n. answer_text (Now n)) c.in_ok-now.ensures.now in
    on_err_by c.give_up.result _ _
    (λ front. subst (HoldsFront (g.K.Sink.held c.args.sink.now) (g.K.Sink.held c.give_up.new.sink))
    (sym (tick_text c.args.self.now c.pass.new.self c.args.by line told c.in_ok-now.ensures.after))
    (front_next (g.K.Sink.held c.args.sink.now) (g.K.Sink.held c.write_line.new.sink)
    (g.K.Sink.held c.give_up.new.sink) line (calls_text c.pass.new.self
    (replicate (tids_of_station * stations) Expire))
    c.in_ok-write_line.ensures.written front))
    c.give_up.ensures.front

pub returns-clause-memory : goal.returns-clause-memory
returns-clause-memory g c = λ is.
    later_lacks c.args.self.now (Tick c.args.by) (replicate (tids_of_station * stations) Expire)
    (subst (λ (v : World). lacks_room v (replicate (tids_of_station * stations) Expire) ≡ true)
    c.in_ok-now.ensures.after (c.give_up.ensures.memory is))
