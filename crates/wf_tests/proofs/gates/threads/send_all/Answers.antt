-- Proves that the seat's entries are those before and those of the calls, one call of the loop at a time.
use Rattle.std.proofs.Common.{rules, refl, ap, ◌∙◌, sym, take, subst, ◌++◌}
use Rattle.std.proofs.lemmas.List.{take_more, append-nil, append_assoc}
use Rattle.wf_gate.specs.Seats.{StandsWithCalls}
use Rattle.wf_gate.proofs.Clients.{calls_more}
use Rattle.wf_tests.proofs.gates.threads.send_all.Goals as goal

pub loop-tick-init : goal.loop-tick-init
loop-tick-init g c =
    let seat = c.args.seat.now in
    record {
      of = c.requires;
      number = refl;
      sent =
          λ made calls. subst (λ l. StandsWithCalls seat.number seat.seen seat.own l)
          (sym (append-nil made)) calls;
    }

pub loop-tick-preserved : goal.loop-tick-preserved
loop-tick-preserved g c =
    let i = c.loop-tick.invariant in
    let e = c.in-Ok.ensures in
    let old = c.loop-tick.seat in
    let new = c.call.new.seat in
    let before = take c.loop-tick.tick-index c.args.ticks.now in
    let more = take_more c.args.ticks.now c.loop-tick.tick-index 0 (search rules) in
    record {
      of = (e.same.table ∙ i.of.0, e.same.opening ∙ i.of.1);
      number = e.same.number ∙ i.number;
      sent = λ made calls. subst (λ l. StandsWithCalls c.args.seat.now.number new.seen new.own l)
          (append_assoc made before _ ∙ ap (λ l. made ++ l) (sym more))
          (calls_more c.args.seat.now.number old.number old.seen new.seen old.own new.own
          (made ++ before) _ i.number e.seen e.entry e.own (i.sent made calls));
    }
