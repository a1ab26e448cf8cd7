-- All seats are joined, so the slot is back in the table, and the machine has made exactly the calls of the
-- history.
use Rattle.std.proofs.Common.{sym, ap, ◌∙◌, Some}
use Rattle.wf_gate.specs.Seats.{IsOf}
use Rattle.wf_gate.proofs.Calls.{not_out, closed}
use Rattle.wf_gate.proofs.Elements.{all_at}
use Rattle.wf_gate.proofs.gate.Gate.close.Goals as goal

pub gather-pass-requires-clause-own : goal.gather-pass-requires-clause-own
gather-pass-requires-clause-own g c = λ k s at.
    let of = all_at (IsOf c.args.self) c.args.seats.items c.requires.own k s at in
    (of.0 ∙ ap (λ z. z.table) (sym c.self.view_is), of.1 ∙ ap (λ z. Some z.opening) (sym c.self.view_is))

pub unreachable-requires : goal.unreachable-requires
unreachable-requires g c =
    let pass = c.gather-pass.ensures in
    not_out g.M.Machine.past g.M.Machine.settings g.M.Machine.calls_left _ c.args.seats.items _
    c.gather-pass.result.me.0 _ _ _ _ c.self.view_is pass.own.1 pass.own.2 c.requires.all pass.all
    c.close_with-closed.ensures.values.2 c.take.ensures.value c.in_default.is

pub returns : goal.returns
returns g c =
    let pass = c.gather-pass.ensures in
    let k = closed g.M.Machine.past g.M.Machine.settings g.M.Machine.calls_left _ c.args.seats.items _
    c.gather-pass.result.me.0 _ _ _ _ c.in-Some.machine c.self.view_is pass.own.1 pass.own.2
    c.requires.all pass.all c.close_with-closed.ensures.values.2 c.take.ensures.value c.in-Some.is in
    record {
      settings = k.settled;
      history = k.history;
      callers = k.callers;
      seen = k.seen;
      own = k.own;
      looks = k.looks;
    }
