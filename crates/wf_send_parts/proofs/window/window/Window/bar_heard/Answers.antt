-- Proves the contract of `Window::bar_heard` for a start that is past the last failed number.
use Rattle.std.proofs.Common.{◌≡◌, Bool, Some, None, false, if◌then◌else◌, nat_le, ap, sym, ◌∙◌, arith}
use Rattle.std.proofs.lemmas.Bool.Decides.{nat_tests}
use Rattle.wf_send_parts.specs.Places.{at_most}
use Rattle.wf_send_parts.proofs.Steps.{heard_step}
use Rattle.wf_send_parts.proofs.window.window.Window.bar_heard.Goals as goal

pub returns-then-ahead-distance-clause-stands : goal.returns-then-ahead-distance-clause-stands
returns-then-ahead-distance-clause-stands c s bodies f stands a b d =
    let q = c.self.inside in
    let over : nat_le c.in-Some.distance c.ahead.result ≡ false =
    grind (arith, nat_tests, c.if-ahead-distance.true) in
    let gone : None ≡ at_most c.ahead.result q.passed.due =
    sym (ap (at_most c.ahead.result) c.in-Some.is
    ∙ ap (λ (t : Bool). if t then Some c.in-Some.distance else None) over) in
    heard_step q.size q.start q.passed q.ring c.args.self.now c.self.view_is c.args.start None s bodies f
    c.ahead.result c.ahead.ensures.number gone stands a b d
