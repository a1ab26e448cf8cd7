-- Proves that the recipient receives the action that the message's octets decode to, and that its response is
-- sent.
use Rattle.std.proofs.Common.{◌∙◌, List, ℕ, ap}
use Rattle.std.specs.Prelude.{slice_get}
use Rattle.wf_session.specs.declared.event.Event.TheVariants.{ToRecipient}
use Rattle.wf_session.specs.Faults.{decoded_action}
use Rattle.wf_session.specs.World.{Parley, after_event}
use Rattle.wf_run_scripts.specs.declared.session.refusal.Refusal.TheVariants.{NoMessage}
use Rattle.wf_run_scripts.specs.SessionAnswers.{unless_there}
use Rattle.wf_run_scripts.proofs.Wires.{arrives_here, ends_kept, there_refused}
use Rattle.wf_run_scripts.proofs.session.parley.Parley.to_recipient.Goals as goal

pub invariant_of-self : goal.invariant_of-self
invariant_of-self c =
    let inside = c.self.inside in (
      ends_kept inside.tid inside.limit inside.originator inside.recipient _
          (decoded_action c.in-Some.octets.now) c.self.invariant.0 c.receive-answer.ensures.after,
      c.self.invariant.1,
      c.in_err-send.ensures.read c.self.invariant.2,
    )

pub invariant_of-self-2 : goal.invariant_of-self-2
invariant_of-self-2 c =
    let inside = c.self.inside in (
      ends_kept inside.tid inside.limit inside.originator inside.recipient _
          (decoded_action c.in-Some.octets.now) c.self.invariant.0 c.receive-answer.ensures.after,
      c.self.invariant.1,
      c.in_ok-send.ensures.read c.self.invariant.2,
    )

pub returns-clause-refusal : goal.returns-clause-refusal
returns-clause-refusal c =
    there_refused c.self.inside.asks.items c.args.index c.in-Some.octets.now
    (c.in-Some.ensures ∙ ap (λ (sent : List (List ℕ)). slice_get sent c.args.index) c.deref.ensures.value)
    ∙ ap (λ (w : Parley). unless_there NoMessage (slice_get w.asks c.args.index)) c.self.view_is

pub returns-clause-after : goal.returns-clause-after
returns-clause-after c =
    let inside = c.self.inside in
    arrives_here inside.originator inside.recipient _ inside.asks.items inside.answers.items _ c.args.index
    c.in-Some.octets.now _ c.self.invariant.1
    (c.in-Some.ensures ∙ ap (λ (sent : List (List ℕ)). slice_get sent c.args.index) c.deref.ensures.value)
    c.receive-answer.ensures.after c.receive-answer.ensures.answer c.in_ok-send.ensures.sent
    ∙ ap (after_event (ToRecipient c.args.index)) c.self.view_is
