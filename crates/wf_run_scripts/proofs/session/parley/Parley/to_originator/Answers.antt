-- Proves that the originator receives the action that the message's octets decode to.
use Rattle.std.proofs.Common.{◌∙◌, List, ℕ, ap}
use Rattle.std.specs.Prelude.{slice_get}
use Rattle.wf_session.specs.declared.event.Event.TheVariants.{ToOriginator}
use Rattle.wf_session.specs.Ends.{OfferValue}
use Rattle.wf_session.specs.World.{after_event}
use Rattle.wf_run_scripts.proofs.Wires.{parley, arrives_there}
use Rattle.wf_run_scripts.proofs.session.parley.Parley.to_originator.Goals as goal

pub returns-clause-after : goal.returns-clause-after
returns-clause-after c =
    let inside = c.self.inside in
    ap (λ (o : OfferValue). parley o inside.recipient inside.asks.items inside.answers.items)
    c.receive.ensures
    ∙ arrives_there inside.originator inside.recipient inside.asks.items inside.answers.items c.args.index
    c.in-Some.octets.now c.self.invariant.2
    (c.in-Some.ensures ∙ ap (λ (sent : List (List ℕ)). slice_get sent c.args.index) c.deref.ensures.value)
    ∙ ap (after_event (ToOriginator c.args.index)) c.self.view_is
