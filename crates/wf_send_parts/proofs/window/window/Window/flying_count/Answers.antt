-- Proves the contract of `Window::flying_count`: at the end all places are counted.
use Rattle.std.proofs.Common.{ap, ◌∙◌, List, Option, arith}
use Rattle.std.proofs.lemmas.List.{take_all}
use Rattle.std.specs.Prelude.{count_by}
use Rattle.wf_send_parts.specs.declared.window.place.Place.{Place}
use Rattle.wf_send_parts.specs.Flying.{flies}
use Rattle.wf_send_parts.specs.Window.{WindowValue}
use Rattle.wf_send_parts.proofs.Flying.{all_fly}
use Rattle.wf_send_parts.proofs.window.window.Window.flying_count.Goals as goal

pub returns-clause-flying : goal.returns-clause-flying
returns-clause-flying c s bodies stands =
    c.loop-i.invariant.counted
    ∙ ap (λ (ps : List (Option Place)). count_by flies ps)
    (take_all c.loop-i.i c.self.inside.ring.items (omega arith))
    ∙ ap (λ (w : WindowValue). count_by flies w.places) c.self.view_is
    ∙ all_fly _ s bodies stands
