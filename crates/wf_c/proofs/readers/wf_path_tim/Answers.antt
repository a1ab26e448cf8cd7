-- Proves that the octets are the TIM element of the addresses that the handle holds, from the path's clause.
use Rattle.std.proofs.Common.{◌∙◌, ap, sym, subst}
use Rattle.std.specs.Prelude.{Option}
use Rattle.wf_octets.specs.declared.tim.Tim.{Tim}
use Rattle.wf_path.specs.Traffic.{tim_shown}
use Rattle.wf_c.specs.Calls.{HoldsFor, addresses_held}
use Rattle.wf_c.specs.declared.held.Held.{Held}
use Rattle.wf_c.proofs.readers.wf_path_tim.Goals as goal

pub returns-clause-octets : goal.returns-clause-octets
returns-clause-octets c w bodies holds =
    c.tim_with.ensures.octets w bodies
    (subst (λ (o : Option Held). HoldsFor o w bodies) c.held.ensures.value holds)
    ∙ (ap (λ (o : Option Held). tim_shown c.given_tim-tim.result (addresses_held o) c.args.bss w)
    (sym c.held.ensures.value)
    ∙ ap (λ (t : Tim). tim_shown t (addresses_held c.args.path.now.value) c.args.bss w)
    c.given_tim-tim.ensures)
