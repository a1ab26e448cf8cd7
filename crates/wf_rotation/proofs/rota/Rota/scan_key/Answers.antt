-- The key's round is its need, and one more on the old list.
use Rattle.std.proofs.Common.{◌∙◌, refl, arith, []}
use Rattle.wf_rotation.specs.Rotas.{is_ready}
use Rattle.wf_law_rules.proofs.Lemmas.Counts.{on-cons_same}
use Rattle.wf_rotation.proofs.rota.Rota.scan_key.Goals as goal

pub returns-clause-found : goal.returns-clause-found
returns-clause-found c = λ order seen before rounds.
    c.scanned.ensures.found (is_ready c.args.ready.now) order seen before refl
    (rounds c.args.key (omega (arith, on-cons_same c.args.key []))
    ∙ omega (arith, c.need.ensures.need, c.first_round_of.ensures))
