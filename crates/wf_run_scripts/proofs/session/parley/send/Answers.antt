-- Proves that the octets of the new message decode to its action.
use Rattle.std.proofs.Common.{All, sym, subst, List, ℕ}
use Rattle.std.proofs.lemmas.List.Elements.{All-push}
use Rattle.wf_run_scripts.specs.Wires.{IsRead}
use Rattle.wf_run_scripts.proofs.Wires.{is_read}
use Rattle.wf_run_scripts.proofs.session.parley.send.Goals as goal

pub returns-in_ok-push-clause-read : goal.returns-in_ok-push-clause-read
returns-in_ok-push-clause-read c = λ all.
    subst (λ (l : List (List ℕ)). All IsRead l) (sym c.in_ok-push.ensures.items)
    (All-push IsRead c.args.sent.now.items c.of.result all
    (is_read c.of.result c.in-Some.action c.of.ensures.read_back))
