-- Proves that the returned seats are all seats of the gate, as those before were.
use Rattle.std.proofs.Common.{rules}
use Rattle.wf_gate.proofs.Clients.{all_again}
use Rattle.wf_tests.proofs.gates.threads.send_in_threads.Goals as goal

pub returns-clause-all : goal.returns-clause-all
returns-clause-all g c =
    all_again c.args.gate.now c.args.seats.items c.in_ok-back.back.items (search rules)
    (λ k d d' l. let j = (c.in_ok-back.ensures.each k d' l).1 in let f = j.call in let is = j.job_is d in
    search rules) c.requires.all
