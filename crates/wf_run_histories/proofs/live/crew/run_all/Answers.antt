-- Proves that each result belongs to the worker at this seat.
use Rattle.std.proofs.Common.{rules}
use Rattle.wf_run_histories.proofs.live.crew.run_all.Goals as goal

pub returns-clause-each : goal.returns-clause-each
returns-clause-each g c = λ k d r below. let j = (c.in_ok-back.ensures.each k r below).1 in let f = j.call in
    let is = j.job_is d in rw is (search rules)
