-- The better of the best key so far and one more key is the best of all keys scanned.
use Rattle.wf_rotation.proofs.ScanLemmas.{found_more}
use Rattle.wf_rotation.proofs.scan.scanned.Goals as goal

pub returns-clause-found : goal.returns-clause-found
returns-clause-found c = λ ready order seen ok is at.
    rw c.better.ensures (found_more c.args.found c.args.key c.args.rank c.args.is_ready ready order seen ok is
    at c.requires.low)
