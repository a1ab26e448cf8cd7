-- Proves `root_law` (lib.rt) from the lemmas.
use Rattle.wf_law_rules.proofs.Lemmas.Roots.{root-is, same_root}
use Rattle.wf_law_rules.proofs.root_law.Goals as goal

pub returns-clause-computed : goal.returns-clause-computed
returns-clause-computed c = root-is

pub returns-clause-one : goal.returns-clause-one
returns-clause-one c = λ n d e is same. same_root n d e is same
