-- Proves that all counts of a new path are below 1, and so below 2^62.
use Rattle.std.proofs.Common.{lit<, ◌^◌}
use Rattle.wf_path.proofs.Openings.{new_below}
use Rattle.wf_path.proofs.path.Path.new.Goals as goal

pub returns-clause-small : goal.returns-clause-small
returns-clause-small c = new_below c.in_ok-half.half c.args.config c.in_ok-half.ensures.stands (2 ^ 62) (lit<
    tt)

pub returns-clause-none : goal.returns-clause-none
returns-clause-none c = new_below c.in_ok-half.half c.args.config c.in_ok-half.ensures.stands 1 (lit< tt)
