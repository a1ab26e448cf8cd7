-- Proves what the acceptance of a group frame leaves, from the clauses of `Path::accept_group`.
use Rattle.wf_c.proofs.Groups.{group_accepted}
use Rattle.wf_c.proofs.held.Held.accept_group.Goals as goal

pub returns : goal.returns
returns c = group_accepted c.args.self.now c.accept_group-given.new.self c.accepted-self.result c.args.bss
    c.args.len c.args.tag c.args.to c.of.result c.accept_group-given.result c.accepted-self.ensures
    c.accept_group-given.ensures.meets c.accept_group-given.ensures.queued
    c.accept_group-given.ensures.refused c.accept_group-given.ensures.addresses
    c.accept_group-given.ensures.path c.of.ensures
