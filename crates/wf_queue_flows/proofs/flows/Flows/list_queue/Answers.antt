-- A queue that is not listed gets a fresh deficit and goes last on the TID's new list.
use Rattle.wf_queue_flows.proofs.Moves.{list_keeps, list_is, list_stands, list_stays, listed_already}
use Rattle.wf_queue_flows.proofs.flows.Flows.list_queue.Goals as goal

pub invariant_of-self : goal.invariant_of-self
invariant_of-self c = list_keeps _ _ _ c.self.view_is c.self.invariant c.args.list c.args.q
    c.add_fresh.new.self c.start_listed.new.self c.requires.list c.requires.queue c.requires.own
    c.in-None.ensures.none c.add_fresh.ensures c.start_listed.ensures.frames c.start_listed.ensures.room

pub returns-in-None-clause-listed : goal.returns-in-None-clause-listed
returns-in-None-clause-listed c = list_is _ _ _ c.self.view_is c.self.invariant c.args.list c.args.q
    c.add_fresh.new.self c.start_listed.new.self c.requires.queue c.in-None.ensures.none
    c.add_fresh.ensures c.start_listed.ensures.state

pub returns-in-None-clause-stands : goal.returns-in-None-clause-stands
returns-in-None-clause-stands c = list_stands _ _ _ c.self.view_is c.self.invariant c.args.list c.args.q _
    c.add_fresh.new.self c.requires.list c.add_fresh.ensures

pub returns-in-Some-clause-listed : goal.returns-in-Some-clause-listed
returns-in-Some-clause-listed c = listed_already _ _ _ c.self.view_is c.self.invariant c.args.list c.args.q _
    _ c.requires.own c.in-Some.ensures.some.1

pub returns-in-None-clause-stay : goal.returns-in-None-clause-stay
returns-in-None-clause-stay c = list_stays _ _ _ c.self.view_is c.self.invariant c.args.list c.args.q _
    c.add_fresh.new.self c.requires.list c.add_fresh.ensures
