-- Proves the law `the_end_of_a_call` by the lemmas of Listings, Reached, Meets and Whole.
use Rattle.wf_send_half_model.proofs.Listings.{listing_parts}
use Rattle.wf_send_half_model.proofs.Reached.{reached_step}
use Rattle.wf_send_half_model.proofs.Meets.{listed_meets, unlisted_meets, idle_meets}
use Rattle.wf_send_half_model.proofs.Whole.{listed_where_ready, listed_where_debtor}
use Rattle.wf_send_half_model.proofs.the_end_of_a_call.Goals as goal

pub returns-clause-listed : goal.returns-clause-listed
returns-clause-listed c = listing_parts

pub returns-clause-reached : goal.returns-clause-reached
returns-clause-reached c = reached_step

pub returns-clause-concerned : goal.returns-clause-concerned
returns-clause-concerned c = listed_meets

pub returns-clause-unconcerned : goal.returns-clause-unconcerned
returns-clause-unconcerned c = unlisted_meets

pub returns-clause-nobody_new : goal.returns-clause-nobody_new
returns-clause-nobody_new c = idle_meets

pub returns-clause-ready : goal.returns-clause-ready
returns-clause-ready c = listed_where_ready

pub returns-clause-debtor : goal.returns-clause-debtor
returns-clause-debtor c = listed_where_debtor
