-- Proves the law `one_class_is_enough` by the lemmas of Listings and OneClass.
use Rattle.wf_send_half_model.proofs.Listings.{one_listing}
use Rattle.wf_send_half_model.proofs.OneClass.{enqueue_listed, pull_listed, done_listed, rx_listed}
use Rattle.wf_send_half_model.proofs.one_class_is_enough.Goals as goal

pub returns-clause-listing : goal.returns-clause-listing
returns-clause-listing c = one_listing

pub returns-clause-enqueue : goal.returns-clause-enqueue
returns-clause-enqueue c = enqueue_listed

pub returns-clause-pull : goal.returns-clause-pull
returns-clause-pull c = pull_listed

pub returns-clause-done : goal.returns-clause-done
returns-clause-done c = done_listed

pub returns-clause-receipt : goal.returns-clause-receipt
returns-clause-receipt c = rx_listed
