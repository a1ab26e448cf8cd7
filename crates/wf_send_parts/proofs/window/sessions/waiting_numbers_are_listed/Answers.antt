-- Proves the law `waiting_numbers_are_listed` by the lemmas of Listing.
use Rattle.wf_send_parts.proofs.Listing.{listing_begins, listing_near, listing_next, listing_ends, waiting_exactly, waiting_rise}
use Rattle.wf_send_parts.proofs.window.sessions.waiting_numbers_are_listed.Goals as goal

pub returns-clause-begins : goal.returns-clause-begins
returns-clause-begins c = listing_begins

pub returns-clause-near : goal.returns-clause-near
returns-clause-near c w s bodies numbers from stands so_far =
    listing_near w s bodies stands numbers from so_far

pub returns-clause-next : goal.returns-clause-next
returns-clause-next c s numbers from seq so_far e = listing_next s numbers from so_far seq e

pub returns-clause-ends : goal.returns-clause-ends
returns-clause-ends c = listing_ends

pub returns-clause-exactly : goal.returns-clause-exactly
returns-clause-exactly c = waiting_exactly

pub returns-clause-rising : goal.returns-clause-rising
returns-clause-rising c = waiting_rise
