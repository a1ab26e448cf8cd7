-- The two laws of CoDel over several dequeues of one queue (specs/CodelLaws).
use Rattle.wf_law_rules.specs.CodelLaws.{StandingLaw, RateLaw}
use Rattle.wf_law_rules.proofs.Standing.{standing_law}
use Rattle.wf_law_rules.proofs.Rate.{rate_law}

pub standing : StandingLaw
standing = standing_law

pub rate : RateLaw
rate = rate_law
