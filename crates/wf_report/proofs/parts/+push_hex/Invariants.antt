-- The recursion ends because the number of digits gets smaller.
use Rattle.wf_report.proofs.parts.+push_hex.Given as goal

abbrev pub decreases-push_hex : goal.decreases-push_hex
decreases-push_hex l = l.digits
