-- The recursion ends because the number of digits gets smaller.
use Rattle.wf_run_scripts.proofs.uplink.digits.+push_digits.Given as goal

abbrev pub decreases-push_digits : goal.decreases-push_digits
decreases-push_digits l = l.digits
