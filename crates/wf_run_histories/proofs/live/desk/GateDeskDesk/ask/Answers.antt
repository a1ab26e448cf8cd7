-- Proves that a call that waits for its turn adds one call and no look, and that a refused one changes
-- nothing.
use Rattle.wf_run_histories.proofs.Standing.{adds_in_turn, refuses_and_looks, on_both, on_both_err}
use Rattle.wf_run_histories.proofs.live.desk.GateDeskDesk.ask.Goals as goal

pub returns-clause-made : goal.returns-clause-made
returns-clause-made g c = let e = c.call.ensures in
    on_both c.call.result e.made e.looks
    (adds_in_turn (λ d. d.seat) c.args.self.now c.call.new.self _ _)

pub returns-clause-spent : goal.returns-clause-spent
returns-clause-spent g c = let e = c.call.ensures in
    on_both_err c.call.result e.spent e.unchanged
    (refuses_and_looks (λ d. d.seat) c.args.self.now c.call.new.self)
