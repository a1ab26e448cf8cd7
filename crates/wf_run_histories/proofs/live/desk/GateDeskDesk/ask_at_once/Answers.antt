-- Proves that a call that ends an exchange adds one call and at most one look, and that a refused one changes
-- nothing.
use Rattle.wf_run_histories.proofs.Standing.{adds_at_once, refuses_and_looks, on_both, on_both_err}
use Rattle.wf_run_histories.proofs.live.desk.GateDeskDesk.ask_at_once.Goals as goal

pub returns-clause-made : goal.returns-clause-made
returns-clause-made g c = let e = c.call_at_once.ensures in
    on_both c.call_at_once.result e.made e.looks
    (λ adds looks. adds_at_once (λ d. d.seat) c.args.self.now c.call_at_once.new.self _ _ adds looks
    c.requires.at_once)

pub returns-clause-spent : goal.returns-clause-spent
returns-clause-spent g c = let e = c.call_at_once.ensures in
    on_both_err c.call_at_once.result e.spent e.unchanged
    (refuses_and_looks (λ d. d.seat) c.args.self.now c.call_at_once.new.self)
