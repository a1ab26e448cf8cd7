-- A reset buffer is empty, and its start is the new B.
use Rattle.std.proofs.Common.{ℕ, List, ◌∙◌, ap, ap₂}
use Rattle.wf_recv_peer.specs.Buffer.{Buffer}
use Rattle.wf_uplink.specs.Reordering.{Reordering, Stored}
use Rattle.wf_uplink.specs.Standing.{reordering_of_buffer}
use Rattle.wf_uplink.proofs.Standing.{no_more}
use Rattle.wf_uplink.proofs.sequencer.Sequencer.reset.Goals as goal

at_start : ℕ → ℕ → List Stored → Reordering
at_start start window xs = record { start = start; window = window; stored = xs; since = 0 }

pub returns : goal.returns
unfolding at_start
returns c =
    ap₂ (λ n (b : Buffer). reordering_of_buffer n c.args.window 0 b) c.from-self-inside.ensures
    c.reset.ensures
    ∙ ap (at_start c.args.start c.args.window) (no_more c.args.start c.args.window)
