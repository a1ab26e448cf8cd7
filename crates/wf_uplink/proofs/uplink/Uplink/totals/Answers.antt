-- By the invariant, the frames that are neither released nor old are stored.
use Rattle.std.proofs.Common.{ℕ, ◌∙◌, ap, arith}
use Rattle.wf_uplink.specs.declared.up.Totals.{Totals}
use Rattle.wf_uplink.specs.Shown.{totals_of}
use Rattle.wf_uplink.specs.World.{held}
use Rattle.wf_uplink.proofs.uplink.Uplink.totals.Goals as goal

with_held : ℕ → ℕ → ℕ → ℕ → ℕ → Totals
with_held frames up old missing held = record {
  frames = frames;
  up = up;
  old = old;
  held = held;
  missing =
      missing;
}

pub returns : goal.returns
unfolding with_held
returns c =
    let u = c.self.inside in
    let each = c.self.invariant.0.each_frame in
    ap (with_held u.frames u.up u.back u.missing) (omega (arith, each)) ∙ ap totals_of c.self.view_is
