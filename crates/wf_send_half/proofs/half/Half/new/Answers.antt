-- Proves what `Half::new` promises: the new parts have the sizes that the invariant asks for, and represent
-- the opening world.
use Rattle.std.proofs.Common.{◌∙◌, ap, ℕ, replicate}
use Rattle.wf_frame.proofs.Ranges.{in_range}
use Rattle.wf_send_parts.specs.Group.{no_group_frames}
use Rattle.wf_send_half.proofs.Openings.{sizes, stands}
use Rattle.wf_send_half.proofs.half.Half.new.Goals as goal

pub new-requires-8-clause-bsses : goal.new-requires-8-clause-bsses
new-requires-8-clause-bsses c = c.bss_count.ensures.most (in_range c.args.config c.requires).bsses.1

pub new-requires-8-clause-buffered : goal.new-requires-8-clause-buffered
new-requires-8-clause-buffered c = (in_range c.args.config c.requires).buffered.1

pub invariant_of-result : goal.invariant_of-result
invariant_of-result c =
    sizes c.args.config _ _ _ _ _ _ _ _ _ (in_range c.args.config c.requires) c.in_ok-flows.ensures.made
    c.in_ok-sched.ensures c.in_ok-windows.ensures c.in_ok-modes.ensures c.in_ok-members.ensures
    c.in_ok-sleepers.ensures
    c.in_ok-opened.ensures c.new-9.ensures (c.in_ok-groups.ensures
    ∙ ap (λ (n : ℕ). replicate n (no_group_frames c.args.config.buffered)) c.bss_count.ensures.exact)

pub returns : goal.returns
returns c bodies =
    stands c.args.config _ _ _ _ _ _ _ _ _ (in_range c.args.config c.requires) c.in_ok-flows.ensures.made
    c.in_ok-sched.ensures c.in_ok-windows.ensures c.in_ok-modes.ensures c.in_ok-members.ensures
    c.in_ok-sleepers.ensures
    c.in_ok-opened.ensures c.new-9.ensures (c.in_ok-groups.ensures
    ∙ ap (λ (n : ℕ). replicate n (no_group_frames c.args.config.buffered)) c.bss_count.ensures.exact) bodies
