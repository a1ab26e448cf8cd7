-- Proves that a class has a flag that is up exactly if its count is not 0.
use Rattle.std.proofs.Common.{ap, ◌∙◌, ℕ, Bool, nat_lt, get_or, map, Vec, Global}
use Rattle.std.specs.List.{list_any}
use Rattle.wf_send_half.specs.Flags.{Flags, flags_in}
use Rattle.wf_send_half.proofs.FlagCounts.{some_up}
use Rattle.wf_send_half.proofs.flags.Ready.has_any.Goals as goal

pub returns : goal.returns
returns c =
    ap (λ (n : ℕ). nat_lt 0 (get_or c.self.inside.counts n 0)) c.number.ensures.place
    ∙ ap (λ (n : ℕ). nat_lt 0 n) (c.self.invariant.right c.args.class)
    ∙ some_up (flags_in (map (λ (v : Vec Bool Global). v.items) c.self.inside.flags) c.args.class)
    ∙ ap (λ (r : Flags). list_any (λ up. up) (flags_in r c.args.class)) c.self.view_is
