-- Proves that the counts of a new path are 0.
use Rattle.std.proofs.Common.{ap, arith, ℕ, ◌<◌, Option, Some, None}
use Rattle.std.specs.Prelude.{IfSome}
use Rattle.wf_frame.specs.Frames.{FrameValue}
use Rattle.wf_frame.specs.declared.settings.Config.{Config}
use Rattle.wf_def_world.specs.Group.{GroupState}
use Rattle.wf_def_world.specs.World.{opening}
use Rattle.wf_send_half.proofs.Openings.{a_frame}
use Rattle.wf_send_half_model.specs.Half.{TransmitValue}
use Rattle.wf_send_parts.specs.Tally.{Counts}
use Rattle.wf_send_parts.specs.declared.stations.members.Member.{Member}
use Rattle.wf_send_parts.specs.Members.{member, charged_in, received_in}
use Rattle.wf_send_half_model.specs.Standing.{StandsFor, AreBoth, IsMember}
use Rattle.wf_path.specs.Paths.{HasCountsBelow}

-- a station that is not live has no airtimes
none_large : (P : Member → Type 0) (o : Option Member) → AreBoth IsMember o None → IfSome o P
none_large P None both = tt
none_large P (Some m) both = absurd both

pub new_below : (v : TransmitValue) (config : Config) →
    ((bodies : ℕ → FrameValue) → StandsFor v (opening config) bodies) → (n : ℕ) → 0 < n → HasCountsBelow n v
new_below v config stands n some =
    let others = (stands (λ _. a_frame)).parts.others in
    record {
      clock = omega (arith, others.clock, some);
      exchanges = omega (arith, others.exchanges, some);
      accepted = omega (arith, ap (λ (x : Counts). x.accepted) others.tally, some);
      charged = λ s c. none_large (λ m. charged_in m c < n) (member v.members s) (others.stations.live s);
      received = λ s c. none_large (λ m. received_in m c < n) (member v.members s) (others.stations.live s);
      group = λ b. record {
        accepted = omega (arith, ap (λ (g : GroupState). g.accepted) (others.groups.each b), some);
        number = omega (arith, ap (λ (g : GroupState). g.number) (others.groups.each b), some);
        sent = omega (arith, ap (λ (g : GroupState). g.sent) (others.groups.each b), some);
      };
    }
