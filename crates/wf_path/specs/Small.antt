-- Defines when the airtimes of a station are small.
use Rattle.std.specs.Prelude.{ℕ, ◌<◌, ◌^◌, IfSome}
use Rattle.wf_frame.specs.declared.classes.Class.{Class}
use Rattle.wf_send_parts.specs.Members.{member, charged_in, received_in}
use Rattle.wf_send_half_model.specs.Half.{TransmitValue}

-- if station s is live, the airtimes that it was charged and used in class c are below 2^62 microseconds
pub record IsSmallIn (v : TransmitValue) (s : ℕ) (c : Class) : Type 0 where
  pub charged : IfSome (member v.members s) (λ m. charged_in m c < 2 ^ 62)
  pub received : IfSome (member v.members s) (λ m. received_in m c < 2 ^ 62)
