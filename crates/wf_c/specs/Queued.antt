-- Defines how a struct shows a queue, and the code of reading one.
use Rattle.std.specs.Prelude.{◌≡◌, ℕ, nat_lt, if◌then◌else◌}
use Rattle.wf_frame.specs.Refusals.{refusal_number}
use Rattle.wf_frame.specs.declared.notes.Refusal.TheVariants as refusal
use Rattle.wf_def_codel.specs.Codel.{octets}
use Rattle.wf_def_world.specs.World.{World, queue}
use Rattle.wf_send_half.specs.Queued.{queue_count}
use Rattle.wf_c.specs.Numbers.{flag_of}
use Rattle.wf_c.specs.declared.queues.Codel.{Codel}

-- the caller's struct shows the octets of queue q, and the state of CoDel in it
pub record ShowsCodel (w : World) (q : ℕ) (shown : Codel) : Type 0 where
  pub octets : shown.octets ≡ octets (queue w q).items
  pub drop_next : shown.drop_next ≡ (queue w q).codel.drop_next
  pub drop_count : shown.drop_count ≡ (queue w q).codel.count
  pub dropping : shown.dropping ≡ flag_of (queue w q).codel.dropping
  pub dropped : shown.dropped ≡ (queue w q).codel.dropped

-- the code of reading queue q
abbrev pub queue_code : World → ℕ → ℕ
queue_code w q = if nat_lt q (queue_count w) then 0 else refusal_number refusal.BadIndex
