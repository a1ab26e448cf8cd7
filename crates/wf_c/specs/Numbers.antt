-- Defines how the fields of a struct show an answer.
use Rattle.std.specs.Prelude.{ℕ, ◌==◌, not, Bool, true, false, Option, Some, None, pos, slice_get, if◌then◌else◌}
use Rattle.wf_frame.specs.Classes.{all_classes, class_number, fate_number}
use Rattle.wf_frame.specs.declared.classes.Class.{Class}
use Rattle.wf_frame.specs.declared.answers.Brief.{Brief}
use Rattle.wf_frame.specs.declared.answers.Brief.TheVariants.{Joined, Set, Now, Accepted, Send, Released, Ba, Done, Slept, Woken, Polled, Charged, Reaped, Stopped, Started, Marked, Ack, Begun, Freed, Refused}
use Rattle.wf_frame.specs.declared.answers.Brief.TheVariants as brief
use Rattle.wf_frame.specs.declared.answers.Kind.{Kind}
use Rattle.wf_frame.specs.declared.answers.Kind.TheVariants.{Batch, Plain}
use Rattle.wf_frame.specs.declared.notes.GroupReply.{GroupReply}
use Rattle.wf_frame.specs.declared.notes.GroupReply.TheVariants as group
use Rattle.wf_frame.specs.declared.notes.ServiceReply.{ServiceReply}
use Rattle.wf_frame.specs.declared.notes.ServiceReply.TheVariants as service
use Rattle.wf_frame.specs.Calls.{limits}
use Rattle.wf_frame.specs.Refusals.{refusal_number}
use Rattle.wf_frame.specs.declared.notes.Limits.{Limits}
use Rattle.wf_frame.specs.declared.notes.Refusal.{Refusal}
use Rattle.wf_frame.specs.declared.notes.Refusal.TheVariants as refusal
use Rattle.wf_rotation.specs.declared.side.Side.{Side}
use Rattle.wf_rotation.specs.declared.side.Side.TheVariants.{New, Old}
use Rattle.wf_c.specs.declared.reply.Reply.{Reply}

-- ---- numbers

-- a flag is 0 or 1
abbrev pub flag_of : Bool → ℕ
flag_of false = 0
flag_of true = 1

-- the class that a number names: 0 to 3 name one
abbrev pub class_shown : ℕ → Option Class
class_shown n = slice_get all_classes n

-- the code of a number that names no class
abbrev pub bad_class : ℕ
bad_class = 67

-- the list of a class that contains a station: 1 the new one, 2 the old one, 0 neither
abbrev pub list_number : Option Side → ℕ
list_number None = 0
list_number (Some New) = 1
list_number (Some Old) = 2

-- ---- airtimes and limits

-- the airtime or the limit that a number gives; 0 gives none
abbrev pub given_number : ℕ → Option ℕ
given_number n = if n == 0 then None else Some n

-- the limits that two numbers give to a pull
abbrev pub limits_given : (frames air : ℕ) → Limits
limits_given frames air = limits (given_number frames) (given_number air)

-- ---- answers

-- all fields are 0
abbrev pub blank : Reply
blank = record {
  exchange = 0;
  id = 0;
  dropped = 0;
  now = 0;
  deficit = pos 0;
  air = 0;
  count = 0;
  station = 0;
  start = 0;
  acked = 0;
  waiting = 0;
  failed = 0;
  kind = 0;
  refusal = 0;
  tid = 0;
  class = 0;
  fate = 0;
  has_dropped = 0;
  request = 0;
  more = 0;
  batch = 0;
  plain = 0;
  eosp = 0;
}

-- whether the device numbers the frames of an exchange
abbrev pub is_batch_kind : Kind → Bool
is_batch_kind Batch = true
is_batch_kind _ = false

-- whether an exchange sends one frame without an agreement
abbrev pub is_plain_kind : Kind → Bool
is_plain_kind Plain = true
is_plain_kind _ = false

-- with the frame that was dropped, if any
abbrev pub with_dropped : Option ℕ → Reply → Reply
with_dropped None r = r
with_dropped (Some id) r = record r { dropped = id; has_dropped = 1 }

-- with the start of the request, if any
abbrev pub with_request_start : Option ℕ → Reply → Reply
with_request_start None r = r
with_request_start (Some start) r = record r { start = start; request = 1 }

-- begin refusals: tools/tables writes these lines

-- with the number that a refusal has, if any
abbrev pub with_refusal : Refusal → Reply → Reply
with_refusal (refusal.Open count) r = record r { count = count }
with_refusal (refusal.Room inside) r = record r { count = inside }
with_refusal (refusal.Sleeping queued) r = record r { count = queued }
with_refusal (refusal.Full count) r = record r { count = count }
with_refusal (refusal.Debt deficit) r = record r { deficit = deficit }
with_refusal (refusal.Ahead owed) r = record r { air = owed }
with_refusal (refusal.Waits count) r = record r { count = count }
with_refusal (refusal.Buffered queued) r = record r { count = queued }
with_refusal _ r = r

-- end refusals

-- the fields of the answer to a call about group frames
abbrev pub numbers_of_group : GroupReply → Reply
numbers_of_group (group.Queued id) = record blank { kind = 24; id = id }
numbers_of_group (group.Beacon count follows) =
    record blank { kind = 25; count = count; more = flag_of follows }
numbers_of_group (group.Send id number air more) =
    record blank { kind = 26; id = id; start = number; air = air; more = flag_of more }
numbers_of_group (group.Done id) = record blank { kind = 27; id = id }

-- the fields of the answer to a call about service periods
abbrev pub numbers_of_service : ServiceReply → Reply
numbers_of_service service.Set = record blank { kind = 2 }
numbers_of_service (service.Triggered class) = record blank { kind = 28; class = class_number class }
numbers_of_service service.Ended = record blank { kind = 29 }

-- the fields of an answer; its lists, and the fields of a BlockAck, are in other structs
abbrev pub numbers_of : Brief → Reply
numbers_of Joined = record blank { kind = 0 }
numbers_of (brief.Left dropped) = record blank { kind = 1; count = dropped }
numbers_of Set = record blank { kind = 2 }
numbers_of (Now now) = record blank { kind = 3; now = now }
numbers_of (Accepted id dropped) = with_dropped dropped (record blank { kind = 4; id = id })
numbers_of (Send exchange station tid air request kind more eosp) =
    record (with_request_start request (record blank { kind = 5 })) {
      exchange = exchange;
      station = station;
      tid = tid;
      air = air;
      more = flag_of more;
      batch = flag_of (is_batch_kind kind);
      plain = flag_of (is_plain_kind kind);
      eosp = flag_of eosp;
    }
numbers_of Released = record blank { kind = 6 }
numbers_of (Ba start b0 b1 b2 b3 wide) = record blank { kind = 7 }
numbers_of (Done acked waiting failed) = record
    blank { kind = 8; acked = acked; waiting = waiting; failed = failed }
numbers_of Slept = record blank { kind = 9 }
numbers_of Woken = record blank { kind = 10 }
numbers_of (Polled class) = record blank { kind = 11; class = class_number class }
numbers_of (Charged deficit) = record blank { kind = 12; deficit = deficit }
numbers_of (Reaped id fate) = record blank { kind = 13; id = id; fate = fate_number fate }
numbers_of Stopped = record blank { kind = 15 }
numbers_of Started = record blank { kind = 16 }
numbers_of Marked = record blank { kind = 17 }
numbers_of (brief.Flushed dropped) = record blank { kind = 18; count = dropped }
numbers_of Ack = record blank { kind = 19 }
numbers_of (brief.Held start) = record blank { kind = 20; start = start }
numbers_of Begun = record blank { kind = 21 }
numbers_of Freed = record blank { kind = 22 }
numbers_of (brief.Ceased dropped) = record blank { kind = 23; count = dropped }
numbers_of (brief.Group answer) = numbers_of_group answer
numbers_of (brief.Service answer) = numbers_of_service answer
numbers_of (Refused reason) = with_refusal reason
    (record blank { kind = 14; refusal = refusal_number reason })

-- whether an answer has no field except its kind
abbrev pub is_kind_alone : Brief → Bool
is_kind_alone Joined = true
is_kind_alone Set = true
is_kind_alone Released = true
is_kind_alone (Ba start b0 b1 b2 b3 wide) = true
is_kind_alone Slept = true
is_kind_alone Woken = true
is_kind_alone Stopped = true
is_kind_alone Started = true
is_kind_alone Marked = true
is_kind_alone Ack = true
is_kind_alone Begun = true
is_kind_alone Freed = true
is_kind_alone _ = false

-- whether a flag of the caller's is set: any number except 0
abbrev pub is_up : ℕ → Bool
is_up n = not (n == 0)
