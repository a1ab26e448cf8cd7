-- Defines the codes and structs of an open exchange, and what its end leaves of a path.
use Rattle.std.specs.Prelude.{◌≡◌, ◌≤◌, ℕ, List, Option, Some, None}
use Rattle.wf_octets.specs.declared.block.decoding.BlockFault.TheVariants.{Length, Kind, NotCompressed, MultiTid, Fragment, NotWide}
use Rattle.wf_frame.specs.Refusals.{refusal_number}
use Rattle.wf_frame.specs.declared.notes.Refusal.{Refusal}
use Rattle.wf_frame.specs.declared.notes.Refusal.TheVariants as refusal
use Rattle.wf_def_world.specs.World.{Exchange}
use Rattle.wf_send_half.specs.Bits.{end_refusal}
use Rattle.wf_path.specs.declared.faults.DoneFault.{DoneFault}
use Rattle.wf_path.specs.declared.faults.DoneFault.TheVariants as done
use Rattle.wf_path.specs.declared.faults.PathFault.{PathFault}
use Rattle.wf_path.specs.declared.faults.PathFault.TheVariants as fault
use Rattle.wf_path.specs.declared.reading.Sent.{Sent as PathSent}
use Rattle.wf_path.specs.Driver.{IsEnded}
use Rattle.wf_c.specs.Numbers.{numbers_of, is_up}
use Rattle.wf_c.specs.declared.exchanges.Sent.{Sent}
use Rattle.wf_c.specs.declared.held.Held.{Held}
use Rattle.wf_c.specs.declared.reply.Reply.{Reply}

-- ---- codes: 0 means success, and a refusal has its number

-- the code of reading an open exchange
abbrev pub sent_code : Option Exchange → ℕ
sent_code None = refusal_number refusal.NoExchange
sent_code (Some x) = 0

-- the code of reading the frame of a transmission
abbrev pub id_code : Option ℕ → ℕ
id_code None = refusal_number refusal.BadIndex
id_code (Some id) = 0

-- the code of writing a transmission
abbrev pub write_code : Option PathFault → ℕ
write_code None = 0
write_code (Some fault.NoExchange) = refusal_number refusal.NoExchange
write_code (Some fault.BadIndex) = refusal_number refusal.BadIndex
write_code (Some fault.NoBody) = 65
write_code (Some (fault.SmallBuffer need)) = 62

-- the code of an end by octets, for a fault of the octets
abbrev pub end_code : Option DoneFault → ℕ
end_code None = 0
end_code (Some done.NoExchange) = refusal_number refusal.NoExchange
end_code (Some (done.Block (Length need have))) = 71
end_code (Some (done.Block (Kind octet))) = 72
end_code (Some (done.Block NotCompressed)) = 73
end_code (Some (done.Block MultiTid)) = 74
end_code (Some (done.Block (Fragment number))) = 75
end_code (Some (done.Block NotWide)) = 76
end_code (Some done.NotMine) = 77
end_code (Some (done.WrongTid found)) = 78

-- the code of a call that is refused, if it is
abbrev pub refused_code : Option Refusal → ℕ
refused_code None = 0
refused_code (Some reason) = refusal_number reason

-- the code of an end by octets, which have a fault or not, and which is refused or not; a fault of the octets
-- is checked first
abbrev pub octets_code : Option DoneFault → Option Refusal → ℕ
octets_code (Some fault) reason = end_code (Some fault)
octets_code None reason = refused_code reason

-- why the path that the handle holds refuses to end an exchange by the BlockAck that was heard, if it does
abbrev pub end_refused : Option Held → ℕ → Option (ℕ × List ℕ) → Option ℕ → Option Refusal
end_refused None e heard air = None
end_refused (Some h) e heard air = end_refusal h.path.half e heard air

-- ---- structs

-- what the caller's struct shows of an exchange
abbrev pub sent_shown : Sent → PathSent
sent_shown s = record { station = s.station; tid = s.tid; count = s.count; request = is_up s.request }

-- if there is too little room, n is the number of octets that are needed; after another fault it is unchanged
abbrev pub needs : Option PathFault → ℕ → ℕ → Type 0
needs (Some (fault.SmallBuffer need)) was n = n ≡ need
needs (Some other) was n = n ≡ was
needs None was n = Unit {0}

-- The effect of the end of exchange e: h before, k after, and the caller's struct. `heard` is the BlockAck
-- that was heard, if any, and `air` the airtime that was given, if any. No node of the reserve is taken.
pub record IsExchangeEnded (h : Held) (e : ℕ) (heard : Option (ℕ × List ℕ)) (air : Option ℕ) (k : Held)
    (shown : Reply) : Type 0 where
  pub ended : IsEnded h.path e heard air k.path k.answer.brief
  pub reserve : h.reserve ≤ k.reserve
  pub shows : shown ≡ numbers_of k.answer.brief
