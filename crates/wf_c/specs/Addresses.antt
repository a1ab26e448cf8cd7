-- Defines the codes of the functions on addresses, and a path with other addresses.
use Rattle.std.specs.Prelude.{ℕ, List, Option, Some, None}
use Rattle.wf_frame.specs.Refusals.{refusal_number}
use Rattle.wf_frame.specs.declared.notes.Refusal.TheVariants as refusal
use Rattle.wf_path.specs.Addresses.{Addresses}
use Rattle.wf_path.specs.declared.faults.BadAddress.{BadAddress}
use Rattle.wf_path.specs.declared.faults.BadAddress.TheVariants.{NoStation, BadBss, Group}
use Rattle.wf_path.specs.declared.faults.AidFault.{AidFault}
use Rattle.wf_path.specs.declared.faults.AidFault.TheVariants as aid
use Rattle.wf_c.specs.declared.held.Held.{Held}

-- the code of setting an address: 0 means success, and a station number or a BSS that does not exist has the
-- number of that refusal
abbrev pub address_code : Option BadAddress → ℕ
address_code None = 0
address_code (Some NoStation) = refusal_number refusal.BadStation
address_code (Some BadBss) = refusal_number refusal.BadBss
address_code (Some Group) = 64

-- the code of setting an association identifier
abbrev pub aid_code : Option AidFault → ℕ
aid_code None = 0
aid_code (Some aid.NoStation) = refusal_number refusal.BadStation
aid_code (Some aid.BadAid) = 66

-- the code of reading a station's address
abbrev pub told_code : Option (List ℕ) → ℕ
told_code None = refusal_number refusal.BadStation
told_code (Some address) = 0

-- h with other addresses, and otherwise unchanged
abbrev pub with_addresses : Addresses → Held → Held
with_addresses a h = record h { path = record h.path { addresses = a } }
