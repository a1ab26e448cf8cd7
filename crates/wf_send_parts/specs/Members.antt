-- Defines the state that is kept of each live station, by number. Airtime is in microseconds.
use Rattle.std.specs.Prelude.{ℕ, ◌+◌, Bool, false, List, [], ◌∷◌, Option, Some, None, option_map, unwrap_or, slice_index, slice_index_or, slice_set}
use Rattle.wf_frame.specs.declared.classes.Class.{Class}
use Rattle.wf_frame.specs.Classes.{class_number}
use Rattle.wf_def_air.specs.Airtime.{Rate, lowest_rate}
use Rattle.wf_send_parts.specs.declared.stations.members.Member.{Member}

-- a station that joins: it has the lowest rate, no stated length of aggregates, the lower TID's turn in each
-- class, and no airtime charged
abbrev pub new_member : ℕ → Bool → Member
new_member exponent offloaded = record {
  rate = lowest_rate;
  exponent = exponent;
  ampdu = None;
  offloaded = offloaded;
  upper = false ∷ false ∷ false ∷ false ∷ [];
  charged = 0 ∷ 0 ∷ 0 ∷ 0 ∷ [];
  received = 0 ∷ 0 ∷ 0 ∷ 0 ∷ [];
}

-- the state of a station; None if it is not live
abbrev pub member : List (Option Member) → ℕ → Option Member
member members s = slice_index_or members s None

-- whether a station is live and offloaded
abbrev pub is_offloaded_in : List (Option Member) → ℕ → Bool
is_offloaded_in members s = unwrap_or (option_map (λ m. m.offloaded) (member members s)) false

-- the stations with the state of station s changed, if it is live
abbrev pub on_member : List (Option Member) → ℕ → (Member → Member) → List (Option Member)
on_member members s f = slice_set members s (option_map f (member members s))

-- a member with another rate
abbrev pub with_rate : Rate → Member → Member
with_rate rate m = record m { rate = rate }

-- a member with this stated greatest length of aggregates of VHT and HE, in octets
abbrev pub with_ampdu : ℕ → Member → Member
with_ampdu octets m = record m { ampdu = Some octets }

-- whether it is the upper TID's turn in a class
abbrev pub upper_in : Member → Class → Bool
upper_in m c = slice_index_or m.upper (class_number c) false

-- a member with the turn in a class given to the upper TID, or to the lower
abbrev pub with_upper : Class → Bool → Member → Member
with_upper c upper m = record m { upper = slice_set m.upper (class_number c) upper }

-- the airtime of a member's exchanges in a class since its join
abbrev pub charged_in : Member → Class → ℕ
charged_in m c = slice_index m.charged (class_number c)

-- a member charged `air` more microseconds for its exchanges in a class
abbrev pub with_charge : Class → ℕ → Member → Member
with_charge c air m = record m { charged = slice_set m.charged (class_number c) (charged_in m c + air) }

-- the receive charges of a member in a class since its join
abbrev pub received_in : Member → Class → ℕ
received_in m c = slice_index m.received (class_number c)

-- a member with `air` more microseconds of receive charges in a class
abbrev pub with_receipt : Class → ℕ → Member → Member
with_receipt c air m = record m { received = slice_set m.received (class_number c) (received_in m c + air) }
