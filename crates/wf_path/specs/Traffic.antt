-- Defines the stations that sleep and have traffic, and the association identifiers (AIDs) that a TIM shows
-- (IEEE 802.11-2012, 8.4.2.7).
use Rattle.std.specs.Prelude.{◌≡◌, ℕ, ◌+◌, ◌<◌, ◌==◌, Bool, false, ◌&&◌, List, length, is_some, filter, slice_index_or, if◌then◌else◌}
use Rattle.std.specs.List.{list_any, range_with_len}
use Rattle.wf_def_tim.specs.Tim.{tim_element, with_group_bit}
use Rattle.wf_def_world.specs.World.{World, station, is_live}
use Rattle.wf_def_world.specs.Exchanges.{has_more}
use Rattle.wf_octets.specs.declared.tim.Tim.{Tim}
use Rattle.wf_send_parts.specs.Members.{member}
use Rattle.wf_send_parts.specs.Sleepers.{sleeper}
use Rattle.wf_send_half_model.specs.Half.{TransmitValue}
use Rattle.wf_send_half_model.specs.Pulling.{has_more_of}
use Rattle.wf_path.specs.Addresses.{Addresses, aid_in, greatest_aid}

-- whether a station is live and sleeps, and a number waits or a frame is queued for it on some TID: in a half
abbrev pub has_traffic_of : TransmitValue → ℕ → Bool
has_traffic_of v s = is_some (member v.members s) && ((sleeper v.sleepers s).asleep && has_more_of v s)

-- and in a world
abbrev pub has_traffic : World → ℕ → Bool
has_traffic w s = is_live w s && ((station w s).asleep && has_more w s)

-- the BSS of a station, in a half; that of one that is not live is 0
abbrev pub bss_of : TransmitValue → ℕ → ℕ
bss_of v s = if is_some (member v.members s) then (sleeper v.sleepers s).bss else 0

-- whether a station has traffic and is of BSS b: in a half
abbrev pub is_awaited_of : TransmitValue → ℕ → ℕ → Bool
is_awaited_of v b s = has_traffic_of v s && (bss_of v s == b)

-- and in a world
abbrev pub is_awaited_in : World → ℕ → ℕ → Bool
is_awaited_in w b s = has_traffic w s && ((station w s).bss == b)

-- the numbers from 0 to the greatest AID
abbrev pub identifiers : ℕ
identifiers = greatest_aid + 1

-- whether n is the AID of one of these stations for which `shown` is true
abbrev pub is_aid_shown : Addresses → (ℕ → Bool) → ℕ → ℕ → Bool
is_aid_shown a shown stations n = list_any (λ s. shown s && aid_in a s == n) (range_with_len 0 stations)

-- the AIDs that the TIM of BSS b shows, rising: those of its stations that have traffic
abbrev pub aids_shown : Addresses → ℕ → World → List ℕ
aids_shown a b w = filter (is_aid_shown a (is_awaited_in w b) w.config.stations)
    (range_with_len 0 identifiers)

-- the TIM element with these fields and these AIDs
abbrev pub tim_shown : Tim → Addresses → ℕ → World → List ℕ
tim_shown tim a b w = with_group_bit tim.group (tim_element tim.count tim.period (aids_shown a b w))

-- an entry for each number, true for the AIDs of these stations for which `shown` is true
pub record ArePresent (present : List Bool) (a : Addresses) (shown : ℕ → Bool) (stations : ℕ) : Type 0 where
  pub all : length present ≡ identifiers
  pub none : slice_index_or present 0 false ≡ false
  pub each : (n : ℕ) → n < identifiers → slice_index_or present n false ≡ is_aid_shown a shown stations n
