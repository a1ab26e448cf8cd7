-- Defines which frames fit one aggregate (A-MPDU): IEEE 802.11-2012, 8.6.1 (format and padding of
-- subframes) and 9.12.2 (length limit).
use Rattle.std.specs.Prelude.{ℕ, ◌+◌, ◌*◌, ◌-◌, ◌^◌, ◌==◌, nat_le, max, Bool, ◌&&◌, List, [], ◌∷◌, Option, unwrap_or, if◌then◌else◌, length}
use Rattle.wf_def_lists.specs.Table.{ceil_div}
use Rattle.wf_def_air.specs.Airtime.{Rate, Vht, He, legacy_of, check_octets, data_time}

-- The length of the delimiter before an MPDU, in octets (8.6.1).
abbrev pub delimiter_octets : ℕ
delimiter_octets = 4

-- The length of an MPDU's MAC header in octets: that of a QoS Data frame with three addresses (8.3.2.1).
abbrev pub header_octets : ℕ
header_octets = 26

-- The octets of a subframe in addition to its body.
abbrev pub overhead_octets : ℕ
overhead_octets = delimiter_octets + header_octets + check_octets

-- Returns the octets of a subframe with a body of `len` octets, without padding.
abbrev pub subframe_octets : ℕ → ℕ
subframe_octets len = overhead_octets + len

-- Each subframe except the last is padded to a multiple of this many octets (8.6.1).
abbrev pub padding : ℕ
padding = 4

-- Returns a number of octets, rounded up to a multiple of the padding.
abbrev pub padded : ℕ → ℕ
padded octets = padding * ceil_div octets padding

-- Returns the octets of an aggregate of bodies with these lengths. Each subframe except the last is padded.
abbrev pub aggregate_octets : List ℕ → ℕ
aggregate_octets [] = 0
aggregate_octets (len ∷ []) = subframe_octets len
aggregate_octets (len ∷ next ∷ lens) = padded (subframe_octets len) + aggregate_octets (next ∷ lens)

-- Returns the octets of frames that are sent without an agreement, from the lengths of their bodies: one
-- frame. At VHT and HE each frame is in an aggregate; at all other rates it has no delimiter.
abbrev pub plain_octets : Rate → List ℕ → ℕ
plain_octets (Vht mcs mhz short n) lens = aggregate_octets lens
plain_octets (He mcs mhz guard n) lens = aggregate_octets lens
plain_octets rate lens = aggregate_octets lens - delimiter_octets

-- Returns the number to which a station's maximum A-MPDU length exponent, 0 to 3, is added: 13 at a rate of
-- HT (8.4.2.58.3). A receiver of VHT or HE states 0 to 7; this project's own rule maps 0 to 3 to 4 to 7
-- there, so the number is 17. At OFDM and DSSS it is that of HT, and each single frame has fewer octets.
abbrev pub least_exponent : Rate → ℕ
least_exponent (Vht mcs mhz short n) = 17
least_exponent (He mcs mhz guard n) = 17
least_exponent rate = 13

-- Returns the greatest length of an aggregate in octets, at a rate and for a receiver's exponent.
abbrev pub octets_of_exponent : Rate → ℕ → ℕ
octets_of_exponent rate exponent = 2 ^ (least_exponent rate + exponent) - 1

-- Returns the greatest length of an aggregate in octets, at a rate, for a receiver's exponent and for the
-- greatest length that was stated for its aggregates of VHT and HE, if one was.
abbrev pub most_octets : Rate → ℕ → Option ℕ → ℕ
most_octets (Vht mcs mhz short n) exponent stated =
    unwrap_or stated (octets_of_exponent (Vht mcs mhz short n) exponent)
most_octets (He mcs mhz guard n) exponent stated =
    unwrap_or stated (octets_of_exponent (He mcs mhz guard n) exponent)
most_octets rate exponent stated = octets_of_exponent rate exponent

-- Returns the data time that a frame alone may take whatever the limit of the aggregate is, in microseconds,
-- by the setting `legacy`: at every rate that it allows the greatest body fits it.
abbrev pub longest_alone : ℕ → ℕ
longest_alone legacy = if legacy == 0 then 3000 else (if legacy == 1 then 3200 else 19200)

-- Returns the same for a rate: that of the least setting which allows it.
abbrev pub alone_at : Rate → ℕ
alone_at r = longest_alone (legacy_of r)

-- Returns the greatest data time of frames with these lengths at a rate in microseconds, if that of an
-- aggregate is `cap`.
abbrev pub time_allowed : Rate → ℕ → List ℕ → ℕ
time_allowed r cap lens = if nat_le (length lens) 1 then max cap (alone_at r) else cap

-- Returns whether frames with bodies of these lengths, with their encryption, fit one aggregate: there are at
-- most `most` of them, the aggregate has at most `octets`, and its data takes at most `cap` microseconds.
abbrev pub fits : Rate → ℕ → ℕ → ℕ → List ℕ → Bool
fits rate octets most cap lens =
    nat_le (length lens) most
    && (nat_le (aggregate_octets lens) octets
    && nat_le (data_time rate (aggregate_octets lens)) (time_allowed rate cap lens))
