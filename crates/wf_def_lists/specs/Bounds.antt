-- Defines the bounds on the numbers in a call and in the state after it (IEEE 802.11-2012, if a section is
-- given).
use Rattle.std.specs.Prelude.{ℕ, ℤ, pos, ◌-ℤ◌}

-- The greatest window of a station's agreements, in numbers: a BlockAck's bitmap of 32 octets has a bit for
-- each number (802.11ax-2021, 9.3.1.8.2).
abbrev pub greatest_window : ℕ
greatest_window = 256

-- The greatest window of a session that is not wide, in numbers: a BlockAck's bitmap of 8 octets has a bit
-- for each number (8.3.1.9.3).
abbrev pub narrow_window : ℕ
narrow_window = 64

-- The greatest sequence number: it has twelve bits (8.2.4.4.2).
abbrev pub greatest_start : ℕ
greatest_start = 4095

-- The greatest maximum A-MPDU length exponent (8.4.2.58.3).
abbrev pub greatest_exponent : ℕ
greatest_exponent = 3

-- The least and the greatest number of octets that `ampdu` may state for a station: one subframe of the
-- greatest body with its encryption fits the least (this project's own), and the greatest is the body of a
-- receiver of HE (IEEE 802.11ax-2021, 26.6.1).
abbrev pub least_ampdu : ℕ
least_ampdu = 4096

abbrev pub greatest_ampdu : ℕ
greatest_ampdu = 6500631

-- The greatest weight of a station, in quanta.
abbrev pub greatest_weight : ℕ
greatest_weight = 16

-- The greatest MCS of HT with two spatial streams (20.6).
abbrev pub greatest_mcs : ℕ
greatest_mcs = 15

-- The greatest TID that is a user priority (9.2.4.2).
abbrev pub greatest_tid : ℕ
greatest_tid = 7

-- How far the clock may advance in one call, in microseconds.
abbrev pub greatest_tick : ℕ
greatest_tick = 10000000

-- The greatest airtime of one receive charge, in microseconds.
abbrev pub greatest_air : ℕ
greatest_air = 65535

-- The greatest value of the setting `debt`: how far below 0 a receive charge may bring a deficit, in
-- microseconds.
abbrev pub greatest_debt : ℕ
greatest_debt = 1000000

-- The least deficit that a receive charge may leave, in microseconds: 0 less the setting `debt`.
abbrev pub deepest_deficit : ℕ → ℤ
deepest_deficit debt = pos 0 -ℤ pos debt
