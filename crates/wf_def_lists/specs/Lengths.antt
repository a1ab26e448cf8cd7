-- Defines the greatest length of a frame's body, without and with its encryption, in octets.
use Rattle.std.specs.Prelude.{ℕ, ◌+◌}

-- The greatest body of a frame: the greatest MSDU (IEEE 802.11-2012, 8.2.3).
abbrev pub greatest_body : ℕ
greatest_body = 2304

-- The most octets of encryption of an MPDU: the greatest value of the setting `overhead`.
abbrev pub greatest_overhead : ℕ
greatest_overhead = 32

-- The greatest body with its encryption.
abbrev pub greatest_protected : ℕ
greatest_protected = greatest_body + greatest_overhead
