-- Proves that a packet header has the low 32 bits of the seconds.
use Rattle.std.proofs.Common.{◌≡◌, ℕ, ◌%◌, arith}
use Rattle.std.specs.Int.{byte_at}
use Rattle.byteorder.specs.Endian.{little_bytes}

-- four octets are the low 32 bits of a number
pub seconds_wrap : (n : ℕ) → little_bytes 4 (n % 4294967296) ≡ little_bytes 4 n
seconds_wrap n =
    let a : byte_at 0 (n % 4294967296) ≡ byte_at 0 n = omega arith in
    let b : byte_at 1 (n % 4294967296) ≡ byte_at 1 n = omega arith in
    let c : byte_at 2 (n % 4294967296) ≡ byte_at 2 n = omega arith in
    let d : byte_at 3 (n % 4294967296) ≡ byte_at 3 n = omega arith in
    cc
