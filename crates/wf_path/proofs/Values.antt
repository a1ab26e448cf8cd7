-- Proves that the value of a path has the half and the addresses that its fields have.
use Rattle.std.proofs.Common.{◌≡◌, ap}
use Rattle.wf_send_half_model.specs.Half.{TransmitValue}
use Rattle.wf_path.specs.Addresses.{Addresses}
use Rattle.wf_path.specs.Paths.{PathValue}

-- the path of these addresses and this half
abbrev pub with_half : Addresses → TransmitValue → PathValue
with_half a x = record { half = x; addresses = a }

-- x and a are the fields of the path p
pub half_is : {x : TransmitValue} {a : Addresses} {p : PathValue} →
    ◌≡◌ {A = PathValue} (record { half = x; addresses = a }) p → x ≡ p.half
half_is same = ap (λ (p : PathValue). p.half) same

pub addresses_are : {x : TransmitValue} {a : Addresses} {p : PathValue} →
    ◌≡◌ {A = PathValue} (record { half = x; addresses = a }) p → a ≡ p.addresses
addresses_are same = ap (λ (p : PathValue). p.addresses) same
