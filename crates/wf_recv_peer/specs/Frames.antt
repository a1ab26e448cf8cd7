-- Defines the frames that a station with the address `own` accepts: they are from the access point, whose
-- address is `base`, to the station, and of a TID below 8.
use Rattle.std.specs.Prelude.{◌≡◌, ℕ, ◌<◌, List}
use Rattle.wf_octets.specs.HeaderLayout.{BeginsWithHeader}
use Rattle.wf_octets.specs.declared.header.header.Kind.TheVariants.{QosData}
use Rattle.wf_octets.specs.declared.header.header.Header.{Header}
use Rattle.wf_octets.specs.BlockLayout.{IsBar}
use Rattle.wf_octets.specs.declared.block.frames.Bar.{Bar}

-- a data frame with this header
pub record IsDataFor (own base : List ℕ) (octets : List ℕ) (h : Header) : Type 0 where
  pub layout : BeginsWithHeader octets h
  pub kind : h.kind ≡ QosData
  pub recipient : h.a1 ≡ own
  pub transmitter : h.a2 ≡ base
  pub tid : h.tid < 8

-- a request with these fields
pub record IsRequestFor (own base : List ℕ) (octets : List ℕ) (b : Bar) : Type 0 where
  pub layout : IsBar octets b
  pub recipient : b.ra ≡ own
  pub transmitter : b.ta ≡ base
  pub tid : b.tid < 8
