-- Defines the octets of an Ack, which answers one frame without an agreement (IEEE 802.11-2012, 8.3.1.4).
use Rattle.std.specs.Prelude.{ℕ, List, false}
use Rattle.wf_octets.specs.Addresses.{base}
use Rattle.wf_octets.specs.HeaderLayout.{header_as_octets, no_address}
use Rattle.wf_octets.specs.declared.header.header.Header.{Header}
use Rattle.wf_octets.specs.declared.header.header.Kind.TheVariants.{Ack}

-- The fields of an Ack: to the access point, with Duration 0.
abbrev pub ack_header : Header
ack_header = record {
  kind = Ack;
  to_ds = false;
  from_ds = false;
  retry = false;
  power = false;
  more = false;
  duration = 0;
  a1 = base;
  a2 = no_address;
  a3 = no_address;
  seq = 0;
  tid = 0;
  eosp = false;
}

-- An Ack: ten octets before the frame check sequence.
abbrev pub ack_frame : List ℕ
ack_frame = header_as_octets ack_header
