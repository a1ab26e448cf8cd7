-- Proves what `write_transmission` promises. By cases: the exchange is not open, the index is out of range,
-- or the octets of its data or of its request are written.
use Rattle.std.proofs.Common.{◌≡◌, ℕ, sym, ap, ◌∙◌, arith, ◌++◌, [], Some, length, take}
use Rattle.std.specs.Prelude.{slice_get}
use Rattle.wf_path.specs.Addresses.{address_in, bss_in}
use Rattle.wf_octets.specs.HeaderLayout.{size_of, header_as_octets}
use Rattle.wf_octets.specs.declared.block.frames.Bar.{Bar}
use Rattle.wf_send_parts.specs.declared.exchanges.opened.Open.{Open}
use Rattle.wf_send_parts.specs.declared.exchanges.opened.Sending.{Sending}
use Rattle.wf_send_parts.specs.Exchanges.{number_carried}
use Rattle.wf_def_world.specs.World.{station}
use Rattle.wf_path.specs.Transmissions.{bar_of}
use Rattle.wf_send_half.proofs.Dones.{open_low}
use Rattle.wf_path.proofs.Flying.{some_flies}
use Rattle.wf_path.proofs.Written.{take_whole, where_ok, not_open, past_last, data_sent, data_fault, request_sent, request_fault}
use Rattle.wf_path.proofs.writing.write_transmission.Goals as goal

pub returns-in_default-clause-fault : goal.returns-in_default-clause-fault
returns-in_default-clause-fault c w bodies h =
    not_open c.args.addresses.now c.args.half.now w bodies h c.args.number c.args.index _ c.in_default.ensures

pub returns-then-index-count-clause-fault : goal.returns-then-index-count-clause-fault
returns-then-index-count-clause-fault c w bodies h =
    past_last c.args.addresses.now c.args.half.now w bodies h c.args.number c.args.index _ c.in-Some.open.now
    c.in-Some.ensures
    (omega (arith, c.count.ensures.count, c.if-index-count.true))

pub header_of-requires : goal.header_of-requires
header_of-requires c =
    some_flies c.args.half.now c.args.number c.in-Some.open.now c.args.index c.at-seq.result c.in-Some.ensures
    (ap (λ (s : Sending). number_carried s c.args.index) c.in-Data.is
    ∙ ap (λ (k : ℕ). slice_get c.in-Data.numbers k) (sym c.from.ensures) ∙ c.at-seq.ensures) c.requires

pub frame_of-requires : goal.frame_of-requires
frame_of-requires c =
    some_flies c.args.half.now c.args.number c.in-Some.open.now c.args.index c.at-seq.result c.in-Some.ensures
    (ap (λ (s : Sending). number_carried s c.args.index) c.in-Data.is
    ∙ ap (λ (k : ℕ). slice_get c.in-Data.numbers k) (sym c.from.ensures) ∙ c.at-seq.ensures) c.requires

pub encode_bar-requires : goal.encode_bar-requires
encode_bar-requires c = omega (
  arith,
  open_low c.args.half.now c.requires c.args.number c.in-Some.open.now
      c.in-Some.ensures,
)

pub returns-in-Data-clause-fault : goal.returns-in-Data-clause-fault
returns-in-Data-clause-fault c w bodies h =
    let head_is : c.encode.new.out ≡ header_as_octets c.header_of.result =
    sym (take_whole c.encode.new.out c.encode.result
    (c.encode.array_long ∙ sym (c.encode.ensures.size ∙ ap size_of c.header_of.ensures.kind)))
    ∙ c.encode.ensures.octets in
    c.write_parts.ensures.fault
    ∙ data_fault c.args.addresses.now c.args.half.now c.args.number c.in-Some.open.now c.args.index
    c.at-seq.result
    c.in-Some.ensures (ap (λ (s : Sending). number_carried s c.args.index) c.in-Data.is
    ∙ ap (λ (k : ℕ). slice_get c.in-Data.numbers k) (sym c.from.ensures) ∙ c.at-seq.ensures)
    w bodies h c.header_of.result c.encode.new.out c.body.result.now c.frame_of.result.now
    (λ x m f. c.header_of.ensures.header w bodies x m f)
    (λ x m f. c.frame_of.ensures w bodies x m f) head_is c.body.ensures (length c.args.out.now)

pub returns-in-Data-clause-octets : goal.returns-in-Data-clause-octets
returns-in-Data-clause-octets c =
    let head_is : c.encode.new.out ≡ header_as_octets c.header_of.result =
    sym (take_whole c.encode.new.out c.encode.result
    (c.encode.array_long ∙ sym (c.encode.ensures.size ∙ ap size_of c.header_of.ensures.kind)))
    ∙ c.encode.ensures.octets in
    where_ok (λ n. take n c.write_parts.new.out ≡ c.encode.new.out ++ c.body.result.now) _
    c.write_parts.result c.write_parts.ensures.octets
    (λ n is w bodies h.
    data_sent c.args.addresses.now c.args.half.now c.args.number c.in-Some.open.now c.args.index
    c.at-seq.result c.in-Some.ensures
    (ap (λ (s : Sending). number_carried s c.args.index) c.in-Data.is
    ∙ ap (λ (k : ℕ). slice_get c.in-Data.numbers k) (sym c.from.ensures) ∙ c.at-seq.ensures)
    w bodies h c.header_of.result c.encode.new.out c.body.result.now c.frame_of.result.now
    (λ x m f. c.header_of.ensures.header w bodies x m f)
    (λ x m f. c.frame_of.ensures w bodies x m f) head_is c.body.ensures
    ∙ ap Some (sym is))

pub returns-in-Request-clause-fault : goal.returns-in-Request-clause-fault
returns-in-Request-clause-fault c w bodies h =
    let bar : Bar = record {
      ra = c.of.result;
      ta = c.bss-in-Request.result;
      duration = 48;
      tid =
          c.in-Some.open.now.tid;
      start = c.in-Request.start;
    } in
    c.write_parts-in-Request.ensures.fault
    ∙ request_fault c.args.addresses.now c.args.half.now c.args.number c.in-Some.open.now c.args.index
    c.in-Request.start
    c.in-Some.ensures c.in-Request.is (omega (arith, c.count.ensures.count, c.if-index-count.false))
    w bodies h bar c.encode_bar.new.out
    (λ x start same air.
    let recipient : c.of.result ≡ address_in c.args.addresses.now x.station =
    c.of.ensures ∙ ap (λ (k : Open). address_in c.args.addresses.now k.station) same in
    let transmitter : c.bss-in-Request.result ≡ bss_in c.args.addresses.now (station w x.station).bss =
    c.bss-in-Request.ensures ∙ ap (bss_in c.args.addresses.now) (c.bss.ensures.world w bodies h)
    ∙ ap (λ (k : Open). bss_in c.args.addresses.now (station w k.station).bss) same in
    let tid : c.in-Some.open.now.tid ≡ x.tid = ap (λ (k : Open). k.tid) same in
    let bar_is : bar ≡ bar_of c.args.addresses.now w x start = cc (recipient, transmitter, tid, air) in
    bar_is)
    c.encode_bar.ensures.octets (length c.args.out.now)

pub returns-in-Request-clause-octets : goal.returns-in-Request-clause-octets
returns-in-Request-clause-octets c =
    let bar : Bar = record {
      ra = c.of.result;
      ta = c.bss-in-Request.result;
      duration = 48;
      tid =
          c.in-Some.open.now.tid;
      start = c.in-Request.start;
    } in
    where_ok (λ n. take n c.write_parts-in-Request.new.out ≡ c.encode_bar.new.out ++ []) _
    c.write_parts-in-Request.result c.write_parts-in-Request.ensures.octets
    (λ n is w bodies h.
    request_sent c.args.addresses.now c.args.half.now c.args.number c.in-Some.open.now c.args.index
    c.in-Request.start
    c.in-Some.ensures c.in-Request.is (omega (arith, c.count.ensures.count, c.if-index-count.false))
    w bodies h bar c.encode_bar.new.out
    (λ x start same air.
    let recipient : c.of.result ≡ address_in c.args.addresses.now x.station =
    c.of.ensures ∙ ap (λ (k : Open). address_in c.args.addresses.now k.station) same in
    let transmitter : c.bss-in-Request.result ≡ bss_in c.args.addresses.now (station w x.station).bss =
    c.bss-in-Request.ensures ∙ ap (bss_in c.args.addresses.now) (c.bss.ensures.world w bodies h)
    ∙ ap (λ (k : Open). bss_in c.args.addresses.now (station w k.station).bss) same in
    let tid : c.in-Some.open.now.tid ≡ x.tid = ap (λ (k : Open). k.tid) same in
    let bar_is : bar ≡ bar_of c.args.addresses.now w x start = cc (recipient, transmitter, tid, air) in
    bar_is)
    c.encode_bar.ensures.octets
    ∙ ap Some (sym is))
