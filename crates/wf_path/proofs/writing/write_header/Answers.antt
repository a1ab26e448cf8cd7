-- Proves what `write_header` promises. By cases: the exchange is not open, it has no data at the index, or
-- the header of its transmission is written.
use Rattle.std.proofs.Common.{◌≡◌, sym, ap, ◌∙◌}
use Rattle.wf_octets.specs.HeaderLayout.{size_of, header_as_octets}
use Rattle.wf_path.proofs.Flying.{some_flies, header_is, header_there, no_header, no_data}
use Rattle.wf_path.proofs.Written.{take_whole}
use Rattle.wf_path.proofs.writing.write_header.Goals as goal

pub returns-in_default-clause-fault : goal.returns-in_default-clause-fault
returns-in_default-clause-fault c w bodies h =
    no_header c.args.half.now w bodies h c.args.number c.args.index c.in_default.ensures

pub returns-in_default-number_at-clause-fault : goal.returns-in_default-number_at-clause-fault
returns-in_default-number_at-clause-fault c w bodies h =
    no_data c.args.half.now w bodies h c.args.number c.args.index c.in-Some.open.now c.in-Some.ensures
    (sym c.in_default-number_at.ensures)

pub header_of-requires : goal.header_of-requires
header_of-requires c = some_flies c.args.half.now c.args.number c.in-Some.open.now c.args.index
    c.in-Some-number_at.seq c.in-Some.ensures (sym c.in-Some-number_at.ensures) c.requires

pub returns-clause-fault : goal.returns-clause-fault
returns-clause-fault c w bodies h =
    header_there c.args.half.now c.args.number c.in-Some.open.now c.args.index c.in-Some-number_at.seq
    c.in-Some.ensures (sym c.in-Some-number_at.ensures) w bodies h

pub returns-clause-octets : goal.returns-clause-octets
returns-clause-octets c w bodies h =
    let head_is : c.encode.new.out ≡ header_as_octets c.header_of.result =
    sym (take_whole c.encode.new.out c.encode.result
    (c.encode.array_long ∙ sym (c.encode.ensures.size ∙ ap size_of c.header_of.ensures.kind)))
    ∙ c.encode.ensures.octets in
    header_is c.args.half.now c.args.number c.in-Some.open.now c.args.index c.in-Some-number_at.seq
    c.in-Some.ensures (sym c.in-Some-number_at.ensures) w bodies h c.args.addresses.now c.header_of.result
    c.encode.new.out
    (λ x m f. c.header_of.ensures.header w bodies x m f) head_is
