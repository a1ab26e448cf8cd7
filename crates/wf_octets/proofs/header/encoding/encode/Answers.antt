-- The fields are written one after another, by cases of the kind of header.
use Rattle.std.proofs.Common.{◌≡◌, ◌*◌, [], ◌∷◌, ap, subst, take, arith, sym, refl, ◌∙◌}
use Rattle.wf_octets.specs.Fields.{number_at, two_octets}
use Rattle.wf_octets.proofs.Places.{then_put}
use Rattle.wf_octets.specs.HeaderLayout.{first_octet, flags_octet}
use Rattle.wf_octets.proofs.HeaderWritten.{ack_begins, short_begins, qos_begins, size_of-qos, size_of-short, ack_alone}
use Rattle.wf_octets.proofs.header.encoding.encode.Goals as goal

pub returns-then-is_qos-clause-layout : goal.returns-then-is_qos-clause-layout
returns-then-is_qos-clause-layout c =
    let is_data = sym c.is_qos.ensures ∙ c.if-is_qos.true in
    let end : c.put.result ≡ 26 = omega arith in
    let sequence : 16 * c.raw.result ≡ 16 * c.args.header.now.seq = ap (λ n. 16 * n) c.raw.ensures.number in
    let kind : take c.put-end.result c.put-end.new.out ≡ first_octet c.args.header.now.kind
    ∷ flags_octet c.args.header.now ∷ [] =
    c.put-end.ensures.up_to_it ∙ ap (λ o. o ∷ c.flags_octet.result ∷ []) c.first_octet.ensures
    ∙ ap (λ o. first_octet c.args.header.now.kind ∷ o ∷ []) c.flags_octet.ensures in
    let duration = then_put c.put-end-2.ensures.up_to_it kind c.two_octets.ensures.octets in
    let address_1 = then_put c.put-end-3.ensures.up_to_it duration refl in
    let address_2 = then_put c.put-end-then-has_address_2.ensures.up_to_it address_1 refl in
    let address_3 = then_put c.put-end-then-is_qos.ensures.up_to_it address_2 refl in
    let number = then_put c.put-end-then-is_qos-2.ensures.up_to_it address_3
    (c.two_octets-then-is_qos.ensures.octets ∙ ap two_octets sequence) in
    let control = then_put c.put.ensures.up_to_it number (ap (λ o. o ∷ 0 ∷ []) c.qos_octet.ensures) in
    qos_begins c.put.new.out c.args.header.now is_data
    (size_of-qos c.args.header.now.kind is_data) c.requires.plain c.two_octets.ensures.read_back
    (subst (λ n. number_at (two_octets n) 0 ≡ n) sequence c.two_octets-then-is_qos.ensures.read_back)
    (omega arith) (omega arith) (omega arith) (ap (λ n. take n c.put.new.out) (sym end) ∙ control)

pub returns-else-is_qos-clause-layout : goal.returns-else-is_qos-clause-layout
returns-else-is_qos-clause-layout c =
    let is_short = sym c.is_qos.ensures ∙ c.if-is_qos.false in
    let has = sym c.has_address_2.ensures ∙ c.if-has_address_2.true in
    let end : c.put-end-then-has_address_2.result ≡ 16 = omega arith in
    let kind : take c.put-end.result c.put-end.new.out ≡ first_octet c.args.header.now.kind
    ∷ flags_octet c.args.header.now ∷ [] =
    c.put-end.ensures.up_to_it ∙ ap (λ o. o ∷ c.flags_octet.result ∷ []) c.first_octet.ensures
    ∙ ap (λ o. first_octet c.args.header.now.kind ∷ o ∷ []) c.flags_octet.ensures in
    let duration = then_put c.put-end-2.ensures.up_to_it kind c.two_octets.ensures.octets in
    let address_1 = then_put c.put-end-3.ensures.up_to_it duration refl in
    let address_2 = then_put c.put-end-then-has_address_2.ensures.up_to_it address_1 refl in
    short_begins c.put-end-then-has_address_2.new.out c.args.header.now is_short has
    (size_of-short c.args.header.now.kind is_short has) c.requires.plain c.two_octets.ensures.read_back
    (omega arith) (omega arith) (ap (λ n. take n c.put-end-then-has_address_2.new.out) (sym end)
    ∙ address_2)

pub returns-else-has_address_2-clause-layout : goal.returns-else-has_address_2-clause-layout
returns-else-has_address_2-clause-layout c =
    let none = sym c.has_address_2.ensures ∙ c.if-has_address_2.false in
    let alone = ack_alone c.args.header.now.kind none in
    let end : c.put-end-3.result ≡ 10 = omega arith in
    let kind : take c.put-end.result c.put-end.new.out ≡ first_octet c.args.header.now.kind
    ∷ flags_octet c.args.header.now ∷ [] =
    c.put-end.ensures.up_to_it ∙ ap (λ o. o ∷ c.flags_octet.result ∷ []) c.first_octet.ensures
    ∙ ap (λ o. first_octet c.args.header.now.kind ∷ o ∷ []) c.flags_octet.ensures in
    let duration = then_put c.put-end-2.ensures.up_to_it kind c.two_octets.ensures.octets in
    let address_1 = then_put c.put-end-3.ensures.up_to_it duration refl in
    ack_begins c.put-end-3.new.out c.args.header.now alone.0 none alone.1 c.requires.plain
    c.two_octets.ensures.read_back (omega arith)
    (ap (λ n. take n c.put-end-3.new.out) (sym end) ∙ address_1)
