-- The fields are written one after another, and the last one ends with the array.
use Rattle.std.proofs.Common.{◌≡◌, ◌*◌, [], ◌∷◌, ap, take, take_all, arith, sym, refl, ◌∙◌}
use Rattle.wf_octets.specs.Fields.{two_octets}
use Rattle.wf_report.proofs.Takes.{then_put}
use Rattle.wf_report.proofs.captures.group.beacon_head.Goals as goal

pub returns : goal.returns
returns c =
    let end : c.put.result ≡ 48 = omega arith in
    let control : take c.put-end.result c.put-end.new.out ≡ 0x80 ∷ 0 ∷ 0 ∷ 0 ∷ [] =
    c.put-end.ensures.up_to_it in
    let everyone = then_put c.put-end-2.ensures.up_to_it control refl in
    let from = then_put c.put-end-3.ensures.up_to_it everyone c.base_address.ensures in
    let bss = then_put c.put-end-4.ensures.up_to_it from c.base_address-2.ensures in
    let number = then_put c.put-end-5.ensures.up_to_it bss
    (c.two_octets.ensures.octets ∙ ap (λ n. two_octets (16 * n)) (c.raw.ensures.number ∙ c.of.ensures)) in
    let clock = then_put c.put-end-6.ensures.up_to_it number c.to_le_bytes.ensures in
    let fields = then_put c.put.ensures.up_to_it clock refl in
    sym (take_all c.put.result c.put.new.out (omega (arith, end))) ∙ fields
