-- The fields are written one after another, and the last one ends with the array.
use Rattle.std.proofs.Common.{◌≡◌, ◌*◌, [], ◌∷◌, ap, take, take_all, arith, sym, refl, ◌∙◌}
use Rattle.wf_octets.specs.Fields.{two_octets}
use Rattle.wf_octets.specs.GroupLayout.{group_flags}
use Rattle.wf_octets.proofs.Places.{then_put}
use Rattle.wf_octets.proofs.header.group.encode_group.Goals as goal

pub returns : goal.returns
returns c =
    let end : c.put.result ≡ 24 = omega arith in
    let control : take c.put-end.result c.put-end.new.out ≡ 0x08 ∷ group_flags c.args.header.now.more ∷ 0 ∷ 0
    ∷ [] = c.put-end.ensures.up_to_it ∙ ap (λ o. 0x08 ∷ o ∷ 0 ∷ 0 ∷ []) c.flags_octet.ensures in
    let group = then_put c.put-end-2.ensures.up_to_it control refl in
    let bss = then_put c.put-end-3.ensures.up_to_it group refl in
    let source = then_put c.put-end-4.ensures.up_to_it bss refl in
    let number = then_put c.put.ensures.up_to_it source
    (c.two_octets.ensures.octets ∙ ap (λ n. two_octets (16 * n)) c.raw.ensures.number) in
    sym (take_all c.put.result c.put.new.out (omega (arith, end))) ∙ number
