-- The fields are written one after another.
use Rattle.std.proofs.Common.{◌≡◌, ◌+◌, ◌*◌, [], ◌∷◌, ap, subst, take, arith, sym, refl, ◌∙◌}
use Rattle.wf_octets.specs.Fields.{number_at, two_octets}
use Rattle.wf_octets.proofs.Places.{then_put}
use Rattle.wf_octets.proofs.BlockWritten.{head_begins}
use Rattle.wf_octets.proofs.block.encoding.put_head.Goals as goal

pub returns-clause-head : goal.returns-clause-head
returns-clause-head c =
    let end : c.put.result ≡ 20 = omega arith in
    let sequence : 16 * c.raw.result + c.args.fragment ≡ 16 * c.args.head.now.start + c.args.fragment =
    ap (λ n. 16 * n + c.args.fragment) c.raw.ensures.number in
    let kind : take c.put-end.result c.put-end.new.out ≡ c.args.first ∷ 0 ∷ [] = c.put-end.ensures.up_to_it in
    let duration = then_put c.put-end-2.ensures.up_to_it kind c.two_octets.ensures.octets in
    let recipient = then_put c.put-end-3.ensures.up_to_it duration refl in
    let transmitter = then_put c.put-end-4.ensures.up_to_it recipient refl in
    let control = then_put c.put-end-5.ensures.up_to_it transmitter refl in
    let start = then_put c.put.ensures.up_to_it control
    (c.two_octets-2.ensures.octets ∙ ap two_octets sequence) in
    head_begins c.put.new.out c.args.first c.args.fragment c.args.head.now c.requires.tid
    c.two_octets.ensures.read_back
    (subst (λ n. number_at (two_octets n) 0 ≡ n) sequence c.two_octets-2.ensures.read_back) (omega arith)
    (omega arith) (ap (λ n. take n c.put.new.out) (sym end) ∙ start)

pub returns-clause-rest : goal.returns-clause-rest
returns-clause-rest c =
    c.put.ensures.past_it 20 (omega arith) ∙ c.put-end-5.ensures.past_it 20 (omega arith)
    ∙ c.put-end-4.ensures.past_it 20 (omega arith) ∙ c.put-end-3.ensures.past_it 20 (omega arith)
    ∙ c.put-end-2.ensures.past_it 20 (omega arith) ∙ c.put-end.ensures.past_it 20 (omega arith)
