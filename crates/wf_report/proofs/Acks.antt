-- Proves the octets of a BlockAck: its head, followed by its bitmap.
use Rattle.std.proofs.Common.{◌≡◌, refl, ap, sym, ◌∙◌, ℕ, true, List, [], ◌∷◌, ◌++◌, length, take, arith, append_assoc}
use Rattle.std.proofs.lemmas.List.{take_all}
use Rattle.byteorder.specs.Endian.{little_bytes}
use Rattle.wf_octets.specs.Addresses.{base, address_of_station}
use Rattle.wf_octets.specs.BlockLayout.{head_octets, answer, wide_fragment}
use Rattle.wf_octets.specs.declared.block.frames.Bar.{Bar}
use Rattle.wf_send_parts.specs.Window.{on_air}
use Rattle.wf_report.specs.BlockAcks.{block_ack_head, block_ack_frame}

pub head_is : (s t start : ℕ) (ra ta : List ℕ) (first : ℕ) → ra ≡ base → ta ≡ address_of_station s →
    first ≡ on_air start →
    (let h : Bar = record { ra = ra; ta = ta; duration = 0; tid = t; start = first } in h)
    ≡ block_ack_head s t start
head_is s t start ra ta first to from same = rw (to, from, same) refl

-- A head and four words.
pub wide_is : (s t start a b c d n m k l : ℕ) (head : Bar) (written one two three out : List ℕ) →
    head ≡ block_ack_head s t start → take 20 written ≡ head_octets answer wide_fragment head →
    n ≡ 28 → take n one ≡ take 20 written ++ little_bytes 8 a → m ≡ 36 →
    take m two ≡ take 28 one ++ little_bytes 8 b → k ≡ 44 →
    take k three ≡ take 36 two ++ little_bytes 8 c →
    l ≡ 52 → length out ≡ 52 → take l out ≡ take 44 three ++ little_bytes 8 d →
    out ≡ block_ack_frame s t start (a ∷ b ∷ c ∷ d ∷ []) true
wide_is s t start a b c d n m k l head written one two three out is begins n_is first m_is second k_is third
    l_is long fourth =
    let h : List ℕ = head_octets answer wide_fragment (block_ack_head s t start) in
    let begun : take 20 written ≡ h = begins ∙ ap (head_octets answer wide_fragment) is in
    let one_is : take 28 one ≡ h ++ little_bytes 8 a =
    ap (λ i. take i one) (sym n_is) ∙ first ∙ ap (λ l. l ++ little_bytes 8 a) begun in
    let two_is : take 36 two ≡ (h ++ little_bytes 8 a) ++ little_bytes 8 b =
    ap (λ i. take i two) (sym m_is) ∙ second ∙ ap (λ l. l ++ little_bytes 8 b) one_is in
    let three_is : take 44 three ≡ ((h ++ little_bytes 8 a) ++ little_bytes 8 b) ++ little_bytes 8 c =
    ap (λ i. take i three) (sym k_is) ∙ third ∙ ap (λ l. l ++ little_bytes 8 c) two_is in
    sym (take_all 52 out (omega (arith, long))) ∙ ap (λ i. take i out) (sym l_is) ∙ fourth
    ∙ ap (λ l. l ++ little_bytes 8 d) three_is
    ∙ append_assoc ((h ++ little_bytes 8 a) ++ little_bytes 8 b) (little_bytes 8 c) (little_bytes 8 d)
    ∙ append_assoc (h ++ little_bytes 8 a) (little_bytes 8 b) (little_bytes 8 c ++ little_bytes 8 d)
    ∙ append_assoc h (little_bytes 8 a) (little_bytes 8 b ++ (little_bytes 8 c ++ little_bytes 8 d))
