-- Proves that the octets before the bitmap, with free bits 0, are read as the fields that were written.
use Rattle.std.proofs.Common.{◌≡◌, ℕ, ◌+◌, ◌*◌, ◌/◌, ◌<◌, List, [], ◌∷◌, ◌++◌, length, take, get_or, refl, ◌∙◌, ap, arith}
use Rattle.wf_octets.specs.Fields.{is_set, number_at, part, two_octets}
use Rattle.wf_octets.proofs.Places.{front_octet, front_number, front_part, six}
use Rattle.wf_octets.specs.declared.block.frames.Bar.{Bar}
use Rattle.wf_octets.specs.BlockLayout.{HasHead, head_octets, compressed_form}

head : ℕ → ℕ → List ℕ → List ℕ → ℕ → ℕ → ℕ → List ℕ
head o d a1 a2 form t s = (o ∷ 0 ∷ []) ++ two_octets d ++ a1 ++ a2 ++ (form ∷ t ∷ []) ++ two_octets s

record IsRead (xs : List ℕ) (o d : ℕ) (a1 a2 : List ℕ) (form t s : ℕ) : Type 0 where
  kind : get_or xs 0 0 ≡ o
  duration : number_at xs 2 ≡ d
  recipient : part xs 4 6 ≡ a1
  transmitter : part xs 10 6 ≡ a2
  control : get_or xs 16 0 ≡ form
  tid : get_or xs 17 0 ≡ t
  start : number_at xs 18 ≡ s

head_read : (o d : ℕ) (a1 a2 : List ℕ) (form t s : ℕ) → number_at (two_octets d) 0 ≡ d →
    number_at (two_octets s) 0 ≡ s → length a1 ≡ 6 → length a2 ≡ 6 →
    IsRead (head o d a1 a2 form t s) o d a1 a2 form t s
unfolding head
head_read o d a1 a2 form t s small seq_small l1 l2 =
    six (λ a1. IsRead (head o d a1 a2 form t s) o d a1 a2 form t s)
    (λ a b c x y z. let b1 : List ℕ = a ∷ b ∷ c ∷ x ∷ y ∷ z ∷ [] in
    six (λ a2. IsRead (head o d b1 a2 form t s) o d b1 a2 form t s)
    (λ a' b' c' x' y' z'. record {
      kind = refl;
      duration = small;
      recipient = refl;
      transmitter = refl;
      control = refl;
      tid = refl;
      start = seq_small;
    }) a2 l2) a1 l1

pub head_begins : (xs : List ℕ) (first fragment : ℕ) (h : Bar) → h.tid < 16 →
    number_at (two_octets h.duration) 0 ≡ h.duration →
    number_at (two_octets (16 * h.start + fragment)) 0 ≡ 16 * h.start + fragment
    → length h.ra ≡ 6 → length h.ta ≡ 6 → take 20 xs ≡ head_octets first fragment h →
    HasHead xs first fragment h
unfolding head
head_begins xs first fragment h tid d s l1 l2 same = record {
  kind = front_octet xs ys 20 0 same (omega arith) ∙ r.kind;
  duration = front_number xs ys 20 2 same (omega arith) ∙ r.duration;
  recipient = front_part xs ys 20 4 6 10 same refl ∙ r.recipient;
  transmitter = front_part xs ys 20 10 6 4 same refl ∙ r.transmitter;
  compressed = ap (λ o. is_set o 2) control;
  one_tid = ap (λ o. is_set o 1) control;
  tid = ap (λ o. o / 16) (front_octet xs ys 20 17 same (omega arith) ∙ r.tid) ∙ sixteenth h.tid;
  start = front_number xs ys 20 18 same (omega arith) ∙ r.start;
}
  where
    ys : List ℕ
    ys = head_octets first fragment h

    r : IsRead ys first h.duration h.ra h.ta compressed_form (16 * h.tid) (16 * h.start + fragment)
    r = head_read first h.duration h.ra h.ta compressed_form (16 * h.tid) (16 * h.start + fragment) d s l1 l2

    control : get_or xs 16 0 ≡ compressed_form
    control = front_octet xs ys 20 16 same (omega arith) ∙ r.control

    sixteenth : (t : ℕ) → 16 * t / 16 ≡ t
    sixteenth t = omega arith
