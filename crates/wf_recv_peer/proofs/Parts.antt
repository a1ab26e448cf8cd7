-- Proves properties of bitmaps whose offsets are all below 64, of the BlockAck of 256 bits, and of lists with
-- equal agreements.
use Rattle.std.proofs.Common.{◌≡◌, ℕ, ◌*◌, ◌/◌, ◌%◌, ◌<◌, ◌≤◌, ◌==◌, true, MatchBool, nat_lt, inl, inr, List, length, take, get_or, replicate, sym, ap, subst, ◌∙◌, arith}
use Rattle.std.proofs.lemmas.Bool.{cases_lt}
use Rattle.std.proofs.lemmas.List.{get_or-take, get_or-replicate, length-replicate, length-take-le, same_lists, take_all}
use Rattle.std.specs.Int.{bit_at}
use Rattle.wf_def_lists.specs.Table.{has}
use Rattle.wf_octets.specs.Offsets.{IsOffsets, offsets_in}
use Rattle.wf_octets.proofs.Sets.{has_not_above, rises_wider, same_members}
use Rattle.wf_octets.proofs.Words.{offsets_in_are_offsets, has-offsets_in}
use Rattle.wf_recv_peer.specs.Board.{Board}
use Rattle.wf_recv_peer.specs.Answering.{IsAnswer, IsWritten, IsWrittenWide, narrow_answer, wide_answer}

-- the first eight octets contain the same offsets
pub offsets_of_front : (octets : List ℕ) → length octets ≡ 32 → IsOffsets 64 (offsets_in octets) →
    offsets_in (take 8 octets) ≡ offsets_in octets
offsets_of_front octets long low = same_members 0 0 64 64 (offsets_in (take 8 octets))
    (offsets_in octets) front_low low each
  where
    front_long : length (take 8 octets) ≡ 8
    front_long = length-take-le 8 octets (omega arith)

    front_low : IsOffsets 64 (offsets_in (take 8 octets))
    front_low =
        rises_wider 0 (8 * length (take 8 octets)) 0 64 (offsets_in (take 8 octets)) (omega arith)
        (omega (arith, front_long)) (offsets_in_are_offsets (take 8 octets))

    each : (i : ℕ) → has (offsets_in (take 8 octets)) i ≡ has (offsets_in octets) i
    each i = elim (cases_lt i 64) [
      | inl below ↦
          has-offsets_in (take 8 octets) i (omega (arith, front_long))
          ∙ ap (λ o. bit_at o (i % 8) == 1) (get_or-take 8 octets (i / 8) 0 (omega arith))
          ∙ sym (has-offsets_in octets i (omega arith))
      | inr above ↦ has_not_above 0 64 (offsets_in (take 8 octets)) i front_low above
          ∙ sym (has_not_above 0 64 (offsets_in octets) i low above)
    ]

-- the offsets of a narrow window are below 64
pub offsets_within : (size : ℕ) (xs : List ℕ) → size ≤ 64 → IsOffsets size xs → IsOffsets 64 xs
offsets_within size xs narrow rises = rises_wider 0 size 0 64 xs (omega arith) narrow rises

pub answered_wide : (own base : List ℕ) (tid : ℕ) (b : Board) (octets : List ℕ) → nat_lt 64 b.size ≡ true →
    length octets ≡ 52 → IsWrittenWide octets (wide_answer own base tid b) →
    IsAnswer own base tid b (take 52 octets)
answered_wide own base tid b octets wide long written =
    subst (λ os. IsAnswer own base tid b os) (sym (take_all 52 octets (omega arith)))
    (subst (λ t. MatchBool t (IsWrittenWide octets (wide_answer own base tid b))
    (IsWritten octets (narrow_answer own base tid b))) (sym wide) written)

pub all_alike : {X : Type 0} (x : X) (n : ℕ) (xs : List X) → length xs ≡ n →
    ((k : ℕ) (d : X) → k < n → get_or xs k d ≡ x) → xs ≡ replicate n x
all_alike x n xs long each =
    same_lists xs (replicate n x) (long ∙ sym (length-replicate n x))
    (λ k d below. each k d (omega (arith, below, long))
    ∙ sym (get_or-replicate n k x d (omega (arith, below, long))))
