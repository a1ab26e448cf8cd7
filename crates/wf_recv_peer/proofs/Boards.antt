-- Proves how the offsets of a scoreboard change when its window moves.
use Rattle.std.proofs.Common.{◌≡◌, ℕ, ◌+◌, ◌-◌, ◌%◌, ◌<◌, ◌≤◌, ◌↔◌, IsTrue, Bool, true, false, cond, min, List, [], ◌∷◌, refl, ap, ap₂, ◌∙◌, sym, inl, inr, arith}
use Rattle.std.proofs.lemmas.Bool.{cases_lt, lt-leb, le-leb}
use Rattle.wf_def_lists.specs.Table.{with_member}
use Rattle.wf_octets.specs.Offsets.{RisesBetween, IsOffsets, moved_down}
use Rattle.wf_octets.proofs.Sets.{has_not_above, has-moved_down, rises-moved_down, rises_wider, rises-with_member, same_members}
use Rattle.wf_octets.specs.Distance.{distance}
use Rattle.wf_recv_peer.specs.Board.{Board, with_start_moved, after_start, after_start_at}

-- a move by 0 leaves each offset unchanged
pub moved_by_none : (xs : List ℕ) → moved_down 0 xs ≡ xs
moved_by_none [] = refl
moved_by_none (x ∷ xs) =
    let same : x - 0 ≡ x = omega arith in
    rw (le-leb 0 x (omega arith)) (ap₂ (λ (y : ℕ) (ys : List ℕ). y ∷ ys) same (moved_by_none xs))

-- a move past all offsets leaves none
pub moved_past : (from end n : ℕ) (xs : List ℕ) → RisesBetween from end xs → end ≤ n → moved_down n xs ≡ []
moved_past from end n xs rises past =
    same_members (from - n) 0 (end - n) 0 (moved_down n xs) [] (rises-moved_down from end n xs rises) tt
    (λ i. has-moved_down n xs i ∙ has_not_above from end xs (i + n) rises (omega arith))

-- a move by more than 256 numbers is the same as one by 256
pub moved_least : (size n : ℕ) (xs : List ℕ) → size ≤ 256 → IsOffsets size xs →
    moved_down (min n 256) xs ≡ moved_down n xs
moved_least size n xs small rises = elim (cases_lt 256 n) [
  | inl far ↦ ap (λ k. moved_down k xs) (omega arith) ∙ moved_past 0 size 256 xs rises small
      ∙ sym (moved_past 0 size n xs rises (omega arith))
  | inr near ↦ ap (λ k. moved_down k xs) (omega arith)
]

pub within_moved : (size n : ℕ) (xs : List ℕ) → IsOffsets size xs → IsOffsets size (moved_down n xs)
within_moved size n xs rises = rises_wider (0 - n) (size - n) 0 size (moved_down n xs) (omega arith)
    (omega arith) (rises-moved_down 0 size n xs rises)

pub within_marked : (size d : ℕ) (xs : List ℕ) → d < size → IsOffsets size xs →
    IsOffsets size (with_member d xs)
within_marked size d xs inside rises = rises-with_member 0 size d xs (omega arith) inside rises

abbrev pub board : ℕ → ℕ → List ℕ → Board
board size start offsets = record { start = start; size = size; offsets = offsets }

pub same_board : (size s t : ℕ) (xs ys : List ℕ) → s ≡ t → xs ≡ ys → board size s xs ≡ board size t ys
same_board size s t xs ys e f = ap₂ (board size) e f

-- a request whose start is at or before the window's start changes nothing
pub start_not_newer : (r : Bool) (s : ℕ) (b : Board) → b.start < 4096 → r ≡ false →
    (IsTrue r ↔ ((1 ≤ distance s b.start) × (distance s b.start ≤ 2047))) → b ≡ after_start s b
start_not_newer r s b small is_false newer = elim (cases_lt 2047 (distance s b.start)) [
  | inl far ↦ ap (λ (t : Bool). cond t (with_start_moved (distance s b.start) b) b)
      (sym (lt-leb (distance s b.start) 2047 far))
  | inr near ↦ elim (cases_lt 0 (distance s b.start)) [
    | inl ahead ↦ absurd (let is_true : r ≡ true = newer.1 (omega (arith, ahead), near) in cc)
    | inr here ↦ let none : distance s b.start ≡ 0 = omega (arith, here) in
        same_board b.size b.start ((b.start + 0) % 4096) b.offsets (moved_down 0 b.offsets)
        (omega (arith, small)) (sym (moved_by_none b.offsets))
        ∙ ap (λ (d : ℕ). after_start_at d b) (sym none)
  ]
]
