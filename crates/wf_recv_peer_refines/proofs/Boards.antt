-- Proves that the scoreboard represents its receiver after a number or the start of a request arrives. By
-- cases: in the window, past it, or before it.
use Rattle.std.proofs.Common.{◌≡◌, ℕ, suc, ◌+◌, ◌-◌, ◌%◌, ◌<◌, ◌≤◌, ◌==◌, max, Bool, ◌||◌, List, sym, ◌∙◌, ap, ap₂, inl, inr, arith}
use Rattle.std.proofs.lemmas.Bool.{cases_eq, cases_lt, eq-eqb, ne_eqb, le-leb, lt-leb, lt-ltb, le-ltb}
use Rattle.wf_def_lists.specs.Table.{has, with_member}
use Rattle.wf_def_agreement.specs.Receiver.{Receiver, with_arrived, with_start, score_start, score}
use Rattle.wf_octets.specs.Distance.{distance}
use Rattle.wf_octets.specs.Offsets.{RisesBetween, moved_down}
use Rattle.wf_octets.proofs.Sets.{same_members, has-with_member, rises-with_member, has-moved_down, rises-moved_down, rises_wider}
use Rattle.wf_recv_peer.specs.Board.{Board, with_arrived_at as board_with, with_start_moved, after_number_at, after_number, after_start_at, after_start}
use Rattle.wf_recv_peer_refines.specs.Half.{board_of, IsOrderly, IsInReach, IsRequestInReach}
use Rattle.wf_recv_peer_refines.proofs.Comparisons.{distance_ahead, distance_back, moved_start}
use Rattle.wf_recv_peer_refines.proofs.Rising.{has-with, rises-with, down_from}
use Rattle.wf_recv_peer_refines.proofs.Starts.{release_score, score_arrived, score_requested, orderly_arrived, orderly_requested}

-- ---- offsets

rises_down : (end s : ℕ) (xs : List ℕ) → RisesBetween 0 end xs → RisesBetween 0 (end - s) (moved_down s xs)
rises_down end s xs r = rises_wider (0 - s) (end - s) 0 (end - s) (moved_down s xs) (omega arith)
    (omega arith) (rises-moved_down 0 end s xs r)

-- adding an offset before or after the move gives the same
put_down : (end n s : ℕ) (xs : List ℕ) → s ≤ n → n < end → RisesBetween 0 end xs →
    with_member (n - s) (moved_down s xs) ≡ moved_down s (with_member n xs)
put_down end n s xs low high r =
    same_members 0 0 (end - s) (end - s) (with_member (n - s) (moved_down s xs))
    (moved_down s (with_member n xs))
    (rises-with_member 0 (end - s) (n - s) (moved_down s xs) (omega arith) (omega arith)
    (rises_down end s xs r))
    (rises_down end s (with_member n xs) (rises-with end n xs high r))
    (λ i. has-with_member (n - s) (moved_down s xs) i
    ∙ ap₂ (λ (a b : Bool). a || b) (places i) (has-moved_down s xs i)
    ∙ sym (has-moved_down s (with_member n xs) i ∙ has-with n xs (i + s)))
  where
    places : (i : ℕ) → (n - s == i) ≡ (n == i + s)
    places i = elim (cases_eq n (i + s)) [
      | inl e ↦ eq-eqb (n - s) i (omega arith) ∙ sym (eq-eqb n (i + s) e)
      | inr o ↦ ne_eqb (n - s) i (λ q. o (omega arith)) ∙ sym (ne_eqb n (i + s) o)
    ]

-- two moves are one
down_twice : (end m s : ℕ) (xs : List ℕ) → RisesBetween 0 end xs →
    moved_down m (moved_down s xs) ≡ moved_down (s + m) xs
down_twice end m s xs r =
    same_members 0 0 (end - s - m) (end - (s + m)) (moved_down m (moved_down s xs)) (moved_down (s + m) xs)
    (rises_down (end - s) m (moved_down s xs) (rises_down end s xs r)) (rises_down end (s + m) xs r)
    (λ i. has-moved_down m (moved_down s xs) i ∙ has-moved_down s xs (i + m)
    ∙ ap (has xs) (assoc i) ∙ sym (has-moved_down (s + m) xs i))
  where
    assoc : (i : ℕ) → i + m + s ≡ i + (s + m)
    assoc i = omega arith

-- the offsets that a scoreboard shows; no number is past its window
pub offsets-down : (r : Receiver) → IsOrderly r → (score r).offsets ≡ moved_down (score_start r) r.arrived
offsets-down r o = down_from 0 (score_start r) (score_start r + r.size) r.arrived o.rising

-- the scoreboard of a window from s on, with these numbers arrived
abbrev pub board_at : ℕ → ℕ → List ℕ → Board
board_at w s xs = record { start = s % 4096; size = w; offsets = moved_down s xs }

pub board-at : (r : Receiver) → IsOrderly r → board_of r ≡ board_at r.size (score_start r) r.arrived
board-at r o = ap (λ (os : List ℕ). record { start = score_start r % 4096; size = r.size; offsets = os })
    (offsets-down r o)

-- ---- a number arrives

arrived_inside : (d : ℕ) (b : Board) → d < b.size → after_number_at d b ≡ board_with d b
arrived_inside d b h = rw (lt-ltb d b.size h)

arrived_past : (d : ℕ) (b : Board) → b.size ≤ d → d ≤ 2047 →
    after_number_at d b ≡ board_with (b.size - 1) (with_start_moved (d + 1 - b.size) b)
arrived_past d b h k = rw (le-ltb d b.size h, le-leb d 2047 k)

asked_ahead : (d : ℕ) (b : Board) → d ≤ 2047 → after_start_at d b ≡ with_start_moved d b
asked_ahead d b h = rw (le-leb d 2047 h)

asked_behind : (d : ℕ) (b : Board) → 2047 < d → after_start_at d b ≡ b
asked_behind d b h = rw (lt-leb d 2047 h)

-- in the window
after_inside : (end w s n d : ℕ) (xs : List ℕ) → RisesBetween 0 end xs → n < end → d ≡ n - s → s ≤ n → d < w →
    after_number_at d (board_at w s xs) ≡ board_at w s (with_member n xs)
after_inside end w s n d xs r high e low inside =
    arrived_inside d (board_at w s xs) inside
    ∙ ap (λ (os : List ℕ). record { start = s % 4096; size = w; offsets = os })
    (ap (λ (k : ℕ). with_member k (moved_down s xs)) e ∙ put_down end n s xs low high r)

-- past the window: it moves so that the number is its last
after_jump : (end w s t n d : ℕ) (xs : List ℕ) → RisesBetween 0 end xs → n < end → d ≡ n - s → s ≤ n → w ≤ d →
    d ≤ 2047 → 1 ≤ w → t ≡ suc n - w →
    after_number_at d (board_at w s xs) ≡ board_at w t (with_member n xs)
after_jump end w s t n d xs r high e low past near some f =
    arrived_past d (board_at w s xs) past near
    ∙ ap₂ (λ (k : ℕ) (os : List ℕ). record { start = k; size = w; offsets = os }) starts offsets
  where
    starts : (s % 4096 + (d + 1 - w)) % 4096 ≡ t % 4096
    starts = moved_start s (d + 1 - w) ∙ ap (λ (k : ℕ). k % 4096) (omega arith)

    offsets : with_member (w - 1) (moved_down (d + 1 - w) (moved_down s xs)) ≡ moved_down t (with_member n xs)
    offsets =
        ap₂ with_member (omega arith) (down_twice end (d + 1 - w) s xs r
        ∙ ap (λ (k : ℕ). moved_down k xs) (omega arith))
        ∙ put_down end n t xs (omega arith) high r

pub board_takes : (r : Receiver) (n : ℕ) → IsOrderly r → IsInReach r n →
    after_number (n % 4096) (board_of r) ≡ board_of (with_arrived n r)
board_takes r n o reach =
    ap (after_number (n % 4096)) (board-at r o) ∙ taken
    ∙ sym (board-at (with_arrived n r) (orderly_arrived r n o reach))
  where
    s : ℕ
    s = score_start r

    t : ℕ
    t = score_start (with_arrived n r)

    d : ℕ
    d = distance (n % 4096) (s % 4096)

    near : n ≤ s + 2047
    near = omega (arith, reach.release, release_score r o, o.most)

    ahead : d ≡ n - s
    ahead = distance_ahead n s reach.score near

    end : ℕ
    end = max (suc n) (s + r.size)

    rises : RisesBetween 0 end r.arrived
    rises = rises_wider 0 (s + r.size) 0 end r.arrived (omega arith) (omega arith) o.rising

    moved : t ≡ max (suc n - r.size) s
    moved = score_arrived r n

    taken : after_number_at d (board_at r.size s r.arrived) ≡ board_at r.size t (with_member n r.arrived)
    taken = elim (cases_lt d r.size) [
      | inl inside ↦ after_inside end r.size s n d r.arrived rises (omega arith) ahead reach.score inside
          ∙ ap (λ (k : ℕ). board_at r.size k (with_member n r.arrived))
          (omega (arith, ahead, moved, reach.score, inside))
      | inr past ↦
          after_jump end r.size s t n d r.arrived rises (omega arith) ahead reach.score past
          (omega (arith, ahead, near)) o.least (omega (arith, ahead, moved, past, reach.score))
    ]

-- ---- a request start arrives

pub board_asked : (r : Receiver) (f : ℕ) → IsOrderly r → IsRequestInReach r f →
    after_start (f % 4096) (board_of r) ≡ board_of (with_start f r)
board_asked r f o reach =
    ap (after_start (f % 4096)) (board-at r o) ∙ asked
    ∙ sym (board-at (with_start f r) (orderly_requested r f o))
  where
    s : ℕ
    s = score_start r

    t : ℕ
    t = score_start (with_start f r)

    d : ℕ
    d = distance (f % 4096) (s % 4096)

    moved : t ≡ max f s
    moved = score_requested r f

    asked : after_start_at d (board_at r.size s r.arrived) ≡ board_at r.size t r.arrived
    asked = elim (cases_lt f s) [
      | inl behind ↦
          let far : 2047 < d = distance_back f s behind (omega (arith, reach.score, o.most)) in
          asked_behind d (board_at r.size s r.arrived) far
          ∙ ap (λ (k : ℕ). board_at r.size k r.arrived) (omega (arith, moved, behind))
      | inr at ↦
          let near : f ≤ s + 2047 = omega (arith, reach.release, release_score r o, o.most) in
          let ahead : d ≡ f - s = distance_ahead f s at near in
          asked_ahead d (board_at r.size s r.arrived) (omega (arith, ahead, near))
          ∙ ap₂ (λ (k : ℕ) (os : List ℕ). record { start = k; size = r.size; offsets = os })
          (moved_start s d ∙ ap (λ (k : ℕ). k % 4096) (omega (arith, ahead, moved, at)))
          (down_twice (s + r.size) d s r.arrived o.rising
          ∙ ap (λ (k : ℕ). moved_down k r.arrived) (omega (arith, ahead, moved, at)))
    ]
