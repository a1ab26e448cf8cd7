-- Proves that a receiver which gets a start past all numbers that arrived is like a new one, whatever the
-- size of its window.
use Rattle.std.proofs.Common.{◌≡◌, ℕ, suc, ◌+◌, ◌-◌, ◌%◌, ◌<◌, ◌≤◌, ◌==◌, nat_lt, nat_le, Bool, true, cond, ◌&&◌, List, [], ◌∷◌, map, filter, Option, refl, sym, ◌∙◌, ap, arith}
use Rattle.std.proofs.lemmas.Bool.{or_left, or_right, eq-eqb, lt-leb}
use Rattle.wf_def_lists.specs.Table.{has, count_from}
use Rattle.wf_def_agreement.specs.Receiver.{Receiver, with_start, greatest, first_missing, release_start, score_start, released_between}
use Rattle.wf_octets.specs.Offsets.{RisesBetween}
use Rattle.wf_octets.proofs.Sets.{has_not_above, rises_wider}
use Rattle.wf_recv_peer.specs.Board.{Board, empty_board}
use Rattle.wf_recv_peer.specs.Buffer.{Buffer, empty_buffer}
use Rattle.wf_recv_peer_refines.specs.Half.{stored_of, board_of, buffer_of, IsOrderly, ReceiveHalfStandsFor, resized, IsPastAll}
use Rattle.wf_recv_peer_refines.proofs.Starts.{told, told_start, told_release, missing_is}
use Rattle.wf_recv_peer_refines.proofs.Windows.{window_none, stored_not}

-- ---- lists whose members are below a number

-- a rising list whose members are below f
rises_below : (from end f : ℕ) (xs : List ℕ) → RisesBetween from end xs →
    ((n : ℕ) → has xs n ≡ true → n < f) → RisesBetween from f xs
rises_below from end f [] r below = tt
rises_below from end f (x ∷ xs) r below = (
  r.0,
  below x (or_left (x == x) (has xs x) (eq-eqb x x refl)),
  rises_below (suc x) end f xs r.2 (λ n h. below n (or_right (x == n) (has xs n) h)),
)

-- none of them moves a scoreboard's start past f
score_settled : (f size from : ℕ) (xs : List ℕ) → 1 ≤ size → RisesBetween from f xs →
    greatest f (map (λ n. suc n - size) xs) ≡ f
score_settled f size from [] least r = refl
score_settled f size from (x ∷ xs) least r =
    let rest : greatest f (map (λ n. suc n - size) xs) ≡ f = score_settled f size (suc x) xs least r.2 in
    let high : x < f = r.1 in
    omega (arith, rest, high, least)

-- none of them is from f on
none_from : (f end from : ℕ) (xs : List ℕ) → RisesBetween from f xs →
    filter (λ n. nat_le f n && nat_lt n end) xs ≡ []
none_from f end from [] r = refl
none_from f end from (x ∷ xs) r =
    let rest : List ℕ = filter (λ n. nat_le f n && nat_lt n end) xs in
    ap (λ (b : Bool). cond (b && nat_lt x end) (x ∷ rest) rest) (lt-leb f x r.1)
    ∙ none_from f end (suc x) xs r.2

-- ---- a receiver that gets a start past all numbers that arrived

module _ (r : Receiver) (f : ℕ) (o : IsOrderly r) (past : IsPastAll r f) where
  rises : RisesBetween 0 f r.arrived
  rises = rises_below 0 (score_start r + r.size) f r.arrived o.rising past.arrived

  told_is : told (with_start f r) ≡ f
  told_is = told_start r f ∙ omega (arith, told_release r, past.release)

  release_is : release_start (with_start f r) ≡ f
  release_is = ap (λ (k : ℕ). first_missing k r.arrived) told_is
      ∙ missing_is 0 f f f r.arrived rises (omega arith) (λ k low high. absurd (omega (arith, low, high)))
      (has_not_above 0 f r.arrived f rises (omega arith))

  score_is : (size : ℕ) → 1 ≤ size → score_start (resized f size r) ≡ f
  score_is size least = ap (λ (k : ℕ). greatest k (map (λ n. suc n - size) r.arrived)) told_is
      ∙ score_settled f size 0 r.arrived least rises

  orderly_resized : (size : ℕ) → 1 ≤ size → size ≤ 256 → IsOrderly (resized f size r)
  orderly_resized size least most = record {
    least = least;
    most = most;
    rising = rises_wider 0 f 0 (score_start (resized f size r) + size) r.arrived (omega arith)
        (omega (arith, score_is size least)) rises;
    score_release = omega (arith, score_is size least, release_is);
  }

  board_resized : (size : ℕ) → 1 ≤ size → empty_board (f % 4096) size ≡ board_of (resized f size r)
  board_resized size least =
      ap (λ (xs : List ℕ). record { start = f % 4096; size = size; offsets = map (λ n. n - f) xs })
      (sym (none_from f (f + size) 0 r.arrived rises))
      ∙ ap (λ (k : ℕ). record {
        start = k % 4096;
        size = size;
        offsets = map (λ n. n - k) (filter (λ n. nat_le k n && nat_lt n (k + size)) r.arrived);
      }) (sym (score_is size least))

  buffer_resized : (ids : ℕ → ℕ) (capacity size : ℕ) →
      empty_buffer capacity (f % 4096) size ≡ buffer_of capacity ids (resized f size r)
  buffer_resized ids capacity size =
      ap (λ (ps : List (Option ℕ)). record {
        capacity = capacity;
        start = f % 4096;
        size = size;
        places = ps;
      })
      (window_none (stored_of ids r.arrived) f size
      (λ k low. stored_not ids r.arrived k (has_not_above 0 f r.arrived k rises low)))
      ∙ ap (λ (k : ℕ). record {
        capacity = capacity;
        start = k % 4096;
        size = size;
        places = map (stored_of ids r.arrived) (count_from k size);
      }) (sym release_is)

pub stands_resized : (ids : ℕ → ℕ) (r : Receiver) (board : Board) (buffer : Buffer) (capacity f size : ℕ) →
    ReceiveHalfStandsFor ids r board buffer → IsPastAll r f → 1 ≤ size → size ≤ 256 →
    ReceiveHalfStandsFor ids (resized f size r) (empty_board (f % 4096) size)
    (empty_buffer capacity (f % 4096) size)
stands_resized ids r board buffer capacity f size s past least most = record {
  receiver = orderly_resized r f s.receiver past size least most;
  scoreboard = board_resized r f s.receiver past size least;
  reordering = buffer_resized r f s.receiver past ids capacity size;
}

pub nothing_resized : (ids : ℕ → ℕ) (r : Receiver) (board : Board) (buffer : Buffer) (f : ℕ) →
    ReceiveHalfStandsFor ids r board buffer → IsPastAll r f → release_start r ≡ f →
    released_between r (with_start f r) ≡ []
nothing_resized ids r board buffer f s past same =
    ap (λ (k : ℕ). filter (λ n. nat_le k n && nat_lt n (release_start (with_start f r))) r.arrived) same
    ∙ none_from f (release_start (with_start f r)) 0 r.arrived (rises r f s.receiver past)
