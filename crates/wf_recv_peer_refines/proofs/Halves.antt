-- Proves the laws of a receive half from the lemmas about its scoreboard and its buffer.
use Rattle.std.proofs.Common.{◌≡◌, ℕ, ◌+◌, ◌-◌, ◌%◌, ◌≤◌, true, List, [], map, Option, None, Some, refl, sym, ◌∙◌, ap, ap₂, inl, inr, arith}
use Rattle.std.proofs.lemmas.Bool.{cases_Bool}
use Rattle.wf_def_lists.specs.Table.{has, bits_word}
use Rattle.wf_def_agreement.specs.Receiver.{Receiver, new_receiver, with_arrived, with_start, release_start, score_start, released_between, score, bitmap_word}
use Rattle.wf_octets.specs.Distance.{distance}
use Rattle.wf_octets.proofs.Sets.{has-moved_down}
use Rattle.wf_recv_peer.specs.Board.{Board, empty_board}
use Rattle.wf_recv_peer.specs.Board.{after_number as board_arrived}
use Rattle.wf_recv_peer.specs.Board.{after_start as board_requested}
use Rattle.wf_recv_peer.specs.Buffer.{Buffer, BufferOutcome, empty_buffer}
use Rattle.wf_recv_peer.specs.Buffer.{number_outcome as buffer_arrived}
use Rattle.wf_recv_peer.specs.Buffer.{request_outcome as buffer_requested}
use Rattle.wf_recv_peer_refines.specs.Half.{stored_of, buffer_of, IsOrderly, ReceiveHalfStandsFor, IsInReach, IsRequestInReach, ComparesBoth}
use Rattle.wf_recv_peer_refines.proofs.Comparisons.{distance_ahead, compares}
use Rattle.wf_recv_peer_refines.proofs.Starts.{release_score, orderly_arrived, orderly_requested}
use Rattle.wf_recv_peer_refines.proofs.Boards.{offsets-down, board_takes, board_asked}
use Rattle.wf_recv_peer_refines.proofs.Windows.{window_none, window_same, stored_there, stored_not}
use Rattle.wf_recv_peer_refines.proofs.Buffers.{back_of, outcome_of, buffer_takes, buffer_asked}

-- ---- comparisons

pub compares_data : (ids : ℕ → ℕ) (r : Receiver) (board : Board) (buffer : Buffer) (n : ℕ) →
    ReceiveHalfStandsFor ids r board buffer → IsInReach r n →
    ComparesBoth r n
compares_data ids r board buffer n s reach =
    let o : IsOrderly r = s.receiver in record {
      score = compares n (score_start r) (omega (arith, reach.release, release_score r o, o.most))
          (omega (arith, reach.score));
      release = compares n (release_start r) (omega (arith, reach.release, o.most))
          (omega (arith, release_score r o, reach.score, o.most));
    }

pub compares_request : (ids : ℕ → ℕ) (r : Receiver) (board : Board) (buffer : Buffer) (f : ℕ) →
    ReceiveHalfStandsFor ids r board buffer → IsRequestInReach r f →
    ComparesBoth r f
compares_request ids r board buffer f s reach =
    let o : IsOrderly r = s.receiver in record {
      score = compares f (score_start r) (omega (arith, reach.release, release_score r o, o.most))
          (omega (arith, reach.score, o.most));
      release = compares f (release_start r) (omega (arith, reach.release, o.most))
          (omega (arith, release_score r o, reach.score, o.most));
    }

-- ---- a new agreement

pub stands_first : (ids : ℕ → ℕ) (capacity first size : ℕ) → 1 ≤ size → size ≤ 256 →
    ReceiveHalfStandsFor ids (new_receiver first size) (empty_board (first % 4096) size)
    (empty_buffer capacity (first % 4096) size)
stands_first ids capacity first size least most = record {
  receiver = record { least = least; most = most; rising = tt; score_release = omega arith };
  scoreboard = refl;
  reordering =
      ap (λ (ps : List (Option ℕ)). record {
        capacity = capacity;
        start = first % 4096;
        size = size;
        places =
            ps;
      })
      (window_none (stored_of ids []) first size (λ k l. refl));
}

-- ---- a number arrives

data_outcome : (ids : ℕ → ℕ) (r : Receiver) (board : Board) (buffer : Buffer) (n : ℕ) →
    ReceiveHalfStandsFor ids r board buffer → IsInReach r n →
    buffer_arrived (n % 4096) (ids n) buffer ≡ outcome_of buffer.capacity ids r (back_of ids r n)
    (with_arrived n r)
data_outcome ids r board buffer n s reach = ap (buffer_arrived (n % 4096) (ids n)) s.reordering
    ∙ buffer_takes buffer.capacity ids r n s.receiver reach

pub stands_data : (ids : ℕ → ℕ) (r : Receiver) (board : Board) (buffer : Buffer) (n : ℕ) →
    ReceiveHalfStandsFor ids r board buffer → IsInReach r n →
    ReceiveHalfStandsFor ids (with_arrived n r) (board_arrived (n % 4096) board)
    (buffer_arrived (n % 4096) (ids n) buffer).after
stands_data ids r board buffer n s reach =
    let after : (buffer_arrived (n % 4096) (ids n) buffer).after
    ≡ buffer_of buffer.capacity ids (with_arrived n r) =
    ap (λ (o : BufferOutcome). o.after) (data_outcome ids r board buffer n s reach) in record {
      receiver = orderly_arrived r n s.receiver reach;
      scoreboard = ap (board_arrived (n % 4096)) s.scoreboard ∙ board_takes r n s.receiver reach;
      reordering = after ∙ ap (λ (c : ℕ). buffer_of c ids (with_arrived n r))
          (sym (ap (λ (b : Buffer). b.capacity) after));
    }

pub up_data : (ids : ℕ → ℕ) (r : Receiver) (board : Board) (buffer : Buffer) (n : ℕ) →
    ReceiveHalfStandsFor ids r board buffer → IsInReach r n →
    (buffer_arrived (n % 4096) (ids n) buffer).up ≡ map ids (released_between r (with_arrived n r))
up_data ids r board buffer n s reach = ap (λ (o : BufferOutcome). o.up)
    (data_outcome ids r board buffer n s reach)

pub back_data : (ids : ℕ → ℕ) (r : Receiver) (board : Board) (buffer : Buffer) (n : ℕ) →
    ReceiveHalfStandsFor ids r board buffer → IsInReach r n →
    (buffer_arrived (n % 4096) (ids n) buffer).back ≡ stored_of ids r.arrived n
back_data ids r board buffer n s reach = ap (λ (o : BufferOutcome). o.back)
    (data_outcome ids r board buffer n s reach)

-- ---- a request start arrives

request_outcome : (ids : ℕ → ℕ) (r : Receiver) (board : Board) (buffer : Buffer) (f : ℕ) →
    ReceiveHalfStandsFor ids r board buffer → IsRequestInReach r f →
    buffer_requested (f % 4096) buffer ≡ outcome_of buffer.capacity ids r None (with_start f r)
request_outcome ids r board buffer f s reach =
    ap (buffer_requested (f % 4096)) s.reordering ∙ buffer_asked buffer.capacity ids r f s.receiver reach

pub stands_request : (ids : ℕ → ℕ) (r : Receiver) (board : Board) (buffer : Buffer) (f : ℕ) →
    ReceiveHalfStandsFor ids r board buffer → IsRequestInReach r f →
    ReceiveHalfStandsFor ids (with_start f r) (board_requested (f % 4096) board)
    (buffer_requested (f % 4096) buffer).after
stands_request ids r board buffer f s reach =
    let after : (buffer_requested (f % 4096) buffer).after ≡ buffer_of buffer.capacity ids (with_start f r) =
    ap (λ (o : BufferOutcome). o.after) (request_outcome ids r board buffer f s reach) in record {
      receiver = orderly_requested r f s.receiver;
      scoreboard = ap (board_requested (f % 4096)) s.scoreboard ∙ board_asked r f s.receiver reach;
      reordering = after ∙ ap (λ (c : ℕ). buffer_of c ids (with_start f r))
          (sym (ap (λ (b : Buffer). b.capacity) after));
    }

pub up_request : (ids : ℕ → ℕ) (r : Receiver) (board : Board) (buffer : Buffer) (f : ℕ) →
    ReceiveHalfStandsFor ids r board buffer → IsRequestInReach r f →
    (buffer_requested (f % 4096) buffer).up ≡ map ids (released_between r (with_start f r))
up_request ids r board buffer f s reach = ap (λ (o : BufferOutcome). o.up)
    (request_outcome ids r board buffer f s reach)

pub back_request : (ids : ℕ → ℕ) (r : Receiver) (board : Board) (buffer : Buffer) (f : ℕ) →
    ReceiveHalfStandsFor ids r board buffer → IsRequestInReach r f →
    (buffer_requested (f % 4096) buffer).back ≡ None
back_request ids r board buffer f s reach = ap (λ (o : BufferOutcome). o.back)
    (request_outcome ids r board buffer f s reach)

-- ---- the answer

pub answer_words : (ids : ℕ → ℕ) (r : Receiver) (board : Board) (buffer : Buffer) (k : ℕ) →
    ReceiveHalfStandsFor ids r board buffer →
    bits_word k board.offsets ≡ bitmap_word (score r) k
answer_words ids r board buffer k s = ap (λ (b : Board). bits_word k b.offsets) s.scoreboard

pub shown_arrived : (ids : ℕ → ℕ) (r : Receiver) (board : Board) (buffer : Buffer) (n : ℕ) →
    ReceiveHalfStandsFor ids r board buffer → score_start r ≤ n →
    n ≤ score_start r + 2047 →
    has board.offsets (distance (n % 4096) board.start) ≡ has r.arrived n
shown_arrived ids r board buffer n s low high =
    ap (λ (b : Board). has b.offsets (distance (n % 4096) b.start)) s.scoreboard
    ∙ ap₂ has (offsets-down r s.receiver) (distance_ahead n (score_start r) low high)
    ∙ has-moved_down (score_start r) r.arrived (n - score_start r)
    ∙ ap (has r.arrived) (omega (arith, low))

-- ---- other ids

pub other_ids : (ids others : ℕ → ℕ) (r : Receiver) (board : Board) (buffer : Buffer) →
    ((n : ℕ) → has r.arrived n ≡ true → ids n ≡ others n) →
    ReceiveHalfStandsFor ids r board buffer → ReceiveHalfStandsFor others r board buffer
other_ids ids others r board buffer same s = record {
  receiver = s.receiver;
  scoreboard = s.scoreboard;
  reordering =
      s.reordering
      ∙ ap (λ (ps : List (Option ℕ)). record {
        capacity = buffer.capacity;
        start = release_start r % 4096;
        size = r.size;
        places = ps;
      })
      (window_same (stored_of ids r.arrived) (stored_of others r.arrived) (release_start r) r.size
      (λ n _ _. elim (cases_Bool (has r.arrived n)) [
        | inl there ↦ stored_there ids r.arrived n there ∙ ap Some (same n there)
            ∙ sym (stored_there others r.arrived n there)
        | inr out ↦ stored_not ids r.arrived n out ∙ sym (stored_not others r.arrived n out)
      ]));
}
