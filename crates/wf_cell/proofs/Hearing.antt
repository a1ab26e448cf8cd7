-- Proves that new receive halves fit a new cell, and how a receive half changes by octets for it.
use Rattle.std.proofs.Common.{◌≡◌, refl, ap, sym, ◌∙◌, subst, ℕ, ◌+◌, ◌<◌, List, [], ◌∷◌, ◌++◌, length, Option, Result, Ok, Err, zero, suc, true, inl, inr, arith, length-append}
use Rattle.std.specs.Prelude.{IsOk, OnOk, slice_index_or, slice_set, ◌%◌}
use Rattle.std.proofs.lemmas.Bool.{cases_lt}
use Rattle.std.specs.Result.{is_err}
use Rattle.wf_octets.specs.Addresses.{base, address_of_station}
use Rattle.wf_octets.specs.declared.header.header.Header.{Header}
use Rattle.wf_octets.specs.declared.block.frames.Bar.{Bar}
use Rattle.wf_recv_peer.specs.declared.fault.PeerFault.{PeerFault}
use Rattle.wf_def_lists.specs.Table.{at}
use Rattle.wf_def_world.specs.World.{Content, Frames, Request}
use Rattle.wf_def_world.specs.Exchanges.{no_mpdu}
use Rattle.wf_recv_peer.specs.Board.{after_number as board_arrived, after_start as board_requested}
use Rattle.wf_recv_peer.specs.Buffer.{number_outcome as buffer_arrived, request_outcome as buffer_requested}
use Rattle.wf_recv_peer.specs.Agreements.{PeerValue, agreement}
use Rattle.wf_recv_peer.specs.Frames.{IsDataFor, IsRequestFor}
use Rattle.wf_cell_model.specs.Hearing.{AreNew, HasAddresses, new_receive_half}
use Rattle.wf_cell_model.specs.Arriving.{peer_after, buffer_outcome_of_transmission}
use Rattle.wf_cell.specs.Octets.{IsSentTo}

-- ---- new receive halves

-- the last element of a list
at_end : (xs : List PeerValue) (x d : PeerValue) → slice_index_or (xs ++ x ∷ []) (length xs) d ≡ x
at_end [] x d = refl
at_end (y ∷ ys) x d = at_end ys x d

before_end : (xs : List PeerValue) (x d : PeerValue) (k : ℕ) → k < length xs →
    slice_index_or (xs ++ x ∷ []) k d ≡ slice_index_or xs k d
before_end [] x d k h = absurd (omega arith)
before_end (y ∷ ys) x d zero h = refl
before_end (y ∷ ys) x d (suc k) h = before_end ys x d k (omega arith)

pub one_new : (n : ℕ) (peers : List PeerValue) → AreNew n peers →
    AreNew (n + 1) (peers ++ new_receive_half n 0 256 ∷ [])
one_new n peers new = record {
  count = omega (arith, length-append peers (new_receive_half n 0 256 ∷ []), new.count);
  each = λ s below. elim (cases_lt s n) [
    | inl before ↦ before_end peers (new_receive_half n 0 256) (new_receive_half 0 0 256) s
        (omega (arith, new.count)) ∙ new.each s before
    | inr last ↦
        let here : s ≡ length peers = omega (arith, new.count) in
        ap (λ k. slice_index_or (peers ++ new_receive_half n 0 256 ∷ []) k (new_receive_half 0 0 256)) here
        ∙ at_end peers (new_receive_half n 0 256) (new_receive_half 0 0 256)
        ∙ ap (λ k. new_receive_half k 0 256) (omega (arith, new.count))
  ];
}

pub none_new : AreNew 0 []
none_new = record { count = refl; each = λ s below. absurd (omega arith) }

-- ---- a receive half that gets octets

-- data for a station is data for the receive half with its addresses
pub data_for_half : (s : ℕ) (p : PeerValue) (octets : List ℕ) (h : Header) → HasAddresses s p →
    IsDataFor (address_of_station s) base octets h → IsDataFor p.own p.base octets h
data_for_half s p octets h its is = record {
  layout = is.layout;
  kind = is.kind;
  recipient = is.recipient ∙ sym its.own;
  transmitter = is.transmitter ∙ sym its.base;
  tid = is.tid;
}

pub request_for_half : (s : ℕ) (p : PeerValue) (octets : List ℕ) (b : Bar) → HasAddresses s p →
    IsRequestFor (address_of_station s) base octets b → IsRequestFor p.own p.base octets b
request_for_half s p octets b its is = record {
  layout = is.layout;
  recipient = is.recipient ∙ sym its.own;
  transmitter = is.transmitter ∙ sym its.base;
  tid = is.tid;
}

pub record IsTaken (s : ℕ) (octets : List ℕ) (result : Result (Option ℕ) PeerFault) : Type 0 where
  pub of_data : (h : Header) → IsDataFor (address_of_station s) base octets h → IsOk result
  pub of_request : (b : Bar) → IsRequestFor (address_of_station s) base octets b → IsOk result

pub is_ok_sent : (s : ℕ) (octets : List ℕ) (result : Result (Option ℕ) PeerFault) → IsTaken s octets result →
    (t i : ℕ) (content : Content) → IsSentTo s t i content octets → IsOk result
is_ok_sent s octets result takes t i (Frames mpdus) says = takes.of_data says.header says.is_for
is_ok_sent s octets result takes t i (Request start) says = takes.of_request says.bar says.is_for

pub no_fault : (result : Result (Option ℕ) PeerFault) → IsOk result → is_err result ≡ true → ⊥
no_fault (Ok back) ok failed = cc
no_fault (Err fault) ok failed = cc

pub where_ok : (P : Type 0) (result : Result (Option ℕ) PeerFault) → IsOk result → OnOk result P → P
where_ok P (Ok back) ok here = here
where_ok P (Err fault) ok here = absurd (cc)

-- what octets do to a receive half, for data and for a request
pub record LeadsTo (s : ℕ) (octets : List ℕ) (id : ℕ) (p after : PeerValue) (up : List ℕ) : Type 0 where
  pub of_data : (h : Header) → IsDataFor (address_of_station s) base octets h →
      (after ≡ record p {
        agreements = slice_set p.agreements h.tid
            (record {
              board = board_arrived h.seq (agreement p h.tid).board;
              buffer =
                  (buffer_arrived h.seq id (agreement p h.tid).buffer).after;
            });
      })
      × (up ≡ (buffer_arrived h.seq id (agreement p h.tid).buffer).up)
  pub of_request : (b : Bar) → IsRequestFor (address_of_station s) base octets b →
      (after ≡ record p {
        agreements = slice_set p.agreements b.tid
            (record {
              board = board_requested b.start (agreement p b.tid).board;
              buffer =
                  (buffer_requested b.start (agreement p b.tid).buffer).after;
            });
      })
      × (up ≡ (buffer_requested b.start (agreement p b.tid).buffer).up)

pub led_after : (s : ℕ) (octets : List ℕ) (id : ℕ) (p after : PeerValue) (up : List ℕ) →
    LeadsTo s octets id p after up → (t i : ℕ) (content : Content) → IsSentTo s t i content octets →
    after ≡ peer_after t i id content p
led_after s octets id p after up leads t i (Frames mpdus) says =
    let n : ℕ = (at no_mpdu mpdus i).number % 4096 in
    let Q : ℕ → ℕ → Type 0 = λ k m. after ≡ record
    p {
      agreements = slice_set p.agreements k
          (record {
            board = board_arrived m (agreement p k).board;
            buffer =
                (buffer_arrived m id (agreement p k).buffer).after;
          });
    } in
    subst (λ m. Q t m) says.number_is (subst (λ k. Q k says.header.seq) says.tid_is
    (leads.of_data says.header says.is_for).0)
led_after s octets id p after up leads t i (Request start) says =
    let Q : ℕ → ℕ → Type 0 = λ k m. after ≡ record
    p {
      agreements = slice_set p.agreements k
          (record {
            board = board_requested m (agreement p k).board;
            buffer =
                (buffer_requested m (agreement p k).buffer).after;
          });
    } in
    subst (λ m. Q t m) says.start_is (subst (λ k. Q k says.bar.start) says.tid_is
    (leads.of_request says.bar says.is_for).0)

pub led_up : (s : ℕ) (octets : List ℕ) (id : ℕ) (p after : PeerValue) (up : List ℕ) →
    LeadsTo s octets id p after up → (t i : ℕ) (content : Content) → IsSentTo s t i content octets →
    up ≡ (buffer_outcome_of_transmission i id content (agreement p t).buffer).up
led_up s octets id p after up leads t i (Frames mpdus) says =
    let Q : ℕ → ℕ → Type 0 = λ k m. up ≡ (buffer_arrived m id (agreement p k).buffer).up in
    subst (λ m. Q t m) says.number_is (subst (λ k. Q k says.header.seq) says.tid_is
    (leads.of_data says.header says.is_for).1)
led_up s octets id p after up leads t i (Request start) says =
    let Q : ℕ → ℕ → Type 0 = λ k m. up ≡ (buffer_requested m (agreement p k).buffer).up in
    subst (λ m. Q t m) says.start_is (subst (λ k. Q k says.bar.start) says.tid_is
    (leads.of_request says.bar says.is_for).1)
