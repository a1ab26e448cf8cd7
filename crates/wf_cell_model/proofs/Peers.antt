-- Proves that one receive half, and one agreement of its eight, can change without the others.
use Rattle.std.proofs.Common.{◌≡◌, ◌≢◌, ap, sym, ◌∙◌, subst, arith, ℕ, ◌<◌, ◌==◌, List, length, slice_set}
use Rattle.std.proofs.lemmas.List.{get_or-set_same, get_or-set_other, length-set}
use Rattle.wf_law_rules.proofs.Lemmas.Numbers.{on_bool, eq_yes, eq_no}
use Rattle.wf_recv_peer.specs.Agreements.{PeerValue, AgreementValue, agreement, new_agreement}
use Rattle.wf_cell_model.specs.Hearing.{new_receive_half, peer_of, with_peer, HasAddresses, ArePeers}

pub peer_own : (peers : List PeerValue) (s : ℕ) (p : PeerValue) → s < length peers →
    peer_of (with_peer s p peers) s ≡ p
peer_own peers s p low = get_or-set_same peers s p (new_receive_half 0 0 256) low

pub peer_other : (peers : List PeerValue) (s i : ℕ) (p : PeerValue) → i ≢ s →
    peer_of (with_peer s p peers) i ≡ peer_of peers i
peer_other peers s i p other = get_or-set_other peers s i p (new_receive_half 0 0 256) other

pub sized_with : (n s : ℕ) (peers : List PeerValue) (p : PeerValue) → s < n → HasAddresses s p →
    length p.agreements ≡ 8 → ArePeers n peers →
    ArePeers n (with_peer s p peers)
sized_with n s peers p low addresses eight h =
    let own : peer_of (with_peer s p peers) s ≡ p = peer_own peers s p (omega (arith, h.count, low)) in
    record {
      count = length-set peers s p ∙ h.count;
      addresses = λ i below. on_bool (i == s)
          (λ yes. subst (λ (k : ℕ). HasAddresses k (peer_of (with_peer s p peers) k)) (sym (eq_yes i s yes))
          (subst (HasAddresses s) (sym own) addresses))
          (λ no. subst (HasAddresses i) (sym (peer_other peers s i p (eq_no i s no))) (h.addresses i below));
      eight = λ i below. on_bool (i == s)
          (λ yes. ap (λ (k : ℕ). length (peer_of (with_peer s p peers) k).agreements) (eq_yes i s yes)
          ∙ (ap (λ (q : PeerValue). length q.agreements) own ∙ eight))
          (λ no. ap (λ (q : PeerValue). length q.agreements) (peer_other peers s i p (eq_no i s no))
          ∙ h.eight i below);
    }

pub agreement_own : (p : PeerValue) (t : ℕ) (a : AgreementValue) → t < length p.agreements →
    agreement (record p { agreements = slice_set p.agreements t a }) t ≡ a
agreement_own p t a low = get_or-set_same p.agreements t a (new_agreement 0 256) low

pub agreement_other : (p : PeerValue) (t j : ℕ) (a : AgreementValue) → j ≢ t →
    agreement (record p { agreements = slice_set p.agreements t a }) j ≡ agreement p j
agreement_other p t j a other = get_or-set_other p.agreements t j a (new_agreement 0 256) other
