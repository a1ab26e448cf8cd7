-- Proves that the receive halves are new: the loop adds one of them for each station.
use Rattle.std.proofs.Common.{rules, ◌≡◌, ap, sym, ◌∙◌, subst, ℕ, ◌+◌, List, [], ◌∷◌, ◌++◌, arith}
use Rattle.wf_recv_peer.specs.Agreements.{PeerValue}
use Rattle.wf_cell_model.specs.Hearing.{AreNew, new_receive_half}
use Rattle.wf_cell.proofs.Hearing.{one_new, none_new}
use Rattle.wf_cell.proofs.peers.Peers.new.Goals as goal

pub loop-station-init : goal.loop-station-init
loop-station-init c = (
  subst (λ (xs : List PeerValue). AreNew 0 xs) (sym c.in_ok-list.ensures.items) none_new,
  c.in_ok-list.ensures.len,
  search rules,
)

pub loop-station-preserved : goal.loop-station-preserved
loop-station-preserved c =
    let xs : List PeerValue = c.loop-station.list.items in
    let n : ℕ = c.loop-station.station in
    let made : c.in_ok-peer.peer ≡ new_receive_half n 0 256 = search rules in
    let grown : c.push_reserved.new.self.items ≡ xs ++ new_receive_half n 0 256 ∷ [] =
    c.push_reserved.ensures.items ∙ ap (λ (p : PeerValue). xs ++ p ∷ []) made in (
      subst (λ (ys : List PeerValue). AreNew (n + 1) ys) (sym grown)
          (one_new n xs c.loop-station.invariant.0),
      search rules,
      search rules,
    )

pub returns : goal.returns
returns c =
    let all : c.loop-station.station ≡ c.args.stations =
    omega (arith, c.loop-station-test.false, c.loop-station.auto.station-end) in
    subst (λ n. AreNew n c.loop-station.list.items) all c.loop-station.invariant.0
