-- Proves that a receive half accepts octets for its station, and the effect on it. By cases of data and
-- request.
use Rattle.std.proofs.Common.{◌≡◌, ap, sym, ◌∙◌, subst, ℕ, List}
use Rattle.std.specs.Prelude.{slice_index_or}
use Rattle.std.proofs.lemmas.List.{get_or_read}
use Rattle.wf_recv_peer.specs.Agreements.{PeerValue, agreement, after_frame, outcome_of_frame}
use Rattle.wf_cell_model.specs.Arriving.{peer_after, buffer_outcome_of_transmission}
use Rattle.wf_cell_model.specs.Hearing.{HasAddresses, new_receive_half, peer_of}
use Rattle.wf_cell.proofs.Hearing.{IsTaken, LeadsTo, data_for_half, request_for_half, is_ok_sent, no_fault, where_ok, led_after, led_up}
use Rattle.wf_cell.proofs.peers.Peers.receive.Goals as goal

pub unreachable-requires : goal.unreachable-requires
unreachable-requires c =
    let p : PeerValue = c.index_mut.result.now in
    let read : p ≡ slice_index_or c.args.self.now c.args.station p = cc in
    let here : p ≡ peer_of c.args.self.now c.args.station =
    get_or_read c.args.self.now c.args.station p c.requires.within read (new_receive_half 0 0 256) in
    let s : ℕ = c.args.station in
    let octets : List ℕ = c.args.octets.now in
    let its : HasAddresses s p = subst (HasAddresses s) (sym here) c.requires.addresses in
    let taken : IsTaken s octets c.receive.result =
    record {
      of_data = λ h is. (c.receive.ensures.«data» h (data_for_half s p octets h its is)).0;
      of_request =
          λ b is. (c.receive.ensures.request b (request_for_half s p octets b its is)).0;
    } in
    let sent = c.requires.sent in
    no_fault c.receive.result (is_ok_sent s octets c.receive.result taken sent.tid sent.index sent.content
    sent.sent) (sym c.is_err.ensures.value ∙ c.if-is_err.true)

pub returns : goal.returns
returns c =
    let p : PeerValue = c.index_mut.result.now in
    let read : p ≡ slice_index_or c.args.self.now c.args.station p = cc in
    let here : p ≡ peer_of c.args.self.now c.args.station =
    get_or_read c.args.self.now c.args.station p c.requires.within read (new_receive_half 0 0 256) in
    let s : ℕ = c.args.station in
    let octets : List ℕ = c.args.octets.now in
    let its : HasAddresses s p = subst (HasAddresses s) (sym here) c.requires.addresses in
    let id : ℕ = c.args.id in
    let leads : LeadsTo s octets id p c.receive.new.self c.receive.new.up = record {
      of_data = λ h is.
          let r = c.receive.ensures.«data» h (data_for_half s p octets h its is) in (
            where_ok _ c.receive.result r.0 c.receive.ensures.after ∙ ap (λ k. after_frame k id p) r.1,
            where_ok _ c.receive.result r.0 c.receive.ensures.up
                ∙ ap (λ k. (outcome_of_frame k id p).up) r.1,
          );
      of_request = λ b is.
          let r = c.receive.ensures.request b (request_for_half s p octets b its is) in (
            where_ok _ c.receive.result r.0 c.receive.ensures.after ∙ ap (λ k. after_frame k id p) r.1,
            where_ok _ c.receive.result r.0 c.receive.ensures.up
                ∙ ap (λ k. (outcome_of_frame k id p).up) r.1,
          );
    } in
    record {
      heard = λ tid i content sent.
          let after : c.receive.new.self ≡ peer_after tid i id content (peer_of c.args.self.now s) =
          led_after s octets id p c.receive.new.self c.receive.new.up leads tid i content sent
          ∙ ap (λ (q : PeerValue). peer_after tid i id content q) here in
          cc;
      up = λ tid i content sent.
          led_up s octets id p c.receive.new.self c.receive.new.up leads tid i content sent
          ∙ ap (λ (q : PeerValue). (buffer_outcome_of_transmission i id content (agreement q tid).buffer).up)
          here;
    }
