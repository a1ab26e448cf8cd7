-- Proves that the station gets the octets of the transmission, and that the result is the effect of an
-- Arrive.
use Rattle.std.proofs.Common.{◌≡◌, ap, sym, subst, ℕ, ◌<◌, List, take, arith}
use Rattle.wf_frame.specs.Frames.{FrameValue}
use Rattle.wf_def_world.specs.World.{World, Exchange}
use Rattle.wf_def_world.specs.Exchanges.{transmissions}
use Rattle.wf_recv_peer.specs.Agreements.{PeerValue}
use Rattle.wf_path.specs.declared.reading.Sent.{Sent}
use Rattle.wf_cell_model.specs.Arriving.{peer_after, buffer_outcome_of_transmission}
use Rattle.wf_cell_model.specs.Hearing.{peer_of, with_peer, agreement_of}
use Rattle.wf_cell.specs.Engines.{EngineValue}
use Rattle.wf_cell.specs.Octets.{IsSentTo}
use Rattle.wf_cell.proofs.Exchanges.{IsOpen, told_open, told_is, told_station, arrives_within, transmissions_few, passed_on}
use Rattle.wf_cell.proofs.Inside.{inside}
use Rattle.wf_cell.proofs.engine.Engine.pass_on.Goals as goal

pub written-len-requires-clause-on_air : goal.written-len-requires-clause-on_air
written-len-requires-clause-on_air c =
    let w : World = c.requires.world in let bodies : ℕ → FrameValue = c.requires.bodies in
    let i = c.requires.is_in in let done = c.requires.arrives in
    let j = inside c.self.view_is w bodies i in
    let e : ℕ = c.args.exchange in let k : ℕ = c.args.index in let sent : Sent = c.args.sent in
    let told = c.requires.told w bodies i in
    let o : IsOpen w e = told_open w e sent told in
    let x : Exchange = o.sending in
    let here : sent.station ≡ x.station = ap (λ (s : Sent). s.station) (told_is w e sent x told o.known) in
    let within : k < transmissions x.content = arrives_within w e k x o.known done in
    record { world = w; bodies = bodies; stands = j.half; sending = x; known = o.known; within = within }

pub receive-requires-clause-within : goal.receive-requires-clause-within
receive-requires-clause-within c =
    let w : World = c.requires.world in let bodies : ℕ → FrameValue = c.requires.bodies in
    let i = c.requires.is_in in let done = c.requires.arrives in
    let j = inside c.self.view_is w bodies i in
    let e : ℕ = c.args.exchange in let k : ℕ = c.args.index in let sent : Sent = c.args.sent in
    let told = c.requires.told w bodies i in
    let o : IsOpen w e = told_open w e sent told in
    let x : Exchange = o.sending in
    let here : sent.station ≡ x.station = ap (λ (s : Sent). s.station) (told_is w e sent x told o.known) in
    let within : k < transmissions x.content = arrives_within w e k x o.known done in
    told_station _ w bodies e sent j told

pub receive-requires-clause-addresses : goal.receive-requires-clause-addresses
receive-requires-clause-addresses c =
    let w : World = c.requires.world in let bodies : ℕ → FrameValue = c.requires.bodies in
    let i = c.requires.is_in in let done = c.requires.arrives in
    let j = inside c.self.view_is w bodies i in
    let e : ℕ = c.args.exchange in let k : ℕ = c.args.index in let sent : Sent = c.args.sent in
    let told = c.requires.told w bodies i in
    let o : IsOpen w e = told_open w e sent told in
    let x : Exchange = o.sending in
    let here : sent.station ≡ x.station = ap (λ (s : Sent). s.station) (told_is w e sent x told o.known) in
    let within : k < transmissions x.content = arrives_within w e k x o.known done in
    j.hears.sized.addresses sent.station
    (omega (arith, told_station _ w bodies e sent j told, j.hears.sized.count))

pub receive-requires-clause-sent : goal.receive-requires-clause-sent
receive-requires-clause-sent c =
    let w : World = c.requires.world in let bodies : ℕ → FrameValue = c.requires.bodies in
    let i = c.requires.is_in in let done = c.requires.arrives in
    let j = inside c.self.view_is w bodies i in
    let e : ℕ = c.args.exchange in let k : ℕ = c.args.index in let sent : Sent = c.args.sent in
    let told = c.requires.told w bodies i in
    let o : IsOpen w e = told_open w e sent told in
    let x : Exchange = o.sending in
    let here : sent.station ≡ x.station = ap (λ (s : Sent). s.station) (told_is w e sent x told o.known) in
    let within : k < transmissions x.content = arrives_within w e k x o.known done in
    let octets : List ℕ = take c.written-len.result c.written-len.new.octets in
    let at_own : IsSentTo sent.station x.tid k x.content octets =
    subst (λ s. IsSentTo s x.tid k x.content octets) (sym here)
    (c.written-len.ensures.says w bodies x j.half o.known within) in
    record { tid = x.tid; index = k; content = x.content; sent = at_own }

pub arrive-requires : goal.arrive-requires
arrive-requires c =
    let w : World = c.requires.world in let bodies : ℕ → FrameValue = c.requires.bodies in
    let i = c.requires.is_in in let done = c.requires.arrives in
    let j = inside c.self.view_is w bodies i in
    let e : ℕ = c.args.exchange in let k : ℕ = c.args.index in let sent : Sent = c.args.sent in
    let told = c.requires.told w bodies i in
    let o : IsOpen w e = told_open w e sent told in
    let x : Exchange = o.sending in
    let here : sent.station ≡ x.station = ap (λ (s : Sent). s.station) (told_is w e sent x told o.known) in
    let within : k < transmissions x.content = arrives_within w e k x o.known done in
    omega (arith, within, transmissions_few w e x j.half.reached o.known)

pub returns-clause-meets : goal.returns-clause-meets
returns-clause-meets c = λ w bodies i done.
    let j = inside c.self.view_is w bodies i in
    let e : ℕ = c.args.exchange in let k : ℕ = c.args.index in let sent : Sent = c.args.sent in
    let told = c.requires.told w bodies i in
    let o : IsOpen w e = told_open w e sent told in
    let x : Exchange = o.sending in
    let here : sent.station ≡ x.station = ap (λ (s : Sent). s.station) (told_is w e sent x told o.known) in
    let within : k < transmissions x.content = arrives_within w e k x o.known done in
    let octets : List ℕ = take c.written-len.result c.written-len.new.octets in
    let at_own : IsSentTo sent.station x.tid k x.content octets =
    subst (λ s. IsSentTo s x.tid k x.content octets) (sym here)
    (c.written-len.ensures.says w bodies x j.half o.known within) in
    let id : ℕ = c.carried_id-id.result in
    let peers : List PeerValue = c.self.inside.peers in
    passed_on _ w bodies e k id x j o.known done (c.carried_id-id.ensures w bodies x j.half o.known within)
    c.receive.new.self c.arrive.new.self c.receive.new.up
    (subst (λ s. c.receive.new.self ≡ with_peer s (peer_after x.tid k id x.content (peer_of peers s)) peers)
    here (c.receive.ensures.heard x.tid k x.content at_own))
    c.arrive.ensures
    (subst (λ s. c.receive.new.up ≡ (buffer_outcome_of_transmission k id x.content
    (agreement_of peers s x.tid).buffer).up) here (c.receive.ensures.up x.tid k x.content at_own))

pub returns-clause-path_kept : goal.returns-clause-path_kept
returns-clause-path_kept c = ap (λ (u : EngineValue). u.half) c.self.view_is
