-- Proves the effect of a call by which a station joins on an engine. By cases of the path's reply.
use Rattle.std.proofs.Common.{◌≡◌, ap, sym, ◌∙◌, subst, ℕ, List, arith}
use Rattle.wf_path.specs.Jobs.{as_ask}
use Rattle.wf_path.specs.Paths.{PathValue}
use Rattle.wf_cell.specs.Engines.{EngineValue, EngineMeets}
use Rattle.wf_frame.specs.Answers.{reply_of, reply_with}
use Rattle.wf_frame.specs.declared.answers.Answer.{Answer}
use Rattle.wf_frame.specs.declared.answers.Brief.{Brief}
use Rattle.wf_frame.specs.declared.notes.Note.TheVariants.{Asked}
use Rattle.wf_recv_peer.specs.Agreements.{PeerValue, new_peer}
use Rattle.wf_send_half_model.specs.Half.{TransmitValue}
use Rattle.wf_cell_model.specs.Hearing.{with_peer, peer_of}
use Rattle.wf_cell.specs.declared.engine.Newcomer.{Newcomer}
use Rattle.wf_cell.proofs.Calls.{IsInBounds, newcomer_may, newcomer_fits, newcomer_done, newcomer_meets, newcomer_refused, joined_brief}
use Rattle.wf_cell.proofs.Inside.{inside}
use Rattle.wf_cell.proofs.engine.Engine.join.Goals as goal

pub reset-requires-clause-within : goal.reset-requires-clause-within
reset-requires-clause-within c =
    let w = c.requires.some.world in let bodies = c.requires.some.bodies in
    let j = inside c.self.view_is w bodies c.requires.some.is_in in
    let a : Answer = c.call.new.answer in
    let x = c.args in
    let joined = ap (λ (b : Brief). reply_with b a.pairs a.ids) c.in-Joined.is in
    let m = c.call.ensures.meets w bodies j.half (newcomer_may x.ask x.newcomer c.requires.joins w) in
    let done = newcomer_done _ c.call.new.self.half (reply_of a) w bodies j x.ask x.newcomer c.requires.joins
    m joined in
    let fits : IsInBounds w x.newcomer = newcomer_fits x.ask x.newcomer c.requires.joins w done in
    omega (arith, fits.station, j.hears.sized.count)

pub reset-requires-clause-size : goal.reset-requires-clause-size
reset-requires-clause-size c =
    let w = c.requires.some.world in let bodies = c.requires.some.bodies in
    let j = inside c.self.view_is w bodies c.requires.some.is_in in
    let a : Answer = c.call.new.answer in
    let x = c.args in
    let joined = ap (λ (b : Brief). reply_with b a.pairs a.ids) c.in-Joined.is in
    let m = c.call.ensures.meets w bodies j.half (newcomer_may x.ask x.newcomer c.requires.joins w) in
    let done = newcomer_done _ c.call.new.self.half (reply_of a) w bodies j x.ask x.newcomer c.requires.joins
    m joined in
    (newcomer_fits x.ask x.newcomer c.requires.joins w done).window

pub returns-in-Joined-clause-meets : goal.returns-in-Joined-clause-meets
returns-in-Joined-clause-meets c = λ w bodies i.
    let j = inside c.self.view_is w bodies i in
    let a : Answer = c.call.new.answer in
    let after : TransmitValue = c.call.new.self.half in
    let x = c.args in
    let k : Newcomer = x.newcomer in
    let joined = ap (λ (b : Brief). reply_with b a.pairs a.ids) c.in-Joined.is in
    let m = c.call.ensures.meets w bodies j.half (newcomer_may x.ask k c.requires.joins w) in
    let done = newcomer_done _ after (reply_of a) w bodies j x.ask k c.requires.joins m joined in
    let fits : IsInBounds w k = newcomer_fits x.ask k c.requires.joins w done in
    let number : c.of-start.result ≡ k.start =
    omega (arith, fits.start, c.of-start.ensures, c.from.ensures) in
    let peers : List PeerValue = c.self.inside.peers in
    let p : PeerValue = peer_of peers k.station in
    subst (λ (ps : List PeerValue). let u : EngineValue =
    record { half = after; peers = ps; marks = c.self.inside.marks } in
    EngineMeets w bodies (Asked (as_ask x.ask)) u (reply_of a))
    (sym (c.reset.ensures
    ∙ ap (λ (n : ℕ). with_peer k.station (new_peer p.own p.base n k.window) peers) number))
    (newcomer_meets _ after (reply_of a) w bodies j x.ask k c.requires.joins m joined)

pub returns-in_default-clause-meets : goal.returns-in_default-clause-meets
returns-in_default-clause-meets c = λ w bodies i.
    let j = inside c.self.view_is w bodies i in
    let a : Answer = c.call.new.answer in
    let after : TransmitValue = c.call.new.self.half in
    let x = c.args in
    let m = c.call.ensures.meets w bodies j.half (newcomer_may x.ask x.newcomer c.requires.joins w) in
    newcomer_refused _ after (reply_of a) w bodies j x.ask x.newcomer c.requires.joins m
    (λ joined. c.in_default.not-Joined (joined_brief a.brief a.pairs a.ids joined))

pub returns-in-Joined-clause-path_kept : goal.returns-in-Joined-clause-path_kept
returns-in-Joined-clause-path_kept c = λ is.
    ap (λ (p : PathValue). p.half) (c.call.ensures.refused is) ∙ ap (λ (u : EngineValue). u.half)
    c.self.view_is

pub returns-in_default-clause-path_kept : goal.returns-in_default-clause-path_kept
returns-in_default-clause-path_kept c = λ is.
    ap (λ (p : PathValue). p.half) (c.call.ensures.refused is) ∙ ap (λ (u : EngineValue). u.half)
    c.self.view_is
