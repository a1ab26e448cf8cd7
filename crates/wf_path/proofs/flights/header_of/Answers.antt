-- Proves what `header_of` promises: each field comes from a part of the half that agrees with the world.
use Rattle.std.proofs.Common.{◌≡◌, refl, sym, ap, ap₂, ◌∙◌, subst, Bool, true, not, ◌&&◌, ◌||◌, nat_lt, arith}
use Rattle.wf_frame.specs.Frames.{FrameValue}
use Rattle.wf_send_parts.specs.declared.exchanges.opened.Open.{Open}
use Rattle.wf_path.specs.Addresses.{address_in, bss_in}
use Rattle.wf_send_parts.specs.Window.{WindowValue, WindowStandsFor, state_at, holds_parcel}
use Rattle.wf_def_world.specs.World.{station, session}
use Rattle.wf_path.specs.Transmissions.{duration, is_retried, is_last_frame}
use Rattle.wf_path.proofs.Flying.{window_stands, is_number, air, last, some_within, some_low, some_held}
use Rattle.wf_path.proofs.flights.header_of.Goals as goal

pub window-requires-clause-within : goal.window-requires-clause-within
window-requires-clause-within c = some_within c.args.half.now c.args.open.now c.args.index c.args.seq
    c.requires

pub window-requires-clause-tid : goal.window-requires-clause-tid
window-requires-clause-tid c = some_low c.args.half.now c.args.open.now c.args.index c.args.seq c.requires

pub attempts-attempts-requires : goal.attempts-attempts-requires
attempts-attempts-requires c = subst (λ (z : WindowValue). holds_parcel (state_at z c.args.seq) ≡ true)
    (sym c.window.ensures) (some_held c.args.half.now c.args.open.now c.args.index c.args.seq c.requires)

pub returns-clause-plain : goal.returns-clause-plain
returns-clause-plain c = record {
  not_both = refl;
  tid =
      omega (arith, some_low c.args.half.now c.args.open.now c.args.index c.args.seq c.requires);
}

pub returns-clause-header : goal.returns-clause-header
returns-clause-header c w bodies x m f =
    let stands : WindowStandsFor c.window.result.now (session w x.station x.tid) bodies =
    subst (λ (z : WindowValue). WindowStandsFor z (session w x.station x.tid) bodies) (sym c.window.ensures)
    (window_stands c.args.half.now c.args.open.now c.args.index w bodies x m f) in
    let retry : nat_lt 0 c.attempts-attempts.result ≡ is_retried w x.station x.tid m.number =
    ap (nat_lt 0) (c.attempts-attempts.ensures (session w x.station x.tid) bodies m.number stands
    (is_number c.args.half.now c.args.open.now c.args.index w bodies x m f c.args.seq c.requires.carries))
    in
    let last_is = last c.args.half.now c.args.open.now c.args.index w bodies x m f in
    let more : c.has_more.result ≡ (x.more || (x.eosp && not (is_last_frame x m))) =
    c.has_more.ensures ∙ ap₂ (λ (k : Open) (b : Bool). k.more || (k.eosp && not b)) f.same last_is in
    let tid = ap (λ (k : Open). k.tid) f.same in
    let recipient = c.of.ensures
    ∙ ap (λ (k : Open). address_in c.args.addresses.now k.station) f.same in
    let transmitter = c.bss-2.ensures
    ∙ ap (bss_in c.args.addresses.now) (c.bss.ensures.world w bodies f.stands)
    ∙ ap (λ (k : Open). bss_in c.args.addresses.now (station w k.station).bss) f.same in
    let seq = air c.args.half.now c.args.open.now c.args.index w bodies x m f c.args.seq c.requires.carries in
    let source = c.source.ensures.exact
    ∙ ap (λ (g : FrameValue). g.source) (c.frame_of.ensures w bodies x m f) in
    let lasts = c.duration_of.ensures ∙ ap (λ (k : Open). duration k.plain) f.same in
    let ends : c.ends_service.result ≡ (x.eosp && is_last_frame x m) =
    c.ends_service.ensures ∙ ap₂ ◌&&◌ (ap (λ (k : Open). k.eosp) f.same)
    last_is in
    cc (retry, more, lasts, tid, recipient, transmitter, seq, source, ends)
