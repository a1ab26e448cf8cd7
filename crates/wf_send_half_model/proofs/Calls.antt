-- Proves, for the calls that change little, that the parts represent the world after the call, before its
-- station is listed. Each change of a part corresponds to a change of its view.
use Rattle.std.proofs.Common.{◌≡◌, refl, ap, sym, ◌∙◌, subst, arith, ℕ, ◌+◌, ◌-◌, ◌<◌, pos, ◌-ℤ◌, Bool, true, false, List, ◌∷◌, length, Option, Some, None}
use Rattle.std.proofs.lemmas.List.Elements.{All-rest}
use Rattle.wf_frame.specs.declared.classes.Class.{Class}
use Rattle.wf_frame.specs.Frames.{FrameValue}
use Rattle.wf_frame.specs.declared.notes.AskedRate.{AskedRate}
use Rattle.wf_frame.specs.declared.notes.ServiceAsk.{ServiceAsk}
use Rattle.wf_frame.specs.declared.notes.ServiceAsk.TheVariants as service
use Rattle.wf_def_air.specs.Airtime.{Rate}
use Rattle.wf_def_world.specs.Rates.{rate_asked}
use Rattle.wf_def_world.specs.World.{World, Station, Share, on_station, on_share}
use Rattle.wf_def_world.specs.Service.{station_served, after_service}
use Rattle.wf_def_world.specs.Step.{class_to_send, tick_outcome, rate_outcome, sleep_outcome, wake_outcome, poll_outcome, rx_outcome, reap_outcome, ampdu_outcome, stop_outcome, start_outcome, service_outcome, bss_outcome}
use Rattle.wf_law_runs.proofs.Deficits.Books.{updc, updc_idle}
use Rattle.wf_sched_refines.specs.Standing.{LeavesRotas, with_deficit_charged as with_turns_charged, share_in}
use Rattle.wf_sched_refines.proofs.Unchanged.{rate_leaves, tick_leaves, slept_leaves, woken_leaves, credited_leaves, reaped_leaves, stated_leaves, stopped_leaves, started_leaves, served_leaves, moved_leaves}
use Rattle.wf_sched_refines.proofs.Charges.{receive_stands}
use Rattle.wf_queue_flows_refines.specs.Standing.{with_finished, ids}
use Rattle.wf_queue_flows_refines.specs.Frames.{IsBodySettled}
use Rattle.wf_queue_flows_refines.proofs.Ends.{stands_reaped}
use Rattle.wf_queue_flows_refines.proofs.Elsewhere.{rest_reaped}
use Rattle.wf_send_parts.specs.Members.{on_member, with_rate, with_ampdu, with_receipt}
use Rattle.wf_send_parts.specs.Sleepers.{sleeper, with_sleeper, woken, sleeper_after}
use Rattle.wf_send_half_model.specs.Half.{TransmitValue}
use Rattle.wf_send_half_model.specs.Standing.{sleeper_of, Parts}
use Rattle.wf_send_half_model.specs.Changes.{after_service_call}
use Rattle.wf_send_half_model.specs.Views.{view_of, Roster, roster, ledger}
use Rattle.wf_send_half_model.proofs.Views.{agreements_rest, roster_rest, reshared, view_reshared}
use Rattle.wf_send_half_model.proofs.Stands.{WindowsStand, ModesStand, StationsStand, GroupsStand, LedgerStands, Pieces, to_pieces, of_pieces}
use Rattle.wf_send_half_model.proofs.Stations.{member_changed, rated, stated, receipted, station_parts, sleeper_parts}

-- ---- the clock

pub tick_parts : (v : TransmitValue) (w : World) (bodies : ℕ → FrameValue) (by : ℕ) → Parts v w bodies →
    Parts (record v { clock = v.clock + by }) (tick_outcome w by).world bodies
unfolding tick_outcome
tick_parts v w bodies by h =
    let p : Pieces v w bodies = to_pieces v w bodies h in
    of_pieces (record v { clock = v.clock + by }) (tick_outcome w by).world bodies (record {
      config = p.config;
      clock = ap (λ (n : ℕ). n + by) p.clock;
      exchanges = p.exchanges;
      opened = p.opened;
      groups = p.groups;
      stations = p.stations;
      windows = p.windows;
      modes = record { sized = p.modes.sized; each = p.modes.each };
      flows = p.flows;
      turns = tick_leaves w by v.sched p.turns;
      ledger = p.ledger;
      frames = p.frames;
    })

-- ---- a station's rate and length of aggregates, its sleep, credit, stops and BSS

module _ (v : TransmitValue) (w : World) (bodies : ℕ → FrameValue) (s : ℕ) (low : s < w.config.stations)
    (h : Parts v w bodies) where
  pub rate_parts : (rate : AskedRate) →
      Parts (record v { members = on_member v.members s (with_rate (rate_asked rate)) })
      (rate_outcome w s rate).world bodies
  unfolding rate_outcome
  rate_parts rate =
      let given : Rate = rate_asked rate in
      station_parts v w bodies s (λ x. record x { rate = given }) (λ x. record x { rate = given })
      (on_member v.members s (with_rate given)) v.sleepers v.sched
      (λ x. refl) (λ x. refl) (rate_leaves w s rate v.sched h.others.turns)
      (λ k. member_changed v.members v.sleepers w.config.stations (roster w).stations s (with_rate given)
      (λ x. record x { rate = given }) k low (rated given) (λ x. refl)) h

  pub sleep_parts : Parts (record v {
    sleepers =
        with_sleeper v.sleepers s (record (sleeper v.sleepers s) { asleep = true });
  })
      (sleep_outcome w s).world bodies
  unfolding sleep_outcome
  sleep_parts =
      sleeper_parts v w bodies s (λ x. record x { asleep = true }) (λ y. record y { asleep = true }) low
      (λ x. refl) (λ x. refl) (slept_leaves w s) h

  pub wake_parts : Parts (record v { sleepers = with_sleeper v.sleepers s (woken (sleeper v.sleepers s)) })
      (wake_outcome w s).world bodies
  unfolding wake_outcome
  wake_parts =
      sleeper_parts v w bodies s (λ x. record x { asleep = false; credit = None; service = None }) woken low
      (λ x. refl) (λ x. refl) (woken_leaves w s) h

  pub poll_parts : Parts (record v {
    sleepers =
        with_sleeper v.sleepers s (record (sleeper v.sleepers s) { credit = Some (class_to_send w s) });
  })
      (poll_outcome w s).world bodies
  unfolding poll_outcome
  poll_parts =
      let credit : Option Class = Some (class_to_send w s) in
      sleeper_parts v w bodies s (λ x. record x { credit = credit }) (λ y. record y { credit = credit }) low
      (λ x. refl) (λ x. refl) (credited_leaves w s) h

  pub ampdu_parts : (octets : ℕ) →
      Parts (record v { members = on_member v.members s (with_ampdu octets) })
      (ampdu_outcome w s octets).world bodies
  ampdu_parts octets =
      station_parts v w bodies s (λ x. record x { ampdu = Some octets })
      (λ x. record x { ampdu = Some octets })
      (on_member v.members s (with_ampdu octets)) v.sleepers v.sched
      (λ x. refl) (λ x. refl) (stated_leaves w s octets v.sched h.others.turns)
      (λ k. member_changed v.members v.sleepers w.config.stations (roster w).stations s (with_ampdu octets)
      (λ x. record x { ampdu = Some octets }) k low (stated octets) (λ x. refl)) h

  stopped_parts : (stopped : Bool) → LeavesRotas w (on_station w s (λ x. record x { stopped = stopped })) →
      Parts (record v {
        sleepers = with_sleeper v.sleepers s (record (sleeper v.sleepers s) { stopped = stopped });
      })
      (on_station w s (λ x. record x { stopped = stopped })) bodies
  stopped_parts stopped leaves =
      sleeper_parts v w bodies s (λ x. record x { stopped = stopped }) (λ y. record y { stopped = stopped })
      low (λ x. refl) (λ x. refl) leaves h

  pub stop_parts : Parts (record v {
    sleepers =
        with_sleeper v.sleepers s (record (sleeper v.sleepers s) { stopped = true });
  })
      (stop_outcome w s).world bodies
  stop_parts = stopped_parts true (stopped_leaves w s)

  pub start_parts : Parts (record v {
    sleepers =
        with_sleeper v.sleepers s (record (sleeper v.sleepers s) { stopped = false });
  })
      (start_outcome w s).world bodies
  start_parts = stopped_parts false (started_leaves w s)

  pub bss_parts : (b : ℕ) → Parts (record v {
    sleepers =
        with_sleeper v.sleepers s (record (sleeper v.sleepers s) { bss = b });
  })
      (bss_outcome w s b).world bodies
  bss_parts b =
      sleeper_parts v w bodies s (λ x. record x { bss = b }) (λ y. record y { bss = b }) low
      (λ x. refl) (λ x. refl) (moved_leaves w s b) h

  -- ---- a receive charge

  pub rx_parts : (c : Class) (air : ℕ) → Parts (record
      v { sched = with_turns_charged v.sched s c air; members = on_member v.members s (with_receipt c air) })
      (rx_outcome w s c air).world bodies
  unfolding rx_outcome on_share
  rx_parts c air =
      let f : Share → Share = λ y. record y { deficit = y.deficit -ℤ pos air; received = y.received + air } in
      station_parts v w bodies s (λ x. reshared x c f)
      (λ x. record x { received = updc x.received c (x.received c + air) })
      (on_member v.members s (with_receipt c air)) v.sleepers (with_turns_charged v.sched s c air)
      (λ x. refl)
      (λ x. view_reshared x c f
      ∙ ap (λ (g : Class → Bool). record (view_of x) {
        upper = g;
        charged =
            updc (view_of x).charged c (share_in x c).charged;
        received =
            updc (view_of x).received c ((share_in x c).received + air);
      })
      (updc_idle (view_of x).upper c (share_in x c).upper refl)
      ∙ ap (λ (g : Class → ℕ). record (view_of x) {
        charged = g;
        received =
            updc (view_of x).received c ((share_in x c).received + air);
      })
      (updc_idle (view_of x).charged c (share_in x c).charged refl))
      (receive_stands v.sched w s c air h.others.turns)
      (λ k. member_changed v.members v.sleepers w.config.stations (roster w).stations s (with_receipt c air)
      (λ x. record x { received = updc x.received c (x.received c + air) }) k low (receipted c air)
      (λ x. refl)) h

-- ---- a call about service periods

served_view : (ask : ServiceAsk) (x : Station) →
    view_of (after_service ask x) ≡ record (view_of x) { sleeper = sleeper_after ask (sleeper_of x) }
served_view (service.Set s classes most) x = refl
served_view (service.Trigger s) x = refl
served_view (service.End s) x = refl

pub service_parts : (v : TransmitValue) (w : World) (bodies : ℕ → FrameValue) (ask : ServiceAsk) →
    station_served ask < w.config.stations → Parts v w bodies →
    Parts (after_service_call v ask) (service_outcome w ask).world bodies
service_parts v w bodies ask low h =
    sleeper_parts v w bodies (station_served ask) (after_service ask) (sleeper_after ask) low (λ x. refl)
    (served_view ask) (served_leaves w ask) h

-- ---- the finished list

reaped_ledger : (w : World) (id : ℕ) (rest : List ℕ) →
    ledger (reap_outcome w (id ∷ rest)).world
    ≡ record (ledger w) { inside = (ledger (record w { finished = rest })).inside }
unfolding reap_outcome
reaped_ledger w id rest = refl

pub reap_parts : (v : TransmitValue) (w : World) (bodies : ℕ → FrameValue) (f : FrameValue)
    (rest : List FrameValue) → v.flows.backlog.finished ≡ f ∷ rest → Parts v w bodies →
    Parts (record v { inside = v.inside - 1; flows = with_finished v.flows rest })
    (reap_outcome w w.finished).world bodies
reap_parts v w bodies f rest e h =
    let p : Pieces v w bodies = to_pieces v w bodies h in
    let u : World = (reap_outcome w w.finished).world in
    let same : roster w ≡ roster u = sym (roster_rest w u (rest_reaped w w.finished)) in
    let first : w.finished ≡ f.id ∷ ids rest = p.flows.finished ∙ ap ids e in
    let book : ledger u ≡ record (ledger w) { inside = (ledger (record w { finished = ids rest })).inside } =
    ap (λ (l : List ℕ). ledger (reap_outcome w l).world) first ∙ reaped_ledger w f.id (ids rest) in
    let count : v.inside - 1 ≡ (ledger (record w { finished = ids rest })).inside =
    omega (arith, p.ledger.count, ap length first) in
    of_pieces (record v { inside = v.inside - 1; flows = with_finished v.flows rest }) u bodies (record {
      config = p.config ∙ ap (λ (r : Roster). r.config) same;
      clock = p.clock ∙ ap (λ (r : Roster). r.clock) same;
      exchanges = p.exchanges ∙ ap (λ (r : Roster). r.exchanges) same;
      opened = p.opened ∙ ap (λ (r : Roster). r.opened) same;
      groups = subst (λ (r : Roster). GroupsStand v.groups r.config r.groups) same p.groups;
      stations = subst (λ (r : Roster). StationsStand v.members v.sleepers r.config.stations r.stations) same
          p.stations;
      windows = subst (WindowsStand v.windows bodies)
          (sym (agreements_rest w u (rest_reaped w w.finished))) p.windows;
      modes = subst (ModesStand v.modes) (sym (agreements_rest w u (rest_reaped w w.finished))) p.modes;
      flows = stands_reaped v.flows w f rest p.flows e;
      turns = reaped_leaves w w.finished v.sched p.turns;
      ledger = subst (LedgerStands (v.inside - 1) v.tally bodies) (sym book)
          (record { count = count; fates = p.ledger.fates; notes = p.ledger.notes });
      frames = record {
        queued = p.frames.queued;
        finished =
            All-rest (IsBodySettled bodies) f rest v.flows.backlog.finished e p.frames.finished;
      };
    })
