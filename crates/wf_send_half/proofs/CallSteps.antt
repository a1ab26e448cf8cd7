-- Proves what the calls do to the half from what they do to its parts.
use Rattle.std.proofs.Common.{◌≡◌, ap, ap₂, sym, ◌∙◌, subst, ℕ, suc, arith, ◌+◌, ◌-◌, ◌*◌, ◌==◌, Bool, true, false, pos, ◌+ℤ◌, ◌-ℤ◌, ℤ, List, [], ◌∷◌, length, Option, Some, None, is_some, set, if◌then◌else◌, inl, inr}
use Rattle.std.specs.Prelude.{int_lt, ◌<ℤ◌}
use Rattle.std.proofs.lemmas.Bool.{cases_Bool}
use Rattle.std.proofs.lemmas.Bool.Decides.{nat_tests}
use Rattle.std.proofs.lemmas.Int.{ints}
use Rattle.wf_frame.specs.declared.settings.Config.{Config}
use Rattle.wf_frame.specs.declared.classes.Class.{Class}
use Rattle.wf_frame.specs.declared.notes.AskedRate.{AskedRate}
use Rattle.wf_frame.specs.declared.notes.ServiceAsk.{ServiceAsk}
use Rattle.wf_frame.specs.declared.notes.ServiceReply.{ServiceReply}
use Rattle.wf_frame.specs.declared.notes.Note.TheVariants.{Asked}
use Rattle.wf_frame.specs.declared.notes.Ask.TheVariants.{Rate as Rates, Tick, Sleep, Wake, Poll, Rx, Reap, Ampdu, Stop, Start, Service, Bss}
use Rattle.wf_frame.specs.declared.notes.ReplyNote.TheVariants.{Set, Now, Slept, Woken, Polled, Charged, Reaped, Stopped, Started, Service as Services, Refused}
use Rattle.wf_frame.specs.declared.notes.Refusal.TheVariants.{Debt, Nothing}
use Rattle.wf_frame.specs.Frames.{FrameValue}
use Rattle.wf_def_air.specs.Airtime.{Rate}
use Rattle.wf_def_lists.specs.Bounds.{deepest_deficit}
use Rattle.wf_def_world.specs.Rates.{rate_asked}
use Rattle.wf_def_world.specs.World.{World, is_live, share, pending_air}
use Rattle.wf_def_world.specs.Refusals.{refusal}
use Rattle.wf_def_world.specs.Service.{station_served}
use Rattle.wf_def_world.specs.Step.{class_to_send, service_answer}
use Rattle.wf_send_parts.specs.Tally.{counts_of}
use Rattle.wf_queue_flows.specs.Flows.{FlowsValue}
use Rattle.wf_queue_flows_refines.specs.Standing.{ids, with_finished}
use Rattle.wf_sched.specs.ClassRotas.{SchedValue, deficit, after_join}
use Rattle.wf_sched_refines.specs.Standing.{everywhere, with_deficit_charged}
use Rattle.wf_sched_refines.proofs.Charges.{debt_same}
use Rattle.wf_send_parts.specs.declared.stations.members.Member.{Member}
use Rattle.wf_send_parts.specs.Members.{member, on_member, new_member, with_rate, with_ampdu, with_receipt}
use Rattle.wf_send_parts.specs.declared.stations.sleepers.Sleeper.{Sleeper}
use Rattle.wf_send_parts.specs.Sleepers.{sleeper, with_sleeper, awake, woken, sleeper_after}
use Rattle.wf_send_half_model.specs.Half.{TransmitValue, pending_air_of}
use Rattle.wf_send_half_model.specs.Standing.{StandsFor, Meets}
use Rattle.wf_send_half_model.specs.Changes.{after_service_call, after_listing, after_listing_in, after_admission}
use Rattle.wf_send_half_model.proofs.Readers.{pending_same, deficit_same}
use Rattle.wf_send_half_model.proofs.Receipts.{after_receipt, rx_meets}
use Rattle.wf_send_half_model.proofs.Whole.{service_meets, tick_meets, reap_meets, rate_meets, ampdu_meets, bss_meets, stop_meets, start_meets, sleep_meets, wake_meets, poll_meets}
use Rattle.wf_send_half.specs.declared.half.Half.TheInside.{Inside}
use Rattle.wf_send_half.proofs.Rows.{last_row, live_of, refused_call}
use Rattle.wf_send_half.proofs.Worlds.{met_by}

-- the value of these fields
abbrev pub view_of : Inside → TransmitValue
view_of t = record {
  config = t.config;
  clock = t.clock;
  exchanges = t.exchanges;
  inside = t.inside;
  flows = t.flows;
  sched = t.sched;
  windows = t.windows;
  modes = t.modes;
  members = t.members;
  sleepers = t.sleepers;
  opened = t.opened;
  tally = counts_of t.tally;
  groups = t.groups;
}

some_left : (n m : ℕ) → n ≡ suc m → (n == 0) ≡ false
some_left n m e = grind (arith, nat_tests)

-- x is the value of the fields of the half v
module _ (v x : TransmitValue) (same : x ≡ v) (w : World) (bodies : ℕ → FrameValue)
    (h : StandsFor v w bodies) where
  at_x : StandsFor x w bodies
  at_x = subst (λ (z : TransmitValue). StandsFor z w bodies) (sym same) h

  pub tick_done : (by n : ℕ) → n ≡ by → None ≡ refusal w (Asked (Tick by)) →
      Meets w bodies (Asked (Tick by)) (record x { clock = x.clock + n }) (Now (x.clock + n))
  tick_done by n e done = subst (λ (k : ℕ). Meets w bodies (Asked (Tick by))
      (record x { clock = x.clock + k }) (Now (x.clock + k))) (sym e)
      (tick_meets x w bodies at_x by (sym done))

  pub rate_done : (s : ℕ) (asked : AskedRate) (members : List (Option Member)) (rate : Rate) →
      rate ≡ rate_asked asked →
      members ≡ on_member x.members s (with_rate rate) → None ≡ refusal w (Asked (Rates s asked)) →
      Meets w bodies (Asked (Rates s asked)) (record x { members = members }) Set
  rate_done s asked members rate is e done =
      met_by (record x { members = on_member x.members s (with_rate (rate_asked asked)) })
      (record x { members = members }) w bodies (Asked (Rates s asked)) Set
      (ap (λ (m : List (Option Member)). record x { members = m })
      (e ∙ ap (λ (r : Rate). on_member x.members s (with_rate r)) is))
      (rate_meets x w bodies at_x s asked (sym done))

  pub ampdu_done : (s octets : ℕ) (members : List (Option Member)) →
      members ≡ on_member x.members s (with_ampdu octets) → None ≡ refusal w (Asked (Ampdu s octets)) →
      Meets w bodies (Asked (Ampdu s octets)) (record x { members = members }) Set
  ampdu_done s octets members e done =
      met_by (record x { members = on_member x.members s (with_ampdu octets) })
      (record x { members = members }) w bodies (Asked (Ampdu s octets)) Set
      (ap (λ (m : List (Option Member)). record x { members = m }) e)
      (ampdu_meets x w bodies at_x s octets (sym done))

  pub bss_done : (s b : ℕ) (sleepers : List Sleeper) →
      sleepers ≡ with_sleeper x.sleepers s (record (sleeper x.sleepers s) { bss = b }) →
      None ≡ refusal w (Asked (Bss s b)) →
      Meets w bodies (Asked (Bss s b)) (record x { sleepers = sleepers }) Set
  bss_done s b sleepers e done =
      met_by (record x { sleepers = with_sleeper x.sleepers s (record (sleeper x.sleepers s) { bss = b }) })
      (record x { sleepers = sleepers }) w bodies (Asked (Bss s b)) Set
      (ap (λ (z : List Sleeper). record x { sleepers = z }) e)
      (bss_meets x w bodies at_x s b (sym done))

  pub stop_done : (s : ℕ) (sleepers : List Sleeper) (y : TransmitValue) →
      sleepers ≡ with_sleeper x.sleepers s (record (sleeper x.sleepers s) { stopped = true }) →
      y ≡ after_listing (record x { sleepers = sleepers }) s → None ≡ refusal w (Asked (Stop s)) →
      Meets w bodies (Asked (Stop s)) y Stopped
  stop_done s sleepers y e listed done =
      met_by (after_listing (record x {
        sleepers = with_sleeper x.sleepers s
            (record (sleeper x.sleepers s) { stopped = true });
      }) s) y w bodies (Asked (Stop s)) Stopped
      (listed ∙ ap (λ (z : List Sleeper). after_listing (record x { sleepers = z }) s) e)
      (stop_meets x w bodies at_x s (sym done))

  pub start_done : (s : ℕ) (sleepers : List Sleeper) (y : TransmitValue) →
      sleepers ≡ with_sleeper x.sleepers s (record (sleeper x.sleepers s) { stopped = false }) →
      y ≡ after_listing (record x { sleepers = sleepers }) s → None ≡ refusal w (Asked (Start s)) →
      Meets w bodies (Asked (Start s)) y Started
  start_done s sleepers y e listed done =
      met_by (after_listing (record x {
        sleepers = with_sleeper x.sleepers s
            (record (sleeper x.sleepers s) { stopped = false });
      }) s) y w bodies (Asked (Start s)) Started
      (listed ∙ ap (λ (z : List Sleeper). after_listing (record x { sleepers = z }) s) e)
      (start_meets x w bodies at_x s (sym done))

  pub sleep_done : (s : ℕ) (sleepers : List Sleeper) (y : TransmitValue) →
      sleepers ≡ with_sleeper x.sleepers s (record (sleeper x.sleepers s) { asleep = true }) →
      y ≡ after_listing (record x { sleepers = sleepers }) s → None ≡ refusal w (Asked (Sleep s)) →
      Meets w bodies (Asked (Sleep s)) y Slept
  sleep_done s sleepers y e listed done =
      met_by (after_listing (record x {
        sleepers = with_sleeper x.sleepers s
            (record (sleeper x.sleepers s) { asleep = true });
      }) s) y w bodies (Asked (Sleep s)) Slept
      (listed ∙ ap (λ (z : List Sleeper). after_listing (record x { sleepers = z }) s) e)
      (sleep_meets x w bodies at_x s (sym done))

  pub wake_done : (s : ℕ) (sleepers : List Sleeper) (y : TransmitValue) →
      sleepers ≡ with_sleeper x.sleepers s (woken (sleeper x.sleepers s)) →
      y ≡ after_listing (record x { sleepers = sleepers }) s → None ≡ refusal w (Asked (Wake s)) →
      Meets w bodies (Asked (Wake s)) y Woken
  wake_done s sleepers y e listed done =
      met_by (after_listing (record x {
        sleepers = with_sleeper x.sleepers s (woken (sleeper x.sleepers s));
      }) s) y w bodies (Asked (Wake s)) Woken
      (listed ∙ ap (λ (z : List Sleeper). after_listing (record x { sleepers = z }) s) e)
      (wake_meets x w bodies at_x s (sym done))

  pub poll_done : (s : ℕ) (c : Class) (sleepers : List Sleeper) (y : TransmitValue) → c ≡ class_to_send w s →
      sleepers ≡ with_sleeper x.sleepers s (record (sleeper x.sleepers s) { credit = Some c }) →
      y ≡ after_listing (record x { sleepers = sleepers }) s →
      None ≡ refusal w (Asked (Poll s)) → Meets w bodies (Asked (Poll s)) y (Polled c)
  poll_done s c sleepers y is e listed done =
      met_by (after_listing (record x {
        sleepers = with_sleeper x.sleepers s
            (record (sleeper x.sleepers s) { credit = Some c });
      }) s) y w bodies (Asked (Poll s)) (Polled c)
      (listed ∙ ap (λ (z : List Sleeper). after_listing (record x { sleepers = z }) s) e)
      (subst (λ (k : Class). Meets w bodies (Asked (Poll s))
      (after_listing (record x {
        sleepers = with_sleeper x.sleepers s
            (record (sleeper x.sleepers s) { credit = Some k });
      }) s) (Polled k)) (sym is)
      (poll_meets x w bodies at_x s (sym done)))

  -- a call about the service periods of a station changes its sleeper
  pub service_done : (ask : ServiceAsk) (given : ServiceReply) (sleepers : List Sleeper)
      (y : TransmitValue) → given ≡ service_answer w ask → sleepers
      ≡ with_sleeper x.sleepers (station_served ask)
      (sleeper_after ask (sleeper x.sleepers (station_served ask))) →
      y ≡ after_listing (record x { sleepers = sleepers }) (station_served ask) →
      None ≡ refusal w (Asked (Service ask)) → Meets w bodies (Asked (Service ask)) y (Services given)
  service_done ask given sleepers y is e listed done =
      met_by (after_listing (after_service_call x ask) (station_served ask)) y w bodies
      (Asked (Service ask)) (Services given)
      (listed ∙ ap (λ (z : List Sleeper). after_listing (record x { sleepers = z }) (station_served ask)) e)
      (subst (λ (k : ServiceReply). Meets w bodies (Asked (Service ask))
      (after_listing (after_service_call x ask) (station_served ask)) (Services k)) (sym is)
      (service_meets x w bodies at_x ask (sym done)))

  -- the greatest debt of the scheduler is the setting `debt` and the airtime in flight that counts
  debt_is : (s : ℕ) (c : Class) → x.config.debt + pending_air_of x s c ≡ w.config.debt + pending_air w s c
  debt_is s c = ap₂ (λ (m n : ℕ). m + n) (ap (λ (z : Config). z.debt) at_x.parts.others.config)
      (pending_same x w bodies s c at_x.parts)

  no_debt : (s : ℕ) (c : Class) (air : ℕ) → is_some (member v.members s) ≡ true →
      ((deficit x.sched c s -ℤ pos air) <ℤ deepest_deficit (w.config.debt + pending_air w s c) → ⊥) →
      int_lt ((share w s c).deficit -ℤ pos air) (deepest_deficit w.config.debt) ≡ false
  no_debt s c air live above = elim (cases_Bool
      (int_lt ((share w s c).deficit -ℤ pos air) (deepest_deficit w.config.debt))) [
        | inl is ↦ absurd (above ((debt_same x.sched w s c air at_x.parts.others.turns
            (live_of v w bodies h s live)).1 is))
        | inr off ↦ off
      ]

  -- a receive charge that stays within the greatest debt
  pub rx_done : (s : ℕ) (c : Class) (air : ℕ) (left : ℤ) (turns : SchedValue)
      (members : List (Option Member)) (y : TransmitValue) →
      left ≡ (deficit x.sched c s -ℤ pos air) +ℤ pos (pending_air_of x s c) →
      turns ≡ with_deficit_charged x.sched s c air → members ≡ on_member x.members s (with_receipt c air) →
      y ≡ after_listing_in (record x { sched = turns; members = members }) s c →
      is_some (member v.members s) ≡ true → refusal w (Asked (Rx s c air))
      ≡ (if int_lt ((share w s c).deficit -ℤ pos air) (deepest_deficit w.config.debt)
      then Some (Debt (share w s c).deficit) else None) →
      ((deficit x.sched c s -ℤ pos air) <ℤ deepest_deficit (x.config.debt + pending_air_of x s c) → ⊥) →
      Meets w bodies (Asked (Rx s c air)) y (Charged left)
  rx_done s c air left turns members y is e f listed live passed above =
      met_by (after_listing_in (after_receipt x s c air) s c) y w bodies (Asked (Rx s c air)) (Charged left)
      (listed
      ∙ ap (λ (z : SchedValue). after_listing_in (record x { sched = z; members = members }) s c) e
      ∙ ap (λ (m : List (Option Member)). after_listing_in
      (record x { sched = with_deficit_charged x.sched s c air; members = m }) s c) f)
      (subst (λ (d : ℤ). Meets w bodies (Asked (Rx s c air))
      (after_listing_in (after_receipt x s c air) s c) (Charged d))
      (swapped (deficit x.sched c s) (pending_air_of x s c) ∙ sym is)
      (rx_meets x w bodies at_x s c air (passed ∙ ap
      (λ (b : Bool). if b then Some (Debt (share w s c).deficit) else None)
      (no_debt s c air live (λ below. above (subst
      (λ (n : ℕ). (deficit x.sched c s -ℤ pos air) <ℤ deepest_deficit n) (sym (debt_is s c)) below))))))
    where
      swapped : (d : ℤ) (n : ℕ) → (d +ℤ pos n) -ℤ pos air ≡ (d -ℤ pos air) +ℤ pos n
      swapped d n = omega (arith, ints)

  -- a receive charge that would exceed the greatest debt
  pub rx_refused : (s : ℕ) (c : Class) (air : ℕ) (d : ℤ) (turns : SchedValue) →
      d ≡ deficit x.sched c s +ℤ pos (pending_air_of x s c) →
      turns ≡ x.sched →
      is_some (member v.members s) ≡ true → refusal w (Asked (Rx s c air))
      ≡ (if int_lt ((share w s c).deficit -ℤ pos air) (deepest_deficit w.config.debt)
      then Some (Debt (share w s c).deficit) else None) →
      (deficit x.sched c s -ℤ pos air) <ℤ deepest_deficit (x.config.debt + pending_air_of x s c) →
      Meets w bodies (Asked (Rx s c air)) (record x { sched = turns }) (Refused (Debt d))
  rx_refused s c air d turns is e live passed below =
      let there : is_live w s ≡ true = live_of v w bodies h s live in
      met_by x (record x { sched = turns }) w bodies (Asked (Rx s c air)) (Refused (Debt d))
      (ap (λ (z : SchedValue). record x { sched = z }) e)
      (refused_call x w bodies (Asked (Rx s c air)) (Debt d)
      (λ e. cc e, (λ e. cc e, (λ e. cc e, (λ e. cc e, tt)))) at_x
      (ap (λ (z : ℤ). Some (Debt z)) (is ∙ deficit_same x w bodies s c at_x.parts there)
      ∙ sym (passed ∙ ap (λ (b : Bool). if b then Some (Debt (share w s c).deficit) else None)
      ((debt_same x.sched w s c air at_x.parts.others.turns there).0 (subst
      (λ (n : ℕ). (deficit x.sched c s -ℤ pos air) <ℤ deepest_deficit n) (debt_is s c) below)))))

  finished_is : w.finished ≡ ids x.flows.backlog.finished
  finished_is = at_x.parts.others.flows.finished

  pub reap_done : (f : FrameValue) (flows : FlowsValue) →
      x.flows.backlog.finished ≡ f ∷ flows.backlog.finished →
      flows ≡ with_finished x.flows flows.backlog.finished →
      Meets w bodies (Asked Reap) (record x { inside = x.inside - 1; flows = flows }) (Reaped f.id f.fate)
  reap_done f flows e others =
      met_by (record x { inside = x.inside - 1; flows = with_finished x.flows flows.backlog.finished })
      (record x { inside = x.inside - 1; flows = flows }) w bodies (Asked Reap) (Reaped f.id f.fate)
      (ap (λ (z : FlowsValue). record x { inside = x.inside - 1; flows = z }) others)
      (reap_meets x w bodies at_x f flows.backlog.finished e
      (sym (last_row false (length w.finished == 0) Nothing
      (some_left (length w.finished) (length (ids flows.backlog.finished))
      (ap (λ (l : List ℕ). length l) (finished_is ∙ ap ids e))))))

  pub reap_refused : (flows : FlowsValue) → flows ≡ x.flows → x.flows.backlog.finished ≡ [] →
      Meets w bodies (Asked Reap) (record x { flows = flows }) (Refused Nothing)
  reap_refused flows same none =
      met_by x (record x { flows = flows }) w bodies (Asked Reap) (Refused Nothing)
      (ap (λ (z : FlowsValue). record x { flows = z }) same)
      (refused_call x w bodies (Asked Reap) Nothing (λ e. cc e, tt) at_x
      (last_row true (length w.finished == 0) Nothing
      (ap (λ (l : List ℕ). length l == 0) (finished_is ∙ ap ids none))))

-- the half after a station joined, by what each part does; x is the value of the fields of the half v
pub admitted_is : (v x : TransmitValue) → x ≡ v → (s exponent weight : ℕ) (offloaded : Bool)
    (turns : SchedValue) (members : List (Option Member)) (sleepers : List Sleeper) (y : TransmitValue) →
    turns ≡ everywhere (after_join s (x.sched.quantum * weight)) x.sched →
    members ≡ set x.members s (Some (new_member exponent offloaded)) →
    sleepers ≡ with_sleeper x.sleepers s awake →
    y ≡ after_listing (record x { sched = turns; members = members; sleepers = sleepers }) s →
    y ≡ after_admission v v.windows v.modes s exponent weight offloaded
admitted_is v x same s exponent weight offloaded turns members sleepers y e f g listed =
    listed ∙ ap (λ (z : TransmitValue). after_listing z s)
    (ap (λ (t : SchedValue). let z : TransmitValue = record x {
      sched = t;
      members = members;
      sleepers = sleepers;
    } in z) e
    ∙ ap (λ (m : List (Option Member)). let z : TransmitValue = record x {
      sched = everywhere (after_join s (x.sched.quantum * weight)) x.sched;
      members = m;
      sleepers = sleepers;
    } in z) f
    ∙ ap (λ (l : List Sleeper). let z : TransmitValue = record x {
      sched = everywhere (after_join s (x.sched.quantum * weight)) x.sched;
      members = set x.members s (Some (new_member exponent offloaded));
      sleepers = l;
    } in z) g)
    ∙ ap (λ (z : TransmitValue). after_admission z z.windows z.modes s exponent weight offloaded) same

-- the same if its sessions began first, which made b of v
pub joined_is : (v b y : TransmitValue) (s exponent weight : ℕ) (offloaded : Bool) →
    b ≡ record v { windows = b.windows; modes = b.modes } →
    y ≡ after_admission b b.windows b.modes s exponent weight offloaded →
    y ≡ after_admission v b.windows b.modes s exponent weight offloaded
joined_is v b y s exponent weight offloaded begun is =
    is ∙ ap (λ (z : TransmitValue). after_admission z b.windows b.modes s exponent weight offloaded) begun
