-- Proves that a call about group frames that changes what is kept of them by its contract meets the machine's
-- step, and that the loop over the stations finds whether one sleeps.
use Rattle.std.proofs.Common.{◌≡◌, ap, sym, ◌∙◌, subst, arith, ℕ, suc, ◌+◌, ◌-◌, ◌<◌, Bool, true, false, ◌||◌, if◌then◌else◌, List, [], length, Some, None}
use Rattle.std.specs.Prelude.{nat_le, Result, Ok, Err, IfOk, IfErr, OnOk}
use Rattle.std.specs.List.{list_any}
use Rattle.std.specs.Result.{result_err}
use Rattle.wf_frame.specs.declared.settings.Config.{Config}
use Rattle.wf_frame.specs.declared.notes.Ask.TheVariants.{Group}
use Rattle.wf_frame.specs.declared.notes.GroupAsk.{GroupAsk}
use Rattle.wf_frame.specs.declared.notes.GroupAsk.TheVariants.{Beacon, Pull}
use Rattle.wf_frame.specs.declared.notes.GroupCall.{GroupCall}
use Rattle.wf_frame.specs.declared.notes.GroupReply.{GroupReply}
use Rattle.wf_frame.specs.declared.notes.GroupReply.TheVariants.{Queued, Beacon as Beacons}
use Rattle.wf_frame.specs.declared.notes.Note.TheVariants.{Asked}
use Rattle.wf_frame.specs.declared.notes.Refusal.{Refusal}
use Rattle.wf_frame.specs.declared.notes.Refusal.TheVariants.{BadBss}
use Rattle.wf_frame.specs.declared.notes.ReplyNote.TheVariants.{Group as Groups, Refused}
use Rattle.wf_frame.specs.Calls.{in_bss}
use Rattle.wf_frame.specs.Frames.{FrameValue}
use Rattle.wf_def_lists.specs.Table.{count_from}
use Rattle.wf_def_world.specs.Group.{GroupState, bss_count, dtim_period, group_answer}
use Rattle.wf_def_world.specs.Refusals.{refusal}
use Rattle.wf_def_world.specs.World.{World}
use Rattle.wf_send_parts.specs.Group.{GroupValue, GroupsHaveRoom, group_state, group_refusal, with_beacon, with_flight, flight_reply, with_group}
use Rattle.wf_send_parts.proofs.GroupFrames.{group_follows}
use Rattle.wf_send_half_model.specs.Changes.{after_group_call}
use Rattle.wf_send_half_model.specs.Half.{TransmitValue, group_in, is_any_asleep_of}
use Rattle.wf_send_half_model.specs.Standing.{StandsFor, Meets}
use Rattle.wf_send_half_model.proofs.Groups.{group_fault_same, group_refused, group_meets}
use Rattle.wf_send_half.specs.Group.{everyone}
use Rattle.wf_send_half.specs.Half.{HasSizes}
use Rattle.wf_send_half.specs.Replies.{reply_of_result}
use Rattle.wf_send_half.proofs.Rows.{row_refuses, bss_same}
use Rattle.wf_send_half.proofs.Worlds.{met_by}

-- ---- the calls

-- a call keeps the number of BSSs and their rooms
pub sizes_kept : (x : TransmitValue) (groups : List GroupValue) → HasSizes x →
    length groups ≡ length x.groups → ((n : ℕ) → GroupsHaveRoom n x.groups → GroupsHaveRoom n groups) →
    HasSizes (record x { groups = groups })
sizes_kept x groups h count room = record {
  in_range = h.in_range;
  flows = h.flows;
  sched = h.sched;
  windows = h.windows;
  modes = h.modes;
  members = h.members;
  sleepers = h.sleepers;
  groups = count ∙ h.groups;
  room = room x.config.buffered h.room;
}

-- a call about a BSS that there is not
pub no_such_bss : (v : TransmitValue) (w : World) (bodies : ℕ → FrameValue) → StandsFor v w bodies →
    (g : GroupCall) (r : Refusal) →
    Some r ≡ (if nat_le (bss_count v.config.bsses) g.bss then Some BadBss else None) →
    Meets w bodies (Asked (Group g)) v (Refused r)
no_such_bss v w bodies h g r e = group_refused v w bodies h g r
    (sym (row_refuses _ _ _ _ _ (bss_same v w bodies h g.bss) e))

-- a call about BSS b of the half v, which leaves these group frames; x is the value of the fields of v
module _ (v x : TransmitValue) (same : x ≡ v) (sizes : HasSizes x) (w : World) (bodies : ℕ → FrameValue)
    (h : StandsFor v w bodies) (b : ℕ) (low : b < bss_count v.config.bsses) (ask : GroupAsk)
    (groups : List GroupValue) where
  at_x : StandsFor x w bodies
  at_x = subst (λ (z : TransmitValue). StandsFor z w bodies) (sym same) h

  fault_is : group_refusal (is_any_asleep_of x b) ask (group_in x b)
      ≡ refusal w (Asked (Group (in_bss b ask)))
  fault_is =
      let below : b < bss_count x.config.bsses =
      subst (λ (z : TransmitValue). b < bss_count z.config.bsses) (sym same) low in
      group_fault_same x w bodies at_x.parts (in_bss b ask) below
      (sizes.room.each b (subst (λ (n : ℕ). b < n) (sym sizes.groups) below))

  -- a call that is not refused, with a tag and a destination
  pub answered : (tag : ℕ) (to : List ℕ) (answer : GroupReply) →
      None ≡ group_refusal (is_any_asleep_of x b) ask (group_in x b) →
      answer ≡ group_answer x.config (is_any_asleep_of x b) ask (group_state (group_in x b)) →
      groups ≡ (after_group_call x (in_bss b ask) tag to).groups →
      Meets w bodies (Asked (Group (in_bss b ask))) (record x { groups = groups }) (Groups answer)
  answered tag to answer none is changed =
      let g : GroupCall = in_bss b ask in
      subst (λ (a : GroupReply). Meets w bodies (Asked (Group g)) (record x { groups = groups }) (Groups a))
      (sym is)
      (met_by (after_group_call x g tag to) (record x { groups = groups }) w bodies (Asked (Group g)) _
      (ap (λ (y : List GroupValue). record x { groups = y }) changed)
      (group_meets x w bodies at_x g tag to (sym (none ∙ fault_is))))

  -- a call that is refused
  pub refused : (r : Refusal) → Some r ≡ group_refusal (is_any_asleep_of x b) ask (group_in x b) →
      groups ≡ x.groups →
      Meets w bodies (Asked (Group (in_bss b ask))) (record x { groups = groups }) (Refused r)
  refused r fault kept =
      met_by x (record x { groups = groups }) w bodies (Asked (Group (in_bss b ask))) (Refused r)
      (ap (λ (y : List GroupValue). record x { groups = y }) kept)
      (group_refused x w bodies at_x (in_bss b ask) r (sym (fault ∙ fault_is)))

  -- both, by the result of the call
  pub group_done : {T : Type 0} (tag : ℕ) (to : List ℕ) (f : T → GroupReply) (result : Result T Refusal) →
      result_err result ≡ group_refusal (is_any_asleep_of x b) ask (group_in x b) →
      IfOk result (λ a. f a ≡ group_answer x.config (is_any_asleep_of x b) ask (group_state (group_in x b))) →
      OnOk result (groups ≡ (after_group_call x (in_bss b ask) tag to).groups) →
      IfErr result (λ _. groups ≡ x.groups) →
      Meets w bodies (Asked (Group (in_bss b ask))) (record x { groups = groups })
      (reply_of_result (λ a. Groups (f a)) result)
  group_done tag to f (Ok a) fault is changed kept = answered tag to (f a) fault is changed
  group_done tag to f (Err r) fault is changed kept = refused r fault kept

-- a pull, with the test whether a station of the BSS sleeps
pub pull_done : (v x : TransmitValue) → x ≡ v → HasSizes x → (w : World) (bodies : ℕ → FrameValue) →
    StandsFor v w bodies → (b : ℕ) → b < bss_count v.config.bsses → (groups : List GroupValue)
    (sleeps : Bool) → sleeps ≡ is_any_asleep_of x b → (result : Result GroupReply Refusal) →
    result_err result ≡ group_refusal sleeps Pull (group_in x b) →
    IfOk result (λ a. a ≡ flight_reply x.config.overhead sleeps (group_in x b)) →
    OnOk result (groups ≡ with_group x.groups b (with_flight sleeps (group_in x b))) →
    IfErr result (λ _. groups ≡ x.groups) →
    Meets w bodies (Asked (Group (in_bss b Pull))) (record x { groups = groups })
    (reply_of_result (λ a. Groups a) result)
pull_done v x same sizes w bodies h b low groups sleeps e result fault is changed kept =
    subst (λ (y : Bool). result_err result ≡ group_refusal y Pull (group_in x b) →
    IfOk result (λ a. a ≡ flight_reply x.config.overhead y (group_in x b)) →
    OnOk result (groups ≡ with_group x.groups b (with_flight y (group_in x b))) →
    Meets w bodies (Asked (Group (in_bss b Pull))) (record x { groups = groups })
    (reply_of_result (λ a. Groups a) result))
    (sym e) (λ fault is changed. group_done v x same sizes w bodies h b low Pull groups 0 everyone (λ a. a)
    result fault is changed kept) fault is changed

-- the answer to an accepted frame, by its id
pub queued_answer : (result : Result ℕ Refusal) (n : ℕ) → IfOk result (λ id. id ≡ n) →
    IfOk result (λ id. Queued id ≡ Queued n)
queued_answer (Ok id) n is = ap (λ (k : ℕ). Queued k) is
queued_answer (Err r) n is = tt

-- the answer to a beacon
pub beacon_answer : (config : Config) (sleeps : Bool) (v : GroupValue) (period : ℕ) (given : GroupReply) →
    period ≡ dtim_period config.period →
    given ≡ Beacons (with_beacon period v).count (with_beacon period v).announced →
    given ≡ group_answer config sleeps Beacon (group_state v)
beacon_answer config sleeps v period given e is =
    is ∙ ap (λ (n : ℕ). Beacons (with_beacon n v).count (with_beacon n v).announced) e
    ∙ ap (λ (s : GroupState). Beacons s.count s.announced) (group_follows config sleeps Beacon 0 [] v)

-- ---- who sleeps

-- the first of some stations, and the others
one_more : (p : ℕ → Bool) (s n : ℕ) → s < n →
    list_any p (count_from s (n - s)) ≡ (p s || list_any p (count_from (s + 1) (n - (s + 1))))
one_more p s n low =
    let left : n - s ≡ suc (n - (s + 1)) = omega (arith, low) in
    let next : suc s ≡ s + 1 = omega arith in
    ap (λ (k : ℕ). list_any p (count_from s k)) left
    ∙ ap (λ (m : ℕ). p s || list_any p (count_from m (n - (s + 1)))) next

-- the first one passes
pub found : (p : ℕ → Bool) (s n : ℕ) → s < n → p s ≡ true →
    list_any p (count_from 0 n) ≡ list_any p (count_from s (n - s)) → list_any p (count_from 0 n) ≡ true
found p s n low is so_far =
    so_far ∙ one_more p s n low ∙ ap (λ (b : Bool). b || list_any p (count_from (s + 1) (n - (s + 1)))) is

-- the first one does not pass
pub not_yet : (p : ℕ → Bool) (s n : ℕ) → s < n → p s ≡ false →
    list_any p (count_from 0 n) ≡ list_any p (count_from s (n - s)) →
    list_any p (count_from 0 n) ≡ list_any p (count_from (s + 1) (n - (s + 1)))
not_yet p s n low is so_far =
    so_far ∙ one_more p s n low ∙ ap (λ (b : Bool). b || list_any p (count_from (s + 1) (n - (s + 1)))) is

-- none is left
pub none_left : (p : ℕ → Bool) (s n : ℕ) → n - s ≡ 0 →
    list_any p (count_from 0 n) ≡ list_any p (count_from s (n - s)) → list_any p (count_from 0 n) ≡ false
none_left p s n none so_far = so_far ∙ ap (λ (k : ℕ). list_any p (count_from s k)) none
