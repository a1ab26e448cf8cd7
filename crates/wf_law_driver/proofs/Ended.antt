-- Applies laws of runs to the world after a history, and proves what the end of an exchange leaves of
-- receivers and sessions.
use Rattle.std.proofs.Common.{◌≡◌, refl, ap, ap₂, sym, ◌∙◌, subst, arith, ℕ, ◌<◌, ◌≤◌, ◌==◌, Bool, true, false, not, ◌&&◌, List, [], length, Option, Some, None, is_some, is_none, ◌↔◌}
use Rattle.std.proofs.Math.Seq.{take-length}
use Rattle.wf_frame.specs.declared.settings.Config.{Config}
use Rattle.wf_frame.specs.declared.notes.Ask.TheVariants.{Done}
use Rattle.wf_frame.specs.declared.notes.Note.{Note}
use Rattle.wf_frame.specs.declared.notes.Note.TheVariants.{Asked}
use Rattle.wf_frame.specs.declared.notes.Refusal.TheVariants.{NoExchange, NoAnswer, BadAir}
use Rattle.wf_frame.specs.declared.notes.Refusal.{Refusal}
use Rattle.wf_frame.specs.declared.notes.ReplyNote.TheVariants.{Refused}
use Rattle.wf_def_lists.specs.Table.{at, has}
use Rattle.wf_def_agreement.specs.Receiver.{Score}
use Rattle.wf_def_agreement.specs.Session.{Session, State, End, slot, next_number}
use Rattle.wf_def_world.specs.World.{World, Station, Exchange, Content, Frames, Request, session, receiver, is_live, exchange, without_exchange, opening}
use Rattle.wf_def_world.specs.CanSend.{with_listings_of}
use Rattle.wf_def_world.specs.Exchanges.{end_of, is_acked, numbers_given_up, numbers_arrived, numbers_unsent, mpdus_of, after_charge, after_done, with_all_settled}
use Rattle.wf_def_world.specs.Refusals.{refusal, exchange_has}
use Rattle.wf_frame.specs.Settings.{is_bad_air}
use Rattle.wf_def_world.specs.Step.{done_outcome, outcome_where_open, outcome_of, station_of, after_refusal, judged_outcome, step}
use Rattle.wf_def_world.specs.Run.{Entry, world_after}
use Rattle.wf_law_runs.specs.Kept.{KeepsNumbers, KeepsByCall}
use Rattle.wf_law_runs.specs.Sent.{IsSent}
use Rattle.wf_law_runs.specs.Windows.{EachMpdu, EachOpen, KeepsWindows}
use Rattle.wf_law_runs.proofs.Common.Ends.{end_by, is_once}
use Rattle.wf_law_runs.proofs.Kept.Law.{kept_law}
use Rattle.wf_law_runs.proofs.Sent.Law.{sent_law}
use Rattle.wf_law_runs.proofs.Windows.Law.{window_law}
use Rattle.wf_law_runs.proofs.Windows.Sides.{Side, Same, same_charged, same_listed, sides_of}
use Rattle.wf_law_runs.proofs.Windows.Opened.{Each, FlyIn, each_filter, differ}
use Rattle.wf_law_runs.proofs.Windows.Agreed.{IsOpenIn, session_same}
use Rattle.wf_law_runs.proofs.Windows.Settling.{each_along, all_acked, acked_plain, without_same, without_live}
use Rattle.wf_law_runs.proofs.Frames.Delivered.{ends_of, opened_ended}
use Rattle.wf_law_runs.proofs.Releases.Kept.{Kept, keep_ended}
use Rattle.wf_law_driver.specs.Unheard.{IsUnmarked, HasAcked}
use Rattle.wf_law_driver.proofs.Opened.{none_refuses, first_refuses, passes, step_done, found_number}
use Rattle.wf_law_driver.proofs.Arrivals.{IsOther}

-- ---- the laws, in the world after a history

pub windows_after : (config : Config) (h : List Entry) → KeepsWindows (world_after (opening config) h)
windows_after config h = subst (λ (es : List Entry). KeepsWindows (world_after (opening config) es))
    (take-length h) (window_law config h (length h))

pub sent_after : (config : Config) (h : List Entry) →
    EachOpen (IsSent (world_after (opening config) h)) (world_after (opening config) h).opened
sent_after config h = subst (λ (es : List Entry).
    EachOpen (IsSent (world_after (opening config) es)) (world_after (opening config) es).opened)
    (take-length h) (sent_law config h (length h)).opened

pub kept_after : (config : Config) (h : List Entry) (note : Note) →
    KeepsByCall (world_after (opening config) h) note
kept_after config h note = subst (λ (es : List Entry). KeepsByCall (world_after (opening config) es) note)
    (take-length h) ((kept_law config h).calls (length h) note)

-- ---- a station with numbers is live

live_given : (o : Option Station) (t n : ℕ) → (sides_of o t).session.first ≤ n →
    n < next_number (sides_of o t).session → is_some o ≡ true
live_given None t n from below = absurd (omega (arith, from, below))
live_given (Some x) t n from below = refl

pub live_acked : (w : World) (s t n : ℕ) → HasAcked (session w s t) n → is_live w s ≡ true
live_acked w s t n h = live_given (at None w.stations s) t n h.from h.below

live_received : (o : Option Station) (t n : ℕ) → has (sides_of o t).receiver.arrived n ≡ true →
    is_some o ≡ true
live_received None t n h = absurd (cc h)
live_received (Some x) t n h = refl

pub live_arrived : (w : World) (s t n : ℕ) → has (receiver w s t).arrived n ≡ true → is_live w s ≡ true
live_arrived w s t n h = live_received (at None w.stations s) t n h

live_flies : (o : Option Station) (t n e : ℕ) → (slot (sides_of o t).session n).state ≡ State.Flying e →
    is_some o ≡ true
live_flies None t n e h = absurd (cc h)
live_flies (Some x) t n e h = refl

pub live_flying : (w : World) (s t n e : ℕ) → (slot (session w s t) n).state ≡ State.Flying e →
    is_live w s ≡ true
live_flying w s t n e h = live_flies (at None w.stations s) t n e h

pub kept_acked : (y z : Session) (n : ℕ) → KeepsNumbers y z → HasAcked y n → HasAcked z n
kept_acked y z n k h = record {
  from = omega (arith, k.first, h.from);
  below = omega (arith, h.below, k.next);
  acked = k.acked n h.from h.below h.acked;
}

-- ---- the end of an exchange

pub record IsEnded (e : ℕ) (w v : World) : Type 0 where
  pub arrived : (i j : ℕ) → (receiver v i j).arrived ≡ (receiver w i j).arrived
  pub live : (i : ℕ) → is_live v i ≡ is_live w i
  pub marks : Each (IsOther e) w.opened → Each IsUnmarked v.opened

unmarked_without : (w : World) (e : ℕ) → Each (IsOther e) w.opened →
    Each IsUnmarked (without_exchange w e).opened
unfolding without_exchange
unmarked_without w e h = each_filter (IsOther e) IsUnmarked (λ y. not (y.number == e)) w.opened
    (λ y keeps other. other (differ y.number e keeps)) h

ended_world : (w : World) (e : ℕ) (x : Exchange) (heard : Bool) (air : Option ℕ) → x.number ≡ e →
    IsEnded e w (done_outcome w x heard air).world
ended_world w e x heard air n =
    let k : Kept w (done_outcome w x heard air).world = keep_ended air w x heard in
    record {
      arrived = λ i j. (k.receivers i j).arrived;
      live = k.live;
      marks = λ h. subst (Each IsUnmarked) (sym (opened_ended air w x heard))
          (unmarked_without w x.number (subst (λ (i : ℕ). Each (IsOther i) w.opened) (sym n) h));
    }

ended_same : (e : ℕ) (w u v : World) → Same u v → IsEnded e w u → IsEnded e w v
ended_same e w u v h d = record {
  arrived = λ i j. ap (λ (s : Side). s.receiver.arrived) (h.sides i j) ∙ d.arrived i j;
  live = λ i. h.live i ∙ d.live i;
  marks = λ o. subst (Each IsUnmarked) (sym h.opened) (d.marks o);
}

same_done : (w : World) (e : ℕ) (x : Exchange) (heard : Bool) (air : Option ℕ) → exchange w e ≡ Some x →
    refusal w (Asked (Done e heard air)) ≡ None →
    Same (done_outcome w x heard air).world (step w (Asked (Done e heard air))).world
unfolding outcome_of outcome_where_open
same_done w e x heard air found fine =
    let u : World = (done_outcome w x heard air).world in
    let same_step : (step w (Asked (Done e heard air))).world ≡ with_listings_of u (Some x.station) =
    step_done w (Asked (Done e heard air)) fine ∙ ap
    (λ (o : Option Exchange). with_listings_of
    (outcome_where_open w o (λ y. done_outcome w y heard air)).world (station_of o)) found in
    subst (Same u) (sym same_step) (same_listed (Some x.station) u)

pub ended_step : (w : World) (e : ℕ) (x : Exchange) (heard : Bool) (air : Option ℕ) → exchange w e ≡ Some x →
    refusal w (Asked (Done e heard air)) ≡ None → IsEnded e w (step w (Asked (Done e heard air))).world
ended_step w e x heard air found fine =
    ended_same e w (done_outcome w x heard air).world _ (same_done w e x heard air found fine)
    (ended_world w e x heard air (found_number w e x found))

-- ---- the end of a batch

end_arrived : (w : World) (x : Exchange) (heard : Bool) (n : ℕ) → x.batch ≡ true →
    (end_of w x heard n ≡ End.Acknowledged) ↔
    (has (numbers_arrived x) n && not (has (numbers_unsent x) n) ≡ true)
end_arrived w x heard n = go x.batch (is_once w x n) (has (numbers_unsent x) n) (has (numbers_arrived x) n)
    (is_acked heard x.answer n) (has (numbers_given_up x) n)
  where
    go : (b o u r a g : Bool) → b ≡ true → (end_by b o u r a g ≡ End.Acknowledged) ↔ (r && not u ≡ true)
    go true o true true a g h = ((λ e. absurd (cc e)), (λ e. absurd (cc e)))
    go true o true false a g h = ((λ e. absurd (cc e)), (λ e. absurd (cc e)))
    go true o false true a g h = ((λ _. refl), (λ _. refl))
    go true o false false a g h = ((λ e. absurd (cc e)), (λ e. absurd (cc e)))
    go false o u r a g h = absurd (cc h)

-- each number is acknowledged exactly if the exchange ends so for it
frames_ended : (c : Content) (w : World) (x : Exchange) (heard : Bool) (air : Option ℕ) → x.content ≡ c →
    IsOpenIn w x → EachMpdu (λ m. ((slot (session
    (after_done (after_charge (without_exchange w x.number) x air) x heard c) x.station x.tid) m.number).state
    ≡ State.Acked) ↔ (ends_of air w x heard m.number ≡ End.Acknowledged)) (mpdus_of c)
unfolding after_done
frames_ended (Request f) w x heard air e o = tt
frames_ended (Frames ms) w x heard air e o =
    let v : World = after_charge (without_exchange w x.number) x air in
    let k : Same (without_exchange w x.number) v = same_charged air (without_exchange w x.number) x in
    let y : Session = session w x.station x.tid in
    let same_y : session v x.station x.tid ≡ y = session_same _ _ k x.station x.tid
    ∙ without_same w x.number x.station x.tid in
    let flies : FlyIn x.number ms y = subst (λ (c : Content). FlyIn x.number (mpdus_of c) y) e o.opened.flies
    in
    acked_plain ms (with_all_settled v x.station x.tid (end_of v x heard) ms) x.station x.tid
    (end_of v x heard)
    (all_acked ms v x.station x.tid (end_of v x heard) y.first (next_number y)
    (k.live x.station ∙ without_live w x.number x.station ∙ o.live)
    (omega (arith, ap (λ (z : Session). z.first) same_y)) flies.rising)

batch_ended : (w u : World) (x : Exchange) (heard : Bool) (air : Option ℕ) → x.batch ≡ true → IsOpenIn w x →
    Same (done_outcome w x heard air).world u →
    EachMpdu (λ m. ((slot (session u x.station x.tid) m.number).state ≡ State.Acked) ↔
    (has (numbers_arrived x) m.number && not (has (numbers_unsent x) m.number) ≡ true)) (mpdus_of x.content)
unfolding done_outcome
batch_ended w u x heard air batch o k =
    let v : World = after_done (after_charge (without_exchange w x.number) x air) x heard x.content in
    let d : session u x.station x.tid ≡ session v x.station x.tid = session_same _ u k x.station x.tid in
    each_along (λ m. ((slot (session v x.station x.tid) m.number).state ≡ State.Acked) ↔
    (ends_of air w x heard m.number ≡ End.Acknowledged))
    (λ m. ((slot (session u x.station x.tid) m.number).state ≡ State.Acked) ↔
    (has (numbers_arrived x) m.number && not (has (numbers_unsent x) m.number) ≡ true)) (mpdus_of x.content)
    (λ m e.
    let ends = end_arrived (after_charge (without_exchange w x.number) x air) x heard m.number batch in (
      (λ h. ends.0 (e.0 (ap (λ (z : Session). (slot z m.number).state) (sym d) ∙ h))),
      (λ h. ap (λ (z : Session). (slot z m.number).state) d ∙ e.1 (ends.1 h)),
    ))
    (frames_ended x.content w x heard air refl o)

-- the Done of a batch acknowledges those of its numbers that arrived and went on the air
pub batch_settled : (w : World) (e : ℕ) (x : Exchange) (heard : Bool) (air : Option ℕ) →
    exchange w e ≡ Some x → x.batch ≡ true → IsOpenIn w x → refusal w (Asked (Done e heard air)) ≡ None →
    EachMpdu (λ m. ((slot (session (step w (Asked (Done e heard air))).world x.station x.tid) m.number).state
    ≡ State.Acked) ↔ (has (numbers_arrived x) m.number && not (has (numbers_unsent x) m.number) ≡ true))
    (mpdus_of x.content)
batch_settled w e x heard air found batch o fine =
    batch_ended w (step w (Asked (Done e heard air))).world x heard air batch o
    (same_done w e x heard air found fine)

pub may_end_lost : (w : World) (e : ℕ) (x : Exchange) (air : Option ℕ) → exchange w e ≡ Some x →
    is_bad_air w.config air ≡ false → refusal w (Asked (Done e false air)) ≡ None
may_end_lost w e x air found fine = none_refuses _ (ap is_none found, (refl, (fine, tt)))

-- the exchange is no batch, and nothing was answered
abbrev pub lacks_answer : Exchange → Bool
lacks_answer y = not y.batch && is_none y.answer

-- a batch needs no answer
pub batch_lacks_none : (x : Exchange) → x.batch ≡ true → lacks_answer x ≡ false
batch_lacks_none x batch = ap (λ (b : Bool). not b && is_none x.answer) batch

pub answered_lacks_none : (x : Exchange) (b : Score) → x.answer ≡ Some b → lacks_answer x ≡ false
answered_lacks_none x b kept = ap (λ (o : Option Score). not x.batch && is_none o) kept ∙ never (not x.batch)
  where
    never : (a : Bool) → (a && false) ≡ false
    never true = refl
    never false = refl

-- a Done that is heard needs an answer, or a batch
pub may_end_told : (w : World) (e : ℕ) (x : Exchange) (air : Option ℕ) → exchange w e ≡ Some x →
    lacks_answer x ≡ false → is_bad_air w.config air ≡ false → refusal w (Asked (Done e true air)) ≡ None
may_end_told w e x air found told fine = none_refuses _ (
  ap is_none found,
  (
    ap (λ (o : Option Exchange). exchange_has o lacks_answer) found ∙ told,
    (fine, tt),
  ),
)

pub may_end_heard : (w : World) (e : ℕ) (x : Exchange) (b : Score) (air : Option ℕ) → exchange w e ≡ Some x →
    x.answer ≡ Some b → is_bad_air w.config air ≡ false → refusal w (Asked (Done e true air)) ≡ None
may_end_heard w e x b air found kept fine = may_end_told w e x air found (answered_lacks_none x b kept) fine

-- nothing was answered
pub unanswered : (w : World) (e : ℕ) (x : Exchange) (air : Option ℕ) → exchange w e ≡ Some x →
    x.batch ≡ false → x.answer ≡ None → refusal w (Asked (Done e true air)) ≡ Some NoAnswer
unanswered w e x air found unbatched none = passes (is_none (exchange w e), NoExchange) _ (ap is_none found)
    ∙ first_refuses (exchange_has (exchange w e) lacks_answer, NoAnswer) _
    (ap (λ (o : Option Exchange). exchange_has o lacks_answer) found
    ∙ ap₂ (λ (b : Bool) (o : Option Score). not b && is_none o) unbatched none)

-- a Done that is refused changes nothing
pub refused_step : (w : World) (e : ℕ) (heard : Bool) (air : Option ℕ) (r : Refusal) →
    refusal w (Asked (Done e heard air)) ≡ Some r →
    step w (Asked (Done e heard air)) ≡ record { world = w; reply = Refused r }
unfolding step judged_outcome after_refusal
refused_step w e heard air r bad = ap (judged_outcome w (Asked (Done e heard air))) bad

-- an airtime that may not be given is the last fault of a Done
pub bad_told : (w : World) (e : ℕ) (x : Exchange) (air : Option ℕ) → exchange w e ≡ Some x →
    lacks_answer x ≡ false → is_bad_air w.config air ≡ true →
    refusal w (Asked (Done e true air)) ≡ Some BadAir
bad_told w e x air found told bad = passes (is_none (exchange w e), NoExchange) _ (ap is_none found)
    ∙ (passes (exchange_has (exchange w e) lacks_answer, NoAnswer) _
    (ap (λ (o : Option Exchange). exchange_has o lacks_answer) found ∙ told)
    ∙ first_refuses (is_bad_air w.config air, BadAir) [] bad)

pub bad_lost : (w : World) (e : ℕ) (x : Exchange) (air : Option ℕ) → exchange w e ≡ Some x →
    is_bad_air w.config air ≡ true → refusal w (Asked (Done e false air)) ≡ Some BadAir
bad_lost w e x air found bad = passes (is_none (exchange w e), NoExchange) _ (ap is_none found)
    ∙ (passes (false, NoAnswer) _ refl ∙ first_refuses (is_bad_air w.config air, BadAir) [] bad)

pub bad_heard : (w : World) (e : ℕ) (x : Exchange) (b : Score) (air : Option ℕ) → exchange w e ≡ Some x →
    x.answer ≡ Some b → is_bad_air w.config air ≡ true → refusal w (Asked (Done e true air)) ≡ Some BadAir
bad_heard w e x b air found kept bad = bad_told w e x air found (answered_lacks_none x b kept) bad
