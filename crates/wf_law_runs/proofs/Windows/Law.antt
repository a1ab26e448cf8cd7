-- Proves the window law from the invariants of its parts.
use Rattle.std.proofs.Common.{take}
use Rattle.wf_def_world.specs.Stretches.{world_at}
use Rattle.std.proofs.Common.{◌≡◌, refl, ap, arith, ℕ, ◌+◌, ◌<◌, ◌≤◌, ◌*◌, List, [], ◌∷◌}
use Rattle.wf_frame.specs.declared.settings.Config.{Config}
use Rattle.wf_def_lists.specs.Table.{has}
use Rattle.wf_def_agreement.specs.Session.{Session, State, slot, next_number, is_settled, start_of}
use Rattle.wf_def_agreement.specs.Receiver.{release_start, score_start, Receiver, Score, shows}
use Rattle.wf_def_world.specs.World.{World, Exchange, Content, Frames, Request, Mpdu, session, receiver}
use Rattle.wf_def_world.specs.Exchanges.{mpdus_of}
use Rattle.wf_def_world.specs.Run.{Entry}
use Rattle.wf_law_runs.specs.Windows.{AreNear, ReceiverWasTold, AreKnown, IsPending, IfAsks, EachMpdu, EachOpen, IsOpenRight, KeepsWindows, WindowLaw}
use Rattle.wf_law_runs.proofs.Sessions.Starts.{start_le}
use Rattle.wf_law_runs.proofs.Sessions.Flights.{AllIn}
use Rattle.wf_law_runs.proofs.Windows.Opened.{Each}
use Rattle.wf_law_runs.proofs.Windows.Agreement.{IsAgreed, IsAsked, AllRight, IfRequest, unsettled_ge, below_next, next_release, release_next, release_score, score_kept, heard_release, start_release, option_along}
use Rattle.wf_law_runs.proofs.Windows.Agreed.{IsLawful, IsOpenIn, lawful, asks}
use Rattle.wf_law_runs.proofs.Windows.Waits.{holds_pull}
use Rattle.wf_law_runs.proofs.Windows.Flying.{one_count}
use Rattle.wf_law_runs.proofs.Windows.Settling.{settles}

near_by : (y : Session) (r : Receiver) → IsAgreed y r → AreNear y r
near_by y r a = record {
  start_next = start_le y.slots y.first;
  next_start = a.within.within;
  next_release = next_release y r a;
  release_next = release_next y r a;
  release_score = release_score y r a;
  next_score = omega (arith, next_release y r a, release_score y r a);
  score_start = score_kept y r a;
}

told_by : (y : Session) (r : Receiver) → IsAgreed y r → ReceiverWasTold y r
told_by y r a = record {
  starts = λ f h. (a.starts f h).1;
  heard = a.heard;
  heard_release =
      heard_release y r a;
  caught_up = start_release y r a;
}

known_by : (y : Session) (r : Receiver) → IsAgreed y r → AreKnown y r
known_by y r a = record {
  acked = a.acked;
  flying = λ n e from f.
      let low : start_of y ≤ n = unsettled_ge y n from (ap is_settled f) in
      let high : n < next_number y = below_next y n from (λ k. cc (k, f)) in (
        omega (arith, low, release_next y r a, a.within.within),
        omega (arith, high, next_release y r a),
        omega (arith, low, score_kept y r a),
        omega (arith, high, next_release y r a, release_score y r a),
      );
}

flies_by : (ms : List Mpdu) (y : Session) (e : ℕ) → AllIn y (State.Flying e) ms →
    EachMpdu (λ m. (slot y m.number).state ≡ State.Flying e) ms
flies_by [] y e a = tt
flies_by (m ∷ ms) y e a = (a.0, flies_by ms y e a.1)

pending_by : (c : Content) (y : Session) → IfRequest c (λ f. IsAsked f y) → IfAsks c (λ f. IsPending f y)
pending_by (Frames ms) y a = tt
pending_by (Request f) y a = record {
  due = a.due;
  start = a.start;
  start_next = start_le y.slots y.first;
  next = a.next;
}

start_by : (c : Content) (y : Session) (r : Receiver) → AreNear y r → IfRequest c (λ f. IsAsked f y) →
    IfAsks c (λ f. (release_start r ≤ f + y.size) × (f ≤ release_start r + y.size) ×
    (score_start r ≤ f + y.size) × (f ≤ score_start r + 2 * y.size))
start_by (Frames ms) y r n a = tt
start_by (Request f) y r n a = (
  omega (arith, n.release_next, a.next),
  omega (arith, a.start, n.start_next, n.next_release),
  omega (arith, n.score_start, n.start_next, a.next),
  omega (arith, a.start, n.start_next, n.next_score),
)

right_by : (ms : List Mpdu) (b : Score) (y : Session) (r : Receiver) → r.size ≡ y.size → AllRight b r ms →
    EachMpdu (λ m. (shows b m.number ≡ has r.arrived m.number) × (b.start ≤ m.number) ×
    (m.number < b.start + 2 * y.size)) ms
right_by [] b y r e a = tt
right_by (m ∷ ms) b y r e a = ((a.0.shown, a.0.from, omega (arith, a.0.below, e)), right_by ms b y r e a.1)

opened_by : (w : World) → IsLawful w → (xs : List Exchange) → Each (IsOpenIn w) xs →
    EachOpen (λ x. IsOpenRight (session w x.station x.tid) (receiver w x.station x.tid) x) xs
opened_by w i [] e = tt
opened_by w i (x ∷ xs) e =
    let y : Session = session w x.station x.tid in
    let r : Receiver = receiver w x.station x.tid in (
      record {
        flies = flies_by (mpdus_of x.content) y x.number e.0.opened.flies.flying;
        pending = pending_by x.content y e.0.opened.asked;
        start = start_by x.content y r (near_by y r (i.agreed x.station x.tid)) e.0.opened.asked;
        answer = option_along (λ b. AllRight b r (mpdus_of x.content))
            (λ b. EachMpdu (λ m. (shows b m.number ≡ has r.arrived m.number) × (b.start ≤ m.number) ×
            (m.number < b.start + 2 * y.size)) (mpdus_of x.content)) x.answer
            (λ b h. right_by (mpdus_of x.content) b y r (i.agreed x.station x.tid).size h) e.0.opened.kept;
      },
      opened_by w i xs e.1,
    )

pub keeps : (w : World) → IsLawful w → KeepsWindows w
keeps w i = record {
  near = λ s t. near_by (session w s t) (receiver w s t) (i.agreed s t);
  told = λ s t. told_by (session w s t) (receiver w s t) (i.agreed s t);
  known = λ s t. known_by (session w s t) (receiver w s t) (i.agreed s t);
  opened = opened_by w i w.opened i.opened;
  rising = i.rising;
  flown = λ s t. i.sent s t refl;
  sole = λ s t. one_count (asks s t) (i.sole s t).who 0 w.exchanges w.opened i.rising (i.sole s t).only;
  settles = settles w i;
  waits = λ c l s t due. ap next_number ((holds_pull w c l i).held s t due);
}

pub window_law : (config : Config) (h : List Entry) → WindowLaw config h
window_law config h m = keeps (world_at config h m) (lawful config (take m h))
