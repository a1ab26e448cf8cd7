-- Proves facts about an open exchange of a run, and about its transmissions. From the laws of runs.
use Rattle.std.proofs.Common.{◌≡◌, refl, sym, subst, arith, ℕ, zero, suc, ◌+◌, ◌*◌, ◌<◌, ◌≤◌, nat_le, Bool, true, false, List, [], ◌∷◌, length, Some, None}
use Rattle.std.specs.List.{list_any}
use Rattle.wf_frame.specs.declared.notes.Ask.TheVariants.{Arrive}
use Rattle.wf_frame.specs.declared.notes.Note.TheVariants.{Asked}
use Rattle.wf_def_lists.specs.Table.{at}
use Rattle.wf_def_agreement.specs.Receiver.{Receiver, release_start, score_start}
use Rattle.wf_def_agreement.specs.Session.{Session, State, Slot, slot, next_number, is_failed, numbers_where}
use Rattle.wf_law_rules.proofs.Lemmas.Numbers.{le_no}
use Rattle.wf_def_world.specs.World.{World, Exchange, Mpdu, Content, Frames, Request, session, receiver, exchange}
use Rattle.wf_def_world.specs.CanSend.{is_request}
use Rattle.wf_def_world.specs.Exchanges.{transmissions, no_mpdu, mpdus_of}
use Rattle.wf_def_world.specs.Refusals.{refusals, refusal}
use Rattle.wf_law_runs.specs.Ranges.{KeepsRanges}
use Rattle.wf_law_runs.specs.Sent.{IsSent, HasSome}
use Rattle.wf_law_runs.specs.Windows.{EachOpen, EachMpdu, IfAsks, IsPending, IsOpenRight, KeepsWindows}
use Rattle.wf_law_runs.proofs.Frames.Owners.{IsOwned}
use Rattle.wf_law_runs.proofs.Frames.Places.{standing}
use Rattle.wf_law_runs.proofs.Ranges.Law.{range_law}
use Rattle.wf_law_runs.proofs.Releases.Released.{opened_in}
use Rattle.wf_law_runs.proofs.Sent.Law.{sent_law}
use Rattle.wf_law_runs.proofs.Windows.Law.{window_law}
use Rattle.wf_law_runs.proofs.Windows.Opened.{FlyIn, no_row}
use Rattle.wf_law_runs.proofs.Windows.Agreed.{IsOpenIn, all_at, rises_at, if_on}
use Rattle.wf_law_driver.proofs.Opened.{some_at, found_each}
use Rattle.wf_send_half_model.specs.Standing.{IsReached}
use Rattle.wf_send_half_model.proofs.Reached.{by_law}
use Rattle.wf_cell_model.specs.Arriving.{MayReach}
use Rattle.wf_cell_model.proofs.Keeping.{lawful_now}

-- ---- the exchange

pub open_now : (w : World) → IsReached w → (e : ℕ) (x : Exchange) → exchange w e ≡ Some x → IsOpenIn w x
open_now w reached e x found = some_at (IsOpenIn w) (exchange w e) x found
    (opened_in w (lawful_now w reached) e)

pub sent_now : (w : World) → IsReached w → (e : ℕ) (x : Exchange) → exchange w e ≡ Some x → IsSent w x
sent_now w reached e x found =
    found_each (IsSent w) w e x found (by_law (λ u. EachOpen (IsSent u) u.opened) w reached
    (λ m. (sent_law w.config reached.history m).opened))

pub windows_now : (w : World) → IsReached w → KeepsWindows w
windows_now w reached = by_law KeepsWindows w reached (window_law w.config reached.history)

pub right_now : (w : World) → IsReached w → (e : ℕ) (x : Exchange) → exchange w e ≡ Some x →
    IsOpenRight (session w x.station x.tid) (receiver w x.station x.tid) x
right_now w reached e x found =
    found_each (λ y. IsOpenRight (session w y.station y.tid) (receiver w y.station y.tid) y) w e x found
    (windows_now w reached).opened

some_now : (w : World) → IsReached w → (e : ℕ) (x : Exchange) → exchange w e ≡ Some x → HasSome x
some_now w reached e x found =
    found_each HasSome w e x found
    (by_law (λ u. EachOpen HasSome u.opened) w reached
    (λ m. (sent_law w.config reached.history m).some reached.in_range reached.lengths.1))

pub ranges_now : (w : World) → IsReached w → KeepsRanges w.config w
ranges_now w reached = by_law (KeepsRanges w.config) w reached
    (range_law w.config reached.history reached.in_range)

pub station_now : (w : World) (e : ℕ) (x : Exchange) → IsReached w → exchange w e ≡ Some x →
    x.station < w.config.stations
station_now w e x reached found = ((ranges_now w reached).stations x.station
    (open_now w reached e x found).live).number

-- ---- its TID

some_slots : (p : ℕ → Bool) (n : ℕ) (xs : List Slot) → list_any p (numbers_where is_failed n xs) ≡ true →
    0 < length xs
some_slots p n [] h = absurd (cc h)
some_slots p n (x ∷ xs) h = omega arith

tid_of_given : (w : World) → IsReached w → (s t n : ℕ) → (session w s t).first ≤ n →
    n < next_number (session w s t) → t < 8
tid_of_given w reached s t n from below =
    let owned : IsOwned w = subst IsOwned (sym reached.after)
    (standing w.config reached.history reached.in_range).stood.owned in
    (owned.mine s t (slot (session w s t) n).id n (record { from = from; below = below; id = refl })).1

tid_by : (c : Content) (w : World) (s t e : ℕ) → IsReached w → FlyIn e (mpdus_of c) (session w s t) →
    (is_request c ≡ false → 1 ≤ length (mpdus_of c)) → IfAsks c (λ f. IsPending f (session w s t)) → t < 8
tid_by (Frames ms) w s t e reached flies some asks =
    let y : Session = session w s t in
    let range = rises_at y.first (next_number y) ms 0 (some refl) flies.rising in
    tid_of_given w reached s t (at no_mpdu ms 0).number range.0 range.1
tid_by (Request f) w s t e reached flies some asks =
    let y : Session = session w s t in
    tid_of_given w reached s t y.first (omega arith) (omega (arith, some_slots _ y.first y.slots asks.due))

pub tid_now : (w : World) → IsReached w → (e : ℕ) (x : Exchange) → exchange w e ≡ Some x → x.tid < 8
tid_now w reached e x found =
    tid_by x.content w x.station x.tid x.number reached (open_now w reached e x found).opened.flies
    (some_now w reached e x found)
    (right_now w reached e x found).pending

-- ---- a transmission that may arrive

pub index_below : (w : World) (e i : ℕ) (x : Exchange) → exchange w e ≡ Some x →
    refusal w (Asked (Arrive e i)) ≡ None → i < transmissions x.content
index_below w e i x found fine =
    le_no (transmissions x.content) i (some_at (λ y. nat_le (transmissions y.content) i ≡ false)
    (exchange w e) x found
    (if_on (exchange w e) (λ y. nat_le (transmissions y.content) i)
    (no_row (refusals w (Asked (Arrive e i))) fine).1.0))

few_of : (c : Content) → length (mpdus_of c) ≤ 256 → transmissions c ≤ 256
few_of (Frames ms) h = h
few_of (Request f) h = omega arith

pub index_now : (w : World) (e i : ℕ) (x : Exchange) → IsReached w → exchange w e ≡ Some x →
    refusal w (Asked (Arrive e i)) ≡ None → i < 256
index_now w e i x reached found fine = omega (
  arith,
  index_below w e i x found fine,
  few_of x.content (sent_now w reached e x found).most,
)

-- a request's start is near the receiver's windows
StartsNear : Session → Receiver → ℕ → Type 0
StartsNear y r f = (release_start r ≤ f + y.size) × (f ≤ release_start r + y.size) ×
    (score_start r ≤ f + y.size) × (f ≤ score_start r + 2 * y.size)

reach_by : (c : Content) (w : World) (s t e i : ℕ) → IsReached w → FlyIn e (mpdus_of c) (session w s t) →
    i < transmissions c →
    IfAsks c (StartsNear (session w s t) (receiver w s t)) → MayReach (receiver w s t) i c
unfolding StartsNear
reach_by (Frames ms) w s t e i reached flies low asks =
    let y : Session = session w s t in
    let r : Receiver = receiver w s t in
    let size : r.size ≡ y.size = ((lawful_now w reached).agreed s t).size in
    let range = rises_at y.first (next_number y) ms i low flies.rising in
    let known = ((windows_now w reached).known s t).flying (at no_mpdu ms i).number e range.0
    (all_at y (State.Flying e) ms i low flies.flying) in
    record { score = known.2; release = omega (arith, known.1, size) }
reach_by (Request f) w s t e i reached flies low asks =
    let size : (receiver w s t).size ≡ (session w s t).size = ((lawful_now w reached).agreed s t).size in
    record { score = omega (arith, asks.2, size); release = omega (arith, asks.1, size) }

pub reach_now : (w : World) (e i : ℕ) (x : Exchange) → IsReached w → exchange w e ≡ Some x →
    refusal w (Asked (Arrive e i)) ≡ None →
    MayReach (receiver w x.station x.tid) i x.content
unfolding StartsNear
reach_now w e i x reached found fine =
    reach_by x.content w x.station x.tid x.number i reached (open_now w reached e x found).opened.flies
    (index_below w e i x found fine)
    (right_now w reached e x found).start

-- ---- the frame at an index

pub each_at : (P : Mpdu → Type 0) (ms : List Mpdu) (i : ℕ) → i < length ms → EachMpdu P ms →
    P (at no_mpdu ms i)
each_at P [] i low h = absurd (omega (arith, low))
each_at P (m ∷ ms) zero low h = h.0
each_at P (m ∷ ms) (suc i) low h = each_at P ms i (omega (arith, low)) h.1
