-- Proves the law of sent frames, in every world of a run, from Lengths, Some and the window law.
use Rattle.std.proofs.Common.{◌≡◌, ap, arith, ℕ, suc, ◌+◌, ◌≤◌, List, [], ◌∷◌, length, take}
use Rattle.wf_frame.specs.declared.settings.Config.{Config}
use Rattle.wf_def_lists.specs.Bounds.{greatest_window}
use Rattle.wf_def_agreement.specs.Session.{Session, State, slot, start_of, next_number, is_settled}
use Rattle.wf_def_world.specs.World.{World, Exchange, Mpdu, session, receiver, opening}
use Rattle.wf_def_world.specs.Exchanges.{mpdus_of}
use Rattle.wf_def_world.specs.Run.{Entry}
use Rattle.wf_def_world.specs.Stretches.{world_at}
use Rattle.wf_law_runs.specs.Windows.{AreNear, EachMpdu, EachOpen, KeepsWindows}
use Rattle.wf_law_runs.specs.Sent.{NumbersRise, IsSent, HasSome, SentLaw}
use Rattle.wf_law_runs.proofs.Sessions.Flights.{AllIn, Rises}
use Rattle.wf_law_runs.proofs.Windows.Agreement.{unsettled_ge}
use Rattle.wf_law_runs.proofs.Windows.Opened.{Each}
use Rattle.wf_law_runs.proofs.Windows.Agreed.{IsOpenIn, lawful}
use Rattle.wf_law_runs.proofs.Windows.Law.{window_law}
use Rattle.wf_law_runs.proofs.Windows.Sizes.{IsSized, sized}
use Rattle.wf_law_runs.proofs.Frames.Delivered.{Labelled}
use Rattle.wf_law_runs.proofs.Queues.Law.{longest_in, within, at_most_taken}
use Rattle.wf_law_runs.proofs.Queues.Shelves.{shelves}
use Rattle.wf_law_runs.proofs.Sent.Lengths.{AreMeasured, stocked}
use Rattle.wf_law_runs.proofs.Sent.Some.{some_sent}
use Rattle.wf_def_lists.specs.Lengths.{greatest_body}
use Rattle.wf_law_runs.proofs.Frames.Fates.{steady_run, steady_first}

numbers_rise : (lo hi : ℕ) (ms : List Mpdu) → Rises lo hi ms → NumbersRise lo ms
numbers_rise lo hi [] r = tt
numbers_rise lo hi (m ∷ ms) r = (r.0, numbers_rise (suc m.number) hi ms r.2)

labels_of : (y : Session) (ms : List Mpdu) → Labelled y ms → EachMpdu (λ m. (slot y m.number).id ≡ m.id) ms
labels_of y [] l = tt
labels_of y (m ∷ ms) l = (l.0, labels_of y ms l.1)

-- There are at most hi - lo strictly increasing numbers from lo on and below hi.
few_between : (lo hi : ℕ) (ms : List Mpdu) → lo ≤ hi → Rises lo hi ms → lo + length ms ≤ hi
few_between lo hi [] h r = omega (arith, h)
few_between lo hi (m ∷ ms) h r = omega (arith, r.0, few_between (suc m.number) hi ms (omega (arith, r.1)) r.2)

-- The numbers are on the air, so they are from the session's start on and below its next number.
few_flying : (y : Session) (e : ℕ) (ms : List Mpdu) → next_number y ≤ start_of y + y.size →
    y.size ≤ greatest_window → Rises y.first (next_number y) ms → AllIn y (State.Flying e) ms →
    length ms ≤ greatest_window
few_flying y e [] near small r f = omega arith
few_flying y e (m ∷ ms) near small r f =
    let from_start : start_of y ≤ m.number = unsettled_ge y m.number r.0 (ap is_settled f.0) in
    let few : suc m.number + length ms ≤ next_number y =
    few_between (suc m.number) (next_number y) ms (omega (arith, r.1)) r.2 in
    omega (arith, from_start, few, near, small)

sent : (w : World) → KeepsWindows w → IsSized w → (xs : List Exchange) → Each (IsOpenIn w) xs →
    Each (λ x. Labelled (session w x.station x.tid) (mpdus_of x.content)) xs
    → Each (λ x. AreMeasured (shelves w).notes (mpdus_of x.content)) xs → EachOpen (IsSent w) xs
sent w k z [] o l a = tt
sent w k z (x ∷ xs) o l a =
    let y : Session = session w x.station x.tid in
    let near : AreNear y (receiver w x.station x.tid) = k.near x.station x.tid in (
      record {
        most = few_flying y x.number (mpdus_of x.content) near.next_start
            (z.size x.station x.tid) o.0.opened.flies.rising o.0.opened.flies.flying;
        rising = numbers_rise y.first (next_number y) (mpdus_of x.content) o.0.opened.flies.rising;
        ids = labels_of y (mpdus_of x.content) l.0;
        lens = a.0;
      },
      sent w k z xs o.1 l.1 a.1,
    )

each_open : (P : Exchange → Type 0) (xs : List Exchange) → Each P xs → EachOpen P xs
each_open P [] h = tt
each_open P (x ∷ xs) h = (h.0, each_open P xs h.1)

pub sent_law : (config : Config) (h : List Entry) → SentLaw config h
sent_law config h m =
    let w : World = world_at config h m in
    record {
      opened = sent w (window_law config h m) (sized config (take m h)) w.opened
          (lawful config (take m h)).opened
          (steady_run (take m h) [] (opening config) (steady_first config)).labelled.labels
          (stocked (longest_in (take m h)) config (take m h) (within (take m h))).lens;
      some = λ range short. each_open HasSome w.opened
          (some_sent config (take m h) range (at_most_taken m h greatest_body short));
    }
