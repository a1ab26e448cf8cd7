-- Proves that a frame which an aggregate sends is held at its number and nowhere else. So the frames of all
-- other ids are unchanged when it counts an attempt, or takes one back.
use Rattle.std.proofs.Common.{◌≡◌, ◌≢◌, refl, ap, sym, ◌∙◌, subst, arith, ℕ, zero, suc, ◌-◌, ◌<◌, ◌≤◌, ◌==◌, true, false, List, [], ◌∷◌, map, get_or, inl, inr}
use Rattle.std.specs.Prelude.{All, sum_by, length}
use Rattle.std.proofs.Math.Path.{fun_ext}
use Rattle.std.proofs.lemmas.Bool.{cases_eq, cases_lt, cond_both, cond-false, ne_eqb}
use Rattle.std.proofs.lemmas.List.Elements.{All-cons, All-head, All-nil, All-tail, All-weaker}
use Rattle.std.proofs.lemmas.List.Sums.{sum_by-cons}
use Rattle.wf_frame.specs.Frames.{FrameValue, sent_again, sent_once_less}
use Rattle.wf_frame.specs.declared.classes.Fate.{Fate}
use Rattle.wf_frame.specs.declared.classes.Fate.TheVariants.{Held}
use Rattle.wf_frame.specs.declared.notes.Note.{Note}
use Rattle.wf_frame.specs.declared.notes.Note.TheVariants.{Enqueue}
use Rattle.wf_def_codel.specs.Codel.{Item}
use Rattle.wf_def_lists.specs.Lists.{IsRising, on}
use Rattle.wf_def_lists.specs.Table.{has}
use Rattle.wf_def_agreement.specs.Session.{Session, Slot, State, slot, start_of, is_settled, next_number, with_state}
use Rattle.wf_def_world.specs.World.{World, Mpdu, is_live, is_held, session, queue, frame, on_session}
use Rattle.wf_law_rules.proofs.Lemmas.Counts.{on-nil, on-has, on-cons_same, on-cons_other}
use Rattle.wf_law_runs.specs.Places.{IsNumbered}
use Rattle.wf_law_runs.specs.Windows.{EachMpdu}
use Rattle.wf_law_runs.proofs.Frames.Fates.{ids_carried}
use Rattle.wf_law_runs.proofs.Sessions.Starts.{at_change_other, at_change_same}
use Rattle.wf_queue_flows.specs.Backlog.{BacklogValue, frames_at}
use Rattle.wf_queue_flows_refines.specs.Frames.{HasFrames, IsAccepted, IsBody, IsBodySettled}
use Rattle.wf_queue_flows_refines.specs.Standing.{ids, times_held, flows_part}
use Rattle.wf_queue_flows_refines.proofs.Leaves.{stands_same, session_alone}
use Rattle.wf_queue_flows_refines.proofs.Purges.{item_ids}
use Rattle.wf_sched_refines.specs.Standing.{LeavesRotas}
use Rattle.wf_sched_refines.proofs.Unchanged.{session_leaves}
use Rattle.wf_send_parts.specs.Many.{HasSameFrames}
use Rattle.wf_send_parts.specs.Sent.{with_frame_changed, with_one_sent, with_one_unsent}
use Rattle.wf_send_parts.specs.Window.{WindowValue, WindowStandsFor, HasOwnFrame, holds_parcel}
use Rattle.wf_send_parts.specs.Windows.{WindowsHaveRoom, no_window, with_window}
use Rattle.wf_send_parts.proofs.Changes.{is_this, windows_count}
use Rattle.wf_send_parts.proofs.Laws.{start_of_is}
use Rattle.wf_send_parts.proofs.Sending.{one_sent}
use Rattle.wf_send_half_model.specs.Half.{TransmitValue}
use Rattle.wf_send_half_model.specs.Standing.{Parts}
use Rattle.wf_send_half_model.specs.Filling.{IsWaitingWith, IsAlone}
use Rattle.wf_send_half_model.specs.Views.{Agreements, agreements, Roster, roster, ledger}
use Rattle.wf_send_half_model.proofs.Endings.{sum_none}
use Rattle.wf_send_half_model.proofs.Gives.{Placed, given_below}
use Rattle.wf_send_half_model.proofs.Known.{open_state}
use Rattle.wf_send_half_model.proofs.Moves.{with_session, session_own, session_other, session_is}
use Rattle.wf_send_half_model.proofs.Stands.{StationsStand, GroupsStand, LedgerStands, WindowsStand, ModesStand, Pieces, to_pieces, of_pieces}
use Rattle.wf_send_half_model.proofs.Views.{agreements_session, roster_session, ledger_session}

-- ---- the place of a frame that a number holds

none_finished : (fates : ℕ → Fate) (fs : List FrameValue) (id : ℕ) → fates id ≡ Held →
    map (λ f. fates f.id) fs ≡ map (λ f. f.fate) fs → All (λ f. is_held f.fate ≡ false) fs →
    on (ids fs) id ≡ 0
none_finished fates [] id held same settled = on-nil id
none_finished fates (f ∷ fs) id held same settled =
    let here : is_held f.fate ≡ false = All-head (λ (g : FrameValue). is_held g.fate ≡ false) f fs settled in
    let first : fates f.id ≡ f.fate = cc same in
    let behind : map (λ (g : FrameValue). fates g.id) fs ≡ map (λ (g : FrameValue). g.fate) fs = cc same in
    let later : on (ids fs) id ≡ 0 = none_finished fates fs id held behind
    (All-tail (λ (g : FrameValue). is_held g.fate ≡ false) f fs settled) in
    elim (cases_eq f.id id) [
      | inl e ↦
          let is : Held ≡ f.fate = sym held ∙ ap fates (sym e) ∙ first in
          let no : true ≡ false = ap is_held is ∙ here in
          absurd (cc no)
      | inr other ↦ omega (arith, on-cons_other f.id id (ids fs) other, later)
    ]

module _ (v : TransmitValue) (w : World) (bodies : ℕ → FrameValue) (h : Parts v w bodies) (p : Placed w)
    (s t : ℕ) (m : Mpdu) (number : IsNumbered w m.id s t m.number) where
  home_is : p.placing.home m.id ≡ p.placing.home (slot (session w s t) m.number).id
  home_is = ap p.placing.home (sym number.carries)

  not_queued : (q : ℕ) → on (ids (frames_at v.flows.backlog q)) m.id ≡ 0
  not_queued q = elim (cases_lt 0 (on (ids (frames_at v.flows.backlog q)) m.id)) [
    | inl some ↦
        let same : map (λ (x : Item). x.id) (queue w q).items ≡ ids (frames_at v.flows.backlog q) =
        ap (map (λ (x : Item). x.id)) (h.others.flows.items q) ∙ item_ids (frames_at v.flows.backlog q) in
        let a = (p.placing.queued q m.id (sym (ids_carried (queue w q).items m.id)
        ∙ ap (λ (l : List ℕ). has l m.id) same ∙ on-has (ids (frames_at v.flows.backlog q)) m.id some)).place
        in
        let b = (p.placing.numbered s t m.number number.from number.below).place in
        absurd (cc (a, b, home_is))
    | inr none ↦ omega (arith, none)
  ]

  held_is : (frame w m.id).fate ≡ Held
  held_is = p.fresh.held m.id (inr (record {
    station = s;
    tid = t;
    number = m.number;
    slot_of = record {
      from = number.from;
      below = number.below;
      unsettled = number.unsettled;
      id = number.carries;
    };
  }))

  settled_all : All (λ f. is_held f.fate ≡ false) v.flows.backlog.finished
  settled_all = All-weaker (IsBodySettled bodies) (λ f. is_held f.fate ≡ false) (λ f is. is.1)
      v.flows.backlog.finished h.others.frames.finished

  pub alone_at : IsAlone v w s t m
  alone_at = record {
    nowhere = omega (
      arith,
      sum_none (λ (frames : List FrameValue). on (ids frames) m.id) v.flows.backlog.queues not_queued,
      none_finished (λ k. (frame w k).fate) v.flows.backlog.finished m.id held_is h.others.flows.fates
          settled_all,
    );
    sole = λ i j n other.
        (let a = (p.placing.numbered i j n other.from other.below).place in
        let b = (p.placing.numbered s t m.number number.from number.below).place in
        let there : p.placing.home m.id ≡ p.placing.home (slot (session w i j) n).id =
        ap p.placing.home (sym other.carries) in
        let es : i ≡ s = cc (a, b, home_is, there) in
        let et : j ≡ t = cc (a, b, home_is, there) in
        let en : n ≡ m.number = cc (a, b, home_is, there) in
        (es, et, en));
  }

-- each transmission of a list of waiting numbers
pub all_alone : (v : TransmitValue) (w : World) (bodies : ℕ → FrameValue) (s t lo : ℕ) (ms : List Mpdu) →
    Parts v w bodies → Placed w → (session w s t).first ≤ lo → IsRising lo (map (λ m. m.number) ms) →
    EachMpdu (IsWaitingWith (session w s t) bodies) ms → EachMpdu (IsAlone v w s t) ms
all_alone v w bodies s t lo [] h p from rising each = tt
all_alone v w bodies s t lo (m ∷ ms) h p from rising each =
    let y : Session = session w s t in
    let below = given_below y.slots (m.number - y.first) each.0.waits in (
      alone_at v w bodies h p s t m (record {
        from = omega (arith, from, rising.0);
        below = omega (arith, below, from, rising.0);
        carries = each.0.carries;
        unsettled = ap is_settled each.0.waits;
      }),
      all_alone v w bodies s t (suc m.number) ms h p (omega (arith, from, rising.0)) rising.1 each.1,
    )

-- ---- the frames of all other ids

each_but : (P Q : FrameValue → Type 0) (id : ℕ) (fs : List FrameValue) →
    ((f : FrameValue) → f.id ≢ id → P f → Q f) → on (ids fs) id ≡ 0 → All P fs → All Q fs
each_but P Q id [] more none h = All-nil Q
each_but P Q id (f ∷ fs) more none h =
    let other : f.id ≢ id = λ (e : f.id ≡ id). omega (
      arith,
      none,
      on-cons_same id (ids fs),
      ap (λ (k : ℕ). on (k ∷ ids fs) id) e,
    ) in
    All-cons Q f fs (more f other (All-head P f fs h)) (each_but P Q id fs more
    (omega (arith, none, on-cons_other f.id id (ids fs) other)) (All-tail P f fs h))

-- an id occurs in one queue at most as often as in all of them together
line_within : (lines : List (List FrameValue)) (q id : ℕ) →
    on (ids (get_or lines q [])) id ≤ sum_by (λ frames. on (ids frames) id) lines
line_within [] q id = omega (arith, on-nil id)
line_within (x ∷ xs) zero id =
    omega (arith, sum_by-cons (λ (frames : List FrameValue). on (ids frames) id) x xs)
line_within (x ∷ xs) (suc q) id = omega (
  arith,
  sum_by-cons (λ (frames : List FrameValue). on (ids frames) id) x xs,
  line_within xs q id,
)

frames_but : (b : BacklogValue) (bodies others : ℕ → FrameValue) (id : ℕ) → times_held b id ≡ 0 →
    ((k : ℕ) → k ≢ id → others k ≡ bodies k) → HasFrames b bodies → HasFrames b others
frames_but b bodies others id none same h = record {
  queued = λ q.
      (let within : on (ids (frames_at b q)) id ≤ sum_by (λ frames. on (ids frames) id) b.queues =
      line_within b.queues q id in
      each_but (IsBody bodies) (IsBody others) id (frames_at b q)
      (λ f other is. is ∙ sym (same f.id other)) (omega (arith, none, within)) (h.queued q));
  finished = each_but (IsBodySettled bodies) (IsBodySettled others) id b.finished
      (λ f other is. (is.0 ∙ sym (same f.id other), is.1)) (omega (arith, none)) h.finished;
}

-- the call that brings a frame
abbrev call_of : FrameValue → Note
call_of f = Enqueue f.station f.tid f.flow (length f.body)

-- a change of a frame that keeps all but its count of attempts
pub record KeepsFrame (g : FrameValue → FrameValue) : Type 0 where
  pub id : (f : FrameValue) → (g f).id ≡ f.id
  pub source : (f : FrameValue) → (g f).source ≡ f.source
  pub fate : (f : FrameValue) → (g f).fate ≡ f.fate
  pub call : (f : FrameValue) → call_of (g f) ≡ call_of f

accepted_changed : (g : FrameValue → FrameValue) → KeepsFrame g → (id k : ℕ) (brought : Note)
    (bodies : ℕ → FrameValue) → IsAccepted k brought (bodies k) →
    IsAccepted k brought (with_frame_changed g id bodies k)
accepted_changed g keeps id k brought bodies h = cond_both (k == id) (g (bodies k)) (bodies k)
    (IsAccepted k brought)
    (λ e. record {
      id = keeps.id (bodies k) ∙ h.id;
      source = ap length (keeps.source (bodies k)) ∙ h.source;
      fate = keeps.fate (bodies k) ∙ h.fate;
      note = h.note ∙ sym (keeps.call (bodies k));
    }) (λ e. h)

changed_other : (g : FrameValue → FrameValue) (bodies : ℕ → FrameValue) (id k : ℕ) → k ≢ id →
    with_frame_changed g id bodies k ≡ bodies k
changed_other g bodies id k other = cond-false (k == id) (g (bodies k)) (bodies k) (ne_eqb k id other)

-- ---- a number's frame changes

-- the session of TID t of station s is y in u; everything else that a half reads is as in w
pub record IsSessionOnly (w u : World) (s t : ℕ) (y : Session) : Type 0 where
  pub part : flows_part u ≡ flows_part w
  pub agreements_are : agreements u ≡ record (agreements w) {
    sessions =
        with_session (agreements w).sessions s t y;
  }
  pub roster_is : roster u ≡ roster w
  pub ledger_is : ledger u ≡ ledger w
  pub leaves : LeavesRotas w u

session_only : (w : World) (s t : ℕ) (f : Session → Session) → is_live w s ≡ true →
    IsSessionOnly w (on_session w s t f) s t (f (session w s t))
session_only w s t f live = record {
  part = session_alone w s t f;
  agreements_are = agreements_session w s t f live;
  roster_is = roster_session w s t f;
  ledger_is = ledger_session w s t f;
  leaves = session_leaves w s t f;
}

-- nothing changes
nothing_only : (w : World) (s t : ℕ) → IsSessionOnly w w s t (session w s t)
nothing_only w s t = record {
  part = refl;
  agreements_are = ap (λ (x : ℕ → ℕ → Session). record (agreements w) { sessions = x })
      (fun_ext (λ (i : ℕ). fun_ext (λ (j : ℕ). sym (same i j))));
  roster_is = refl;
  ledger_is = refl;
  leaves = λ v h. h;
}
  where
    same : (i j : ℕ) → with_session (λ a b. session w a b) s t (session w s t) i j ≡ session w i j
    same i j = elim (is_this [] s t no_window i j) [
      | inl this ↦
          ap (λ (a : ℕ). with_session (λ x y. session w x y) s t (session w s t) a j) this.0
          ∙ ap (with_session (λ x y. session w x y) s t (session w s t) s) this.1
          ∙ session_own (λ x y. session w x y) s t (session w s t)
          ∙ sym (ap (λ (a : ℕ). session w a j) this.0 ∙ ap (session w s) this.1)
      | inr other ↦ session_other (λ x y. session w x y) s t (session w s t) i j other
    ]

module _ (v : TransmitValue) (w : World) (bodies : ℕ → FrameValue) (s t : ℕ) (m : Mpdu)
    (alone : IsAlone v w s t m) where
  -- the transmission's number is the only one that waits or flies with the frame
  numbered_is : (i j n : ℕ) → start_of (session w i j) ≤ n → n < next_number (session w i j) →
      holds_parcel (slot (session w i j) n).state ≡ true → (slot (session w i j) n).id ≡ m.id →
      (i ≡ s) × (j ≡ t) × (n ≡ m.number)
  numbered_is i j n from below held same = alone.sole i j n (record {
    from = omega (arith, from, start_of_is (session w i j));
    below = below;
    carries = same;
    unsettled = open_state (slot (session w i j) n).state held;
  })

  pub own_frame : (slot (session w s t) m.number).id ≡ m.id → HasOwnFrame (session w s t) m.number
  own_frame carries = record {
    sole = λ n from below held same. (numbered_is s t n from below held (same ∙ carries)).2;
  }

  module _ (g : FrameValue → FrameValue) (keeps : KeepsFrame g) where
    frames_same : (i j : ℕ) → (i ≡ s → j ≡ t → ⊥) →
        HasSameFrames (session w i j) bodies (with_frame_changed g m.id bodies)
    frames_same i j other = record {
      same = λ n from below held. changed_other g bodies m.id (slot (session w i j) n).id
          (λ e. let k = numbered_is i j n from below held e in other k.0 k.1);
    }

    changed_parts : Parts v w bodies → is_live w s ≡ true → t < 8 → (u : World) (y : Session) →
        IsSessionOnly w u s t y → (x : WindowValue) → WindowsHaveRoom (with_window v.windows s t x) →
        WindowStandsFor x y (with_frame_changed g m.id bodies) →
        Parts (record v { windows = with_window v.windows s t x }) u (with_frame_changed g m.id bodies)
    changed_parts h live low u y only x room stands =
        let others : ℕ → FrameValue = with_frame_changed g m.id bodies in
        let p : Pieces v w bodies = to_pieces v w bodies h in
        let same : roster w ≡ roster u = sym only.roster_is in
        let a : Agreements = agreements w in
        let low_s : s < w.config.stations = h.others.turns.live s live in
        of_pieces (record v { windows = with_window v.windows s t x }) u others (record {
          config = p.config ∙ ap (λ (r : Roster). r.config) same;
          clock = p.clock ∙ ap (λ (r : Roster). r.clock) same;
          exchanges = p.exchanges ∙ ap (λ (r : Roster). r.exchanges) same;
          opened = p.opened ∙ ap (λ (r : Roster). r.opened) same;
          groups = subst (λ (r : Roster). GroupsStand v.groups r.config r.groups) same p.groups;
          stations = subst (λ (r : Roster). StationsStand v.members v.sleepers r.config.stations r.stations)
              same p.stations;
          windows = subst (WindowsStand (with_window v.windows s t x) others) (sym only.agreements_are)
              (record {
                sized = windows_count v.windows s t x ∙ p.windows.sized;
                room = room;
                all = one_sent v.windows s t x a.live a.sessions (with_session a.sessions s t y) bodies others
                    p.windows.all live low (omega (arith, p.windows.sized, low_s))
                    (record { same = λ i j below. session_other a.sessions s t y i j })
                    (λ i j here below other. frames_same i j other)
                    (subst (λ (z : Session). WindowStandsFor x z others)
                    (sym (session_own a.sessions s t y)) stands);
              });
          modes = subst (ModesStand v.modes) (sym only.agreements_are)
              (record { sized = p.modes.sized; each = p.modes.each });
          flows = stands_same v.flows w u only.part p.flows;
          turns = only.leaves v.sched p.turns;
          ledger = subst (LedgerStands v.inside v.tally others) (sym only.ledger_is) (record {
            count = p.ledger.count;
            fates = p.ledger.fates;
            notes = λ id below.
                accepted_changed g keeps m.id id ((ledger w).notes id) bodies (p.ledger.notes id below);
          });
          frames = frames_but v.flows.backlog bodies others m.id alone.nowhere (changed_other g bodies m.id)
              p.frames;
        })

  pub sent_parts : Parts v w bodies → is_live w s ≡ true → t < 8 → (f : Session → Session)
      (x : WindowValue) → WindowsHaveRoom (with_window v.windows s t x) →
      WindowStandsFor x (f (session w s t)) (with_one_sent m.id bodies) →
      Parts (record v { windows = with_window v.windows s t x }) (on_session w s t f)
      (with_one_sent m.id bodies)
  sent_parts h live low f x room stands = changed_parts sent_again
      (record { id = λ f. refl; source = λ f. refl; fate = λ f. refl; call = λ f. refl }) h live low
      (on_session w s t f) (f (session w s t)) (session_only w s t f live) x room stands

  -- the frame of a number that never went on the air
  pub unsent_parts : Parts v w bodies → is_live w s ≡ true → t < 8 → (x : WindowValue) →
      WindowsHaveRoom (with_window v.windows s t x) →
      WindowStandsFor x (session w s t) (with_one_unsent m.id bodies) →
      Parts (record v { windows = with_window v.windows s t x }) w (with_one_unsent m.id bodies)
  unsent_parts h live low x room stands = changed_parts sent_once_less
      (record { id = λ f. refl; source = λ f. refl; fate = λ f. refl; call = λ f. refl }) h live low
      w (session w s t) (nothing_only w s t) x room stands

-- when a number's state changes, the same numbers hold a frame
module _ (w : World) (s t k : ℕ) (state : State) (live : is_live w s ≡ true)
    (waits : (slot (session w s t) k).state ≡ State.Waiting) (low : (session w s t).first ≤ k)
    (next : next_number (with_state state k (session w s t)) ≡ next_number (session w s t)) where
  abbrev after : World
  after = on_session w s t (with_state state k)

  abbrev y : Session
  y = session w s t

  own_before : (id n : ℕ) → IsNumbered after id s t n → IsNumbered w id s t n
  own_before id n number =
      let is : session after s t ≡ with_state state k y = session_is w s t (with_state state k) live in
      let from : y.first ≤ n = subst (λ (z : Session). z.first ≤ n) is number.from in
      let below : n < next_number (with_state state k y) =
      subst (λ (z : Session). n < next_number z) is number.below in
      let carries : (slot (with_state state k y) n).id ≡ id =
      subst (λ (z : Session). (slot z n).id ≡ id) is number.carries in
      let unsettled : is_settled (slot (with_state state k y) n).state ≡ false =
      subst (λ (z : Session). is_settled (slot z n).state ≡ false) is number.unsettled in
      let g : Slot → Slot = λ (x : Slot). record x { state = state } in
      elim (cases_eq n k) [
        | inl e ↦ record {
          from = from;
          below = omega (arith, below, next);
          carries = sym (ap (λ (j : ℕ). (slot (with_state state k y) j).id) e
              ∙ ap (λ (x : Slot). x.id) (at_change_same y.slots (k - y.first) g)
              ∙ ap (λ (j : ℕ). (slot y j).id) (sym e)) ∙ carries;
          unsettled = ap (λ (j : ℕ). is_settled (slot y j).state) e ∙ ap is_settled waits;
        }
        | inr other ↦
            let apart : k - y.first ≢ n - y.first =
            λ (e : k - y.first ≡ n - y.first). other (omega (arith, e, from, low)) in
            let same : slot (with_state state k y) n ≡ slot y n =
            at_change_other y.slots (k - y.first) (n - y.first) g apart in
            record {
              from = from;
              below = omega (arith, below, next);
              carries = ap (λ (x : Slot). x.id) (sym same) ∙ carries;
              unsettled = ap (λ (x : Slot). is_settled x.state) (sym same) ∙ unsettled;
            }
      ]

  numbered_before : (id i j n : ℕ) → IsNumbered after id i j n → IsNumbered w id i j n
  numbered_before id i j n number = elim (is_this [] s t no_window i j) [
    | inl this ↦
        let here : IsNumbered after id s t n =
        subst (λ (b : ℕ). IsNumbered after id s b n) this.1
        (subst (λ (a : ℕ). IsNumbered after id a j n) this.0 number) in
        subst (λ (a : ℕ). IsNumbered w id a j n) (sym this.0)
        (subst (λ (b : ℕ). IsNumbered w id s b n) (sym this.1) (own_before id n here))
    | inr other ↦
        let is : session after i j ≡ session w i j =
        ap (λ (a : Agreements). a.sessions i j) (agreements_session w s t (with_state state k) live)
        ∙ session_other (agreements w).sessions s t (with_state state k y) i j other in
        record {
          from = subst (λ (z : Session). z.first ≤ n) is number.from;
          below = subst (λ (z : Session). n < next_number z) is number.below;
          carries = subst (λ (z : Session). (slot z n).id ≡ id) is number.carries;
          unsettled = subst (λ (z : Session). is_settled (slot z n).state ≡ false) is number.unsettled;
        }
  ]

  pub still_alone : (v : TransmitValue) (windows : List WindowValue) (ms : List Mpdu) →
      EachMpdu (IsAlone v w s t) ms → EachMpdu (IsAlone (record v { windows = windows }) after s t) ms
  still_alone v windows [] h = tt
  still_alone v windows (m ∷ ms) h = (
    record {
      nowhere = h.0.nowhere;
      sole = λ i j n number. h.0.sole i j n (numbered_before m.id i j n number);
    },
    still_alone v windows ms h.1,
  )
