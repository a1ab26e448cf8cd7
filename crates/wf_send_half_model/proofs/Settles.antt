-- Proves that the numbers of an exchange that ends are settled one after the other, as in the world. By
-- induction over the transmissions; a step does not change the other frames and sessions.
use Rattle.std.proofs.Common.{◌≡◌, ◌≢◌, refl, ap, sym, ◌∙◌, subst, arith, ℕ, ◌+◌, ◌-◌, ◌<◌, ◌==◌, ◌||◌, nat_le, Bool, true, false, if◌then◌else◌, List, [], ◌∷◌, ◌++◌, map, eq-eqb}
use Rattle.std.proofs.lemmas.Bool.{or_left}
use Rattle.wf_frame.specs.declared.classes.Cause.TheVariants.{Retries}
use Rattle.wf_frame.specs.declared.classes.Fate.{Fate}
use Rattle.wf_frame.specs.declared.classes.Fate.TheVariants.{Held, Acked as Is_acked, Dropped}
use Rattle.wf_frame.specs.declared.settings.Config.{Config}
use Rattle.wf_frame.specs.Frames.{FrameValue}
use Rattle.wf_def_agreement.specs.Session.{Session, Slot, State, End, no_slot, slot, on_slot, is_failed, with_state, after_miss, after_end, slot_after_miss, slot_given_up}
use Rattle.wf_def_lists.specs.Table.{at, has}
use Rattle.wf_law_rules.proofs.Lemmas.Counts.{on-cons_other, on-nil}
use Rattle.wf_law_rules.proofs.Lemmas.Tables.{at_put_same, each_put}
use Rattle.wf_def_world.specs.World.{World, Mpdu, is_live, session, frame, accepted_count, is_held, on_session, with_frame_finished}
use Rattle.wf_def_world.specs.Exchanges.{with_settled, with_failed_finished, with_all_settled}
use Rattle.wf_law_runs.proofs.Deficits.Books.{upd, upd_other}
use Rattle.wf_law_runs.specs.Windows.{EachMpdu}
use Rattle.wf_queue_flows_refines.specs.Frames.{IsBodySettled}
use Rattle.wf_queue_flows_refines.specs.Standing.{Part, flows_part, times_held}
use Rattle.wf_queue_flows_refines.proofs.Leaves.{session_alone}
use Rattle.wf_queue_flows_refines.proofs.Holdings.{times_finish}
use Rattle.wf_queue_flows_refines.proofs.Parts.{part_finish}
use Rattle.wf_send_parts.specs.Answers.{settling_answer, with_fate}
use Rattle.wf_send_parts.specs.declared.window.window.Settled.TheVariants.{Waiting, Failed}
use Rattle.wf_send_parts.specs.Window.{WindowValue, WindowStandsFor as WindowStandsFor}
use Rattle.wf_send_parts.specs.Ending.{AreFlying}
use Rattle.wf_send_parts.specs.Windows.{WindowsHaveRoom, with_window}
use Rattle.wf_send_parts.proofs.Ends.{still_fly}
use Rattle.wf_send_half_model.specs.Half.{TransmitValue}
use Rattle.wf_send_half_model.specs.Standing.{Parts}
use Rattle.wf_send_half_model.specs.Ending.{after_finish, after_answer, ending_of, IsLoose, IsEnding}
use Rattle.wf_send_half_model.specs.Views.{Agreements, agreements}
use Rattle.wf_send_half_model.proofs.Views.{agreements_rest, agreements_session}
use Rattle.wf_queue_flows_refines.proofs.Elsewhere.{rest_finish}
use Rattle.wf_send_half_model.proofs.Moves.{session_parts, session_is, finish_parts}

-- ---- a step does not change the other frames

-- the frames of other ids keep their places and fates
record LeavesOthers (id : ℕ) (v : TransmitValue) (w : World) (x : TransmitValue) (u : World) : Type 0 where
  accepted : accepted_count u ≡ accepted_count w
  fates : (k : ℕ) → k ≢ id → (frame u k).fate ≡ (frame w k).fate
  held : (k : ℕ) → k ≢ id → times_held x.flows.backlog k ≡ times_held v.flows.backlog k

-- one number is settled: the parts represent the world, and all other frames and sessions are unchanged
record IsSettledOne (id s t : ℕ) (y : Session) (bodies : ℕ → FrameValue) (v : TransmitValue) (w : World)
    (x : TransmitValue) (u : World) : Type 0 where
  parts : Parts x u bodies
  others : LeavesOthers id v w x u
  live : is_live u s ≡ true
  session_is : session u s t ≡ y
  config : u.config ≡ w.config

-- frame f is finished
module _ (v : TransmitValue) (w : World) (bodies : ℕ → FrameValue) (s t : ℕ) (f : FrameValue)
    (low : f.id < accepted_count w) (held : (frame w f.id).fate ≡ Held) (other : is_held f.fate ≡ false)
    (nowhere : times_held v.flows.backlog f.id ≡ 0)
    (body : IsBodySettled bodies f) (live : is_live w s ≡ true) (h : Parts v w bodies) where
  finished_one : IsSettledOne f.id s t (session w s t) bodies v w (after_finish v f)
      (with_frame_finished w f.fate f.id)
  finished_one =
      let p : flows_part (with_frame_finished w f.fate f.id)
      ≡ record (flows_part w) {
        fates = upd (flows_part w).fates f.id f.fate;
        finished =
            w.finished ++ f.id ∷ [];
      } = part_finish w f.fate f.id low in
      let a : agreements (with_frame_finished w f.fate f.id) ≡ agreements w =
      agreements_rest w (with_frame_finished w f.fate f.id) (rest_finish w f.fate f.id) in
      record {
        parts = finish_parts v w bodies f low held other nowhere body h;
        others = record {
          accepted = ap (λ (z : Part). z.accepted) p;
          fates = λ k k_other. ap (λ (z : Part). z.fates k) p
              ∙ upd_other (flows_part w).fates f.id k f.fate k_other;
          held = λ k k_other. omega (
            arith,
            times_finish v.flows k f,
            on-cons_other f.id k [] (λ e. k_other (sym e)),
            on-nil k,
          );
        };
        live = ap (λ (z : Agreements). z.live s) a ∙ live;
        session_is = ap (λ (z : Agreements). z.sessions s t) a;
        config = ap (λ (z : Agreements). z.config) a;
      }

-- ---- one number

pub settled_body : (bodies : ℕ → FrameValue) (id : ℕ) (fate : Fate) → (bodies id).id ≡ id →
    (bodies id).fate ≡ Held → is_held fate ≡ false → IsBodySettled bodies (with_fate fate (bodies id))
settled_body bodies id fate own held other = (
  ap
      (λ (z : Fate). let g : FrameValue = record (bodies id) { fate = z } in g) (sym held)
      ∙ ap bodies (sym own),
  other,
)

module _ (v : TransmitValue) (w : World) (bodies : ℕ → FrameValue) (s t : ℕ) (m : Mpdu) (x : WindowValue)
    (h : Parts v w bodies) (live : is_live w s ≡ true) (low : t < 8)
    (room : WindowsHaveRoom (with_window v.windows s t x))
    (id_is : (slot (session w s t) m.number).id ≡ m.id) (loose : IsLoose v w m) where
  abbrev before : Session
  before = session w s t

  abbrev moved : TransmitValue
  moved = record v { windows = with_window v.windows s t x }

  module _ (f : Session → Session) (stands : WindowStandsFor x (f (session w s t)) bodies) where
    abbrev there : World
    there = on_session w s t f

    same_part : flows_part there ≡ flows_part w
    same_part = session_alone w s t f

    moved_parts : Parts moved there bodies
    moved_parts = session_parts v w bodies s t f x live low room stands h

    still_live : is_live there s ≡ true
    still_live = ap (λ (a : Agreements). a.live s) (agreements_session w s t f live) ∙ live

    same_config : there.config ≡ w.config
    same_config = ap (λ (p : Part). p.config) same_part

    -- the number waits again
    waits_one : IsSettledOne m.id s t (f before) bodies v w moved there
    waits_one = record {
      parts = moved_parts;
      others = record {
        accepted = ap (λ (p : Part). p.accepted) same_part;
        fates = λ k other. ap (λ (p : Part). p.fates k) same_part;
        held = λ k other. refl;
      };
      live = still_live;
      session_is = session_is w s t f live;
      config = same_config;
    }

    -- its frame is finished
    ends_one : (fate : Fate) → is_held fate ≡ false →
        IsSettledOne m.id s t (f before) bodies v w
        (after_finish moved (with_fate fate (bodies (slot before m.number).id)))
        (with_frame_finished there fate m.id)
    ends_one fate other =
        let id : ℕ = (slot before m.number).id in
        let known : id < accepted_count w = omega (arith, id_is, loose.low) in
        let own : (bodies id).id ≡ id = (h.others.notes id known).id in
        let g : FrameValue = with_fate fate (bodies id) in
        let is : g.id ≡ m.id = own ∙ id_is in
        let one : IsSettledOne g.id s t (session there s t) bodies moved there (after_finish moved g)
        (with_frame_finished there fate g.id) =
        finished_one moved there bodies s t g (omega (
          arith,
          is,
          loose.low,
          ap (λ (p : Part). p.accepted) same_part,
        ))
        (ap (λ (p : Part). p.fates g.id) same_part ∙ ap (λ (k : ℕ). (frame w k).fate) is ∙ loose.held)
        other
        (ap (λ (k : ℕ). times_held v.flows.backlog k) is ∙ loose.nowhere)
        (settled_body bodies id fate own (h.others.notes id known).fate other) still_live moved_parts in
        let here : IsSettledOne m.id s t (session there s t) bodies moved there (after_finish moved g)
        (with_frame_finished there fate m.id) =
        subst (λ (k : ℕ). IsSettledOne k s t (session there s t) bodies moved there (after_finish moved g)
        (with_frame_finished there fate k)) is one in
        record {
          parts = here.parts;
          others = record {
            accepted = here.others.accepted ∙ ap (λ (p : Part). p.accepted) same_part;
            fates = λ k k_other. here.others.fates k k_other ∙ ap (λ (p : Part). p.fates k) same_part;
            held = here.others.held;
          };
          live = here.live;
          session_is = here.session_is ∙ session_is w s t f live;
          config = here.config ∙ same_config;
        }

  acked_step : WindowStandsFor x (with_state State.Acked m.number before) bodies →
      IsSettledOne m.id s t (with_state State.Acked m.number before) bodies v w
      (after_answer moved (settling_answer End.Acknowledged w.config.attempts bodies (slot before m.number)))
      (with_settled w s t End.Acknowledged m)
  unfolding with_settled
  acked_step stands = ends_one (with_state State.Acked m.number) stands Is_acked refl

  -- the number fails, or waits again
  left_step : (f : Session → Session) (failed : Bool) →
      is_failed (slot (f before) m.number).state ≡ failed → WindowStandsFor x (f before) bodies →
      IsSettledOne m.id s t (f before) bodies v w
      (after_answer moved (if failed then Failed (with_fate (Dropped Retries)
      (bodies (slot before m.number).id)) else Waiting)) (with_failed_finished (on_session w s t f) s t m)
  unfolding with_failed_finished
  left_step f failed is stands =
      go (is_failed (slot (session (on_session w s t f) s t) m.number).state) failed
      (ap (λ (y : Session). is_failed (slot y m.number).state) (session_is w s t f live) ∙ is)
      (ends_one f stands (Dropped Retries) refl) (waits_one f stands)
    where
      go : (fails failed : Bool) → fails ≡ failed →
          IsSettledOne m.id s t (f before) bodies v w
          (after_finish moved (with_fate (Dropped Retries) (bodies (slot before m.number).id)))
          (with_frame_finished (on_session w s t f) (Dropped Retries) m.id) →
          IsSettledOne m.id s t (f before) bodies v w moved (on_session w s t f) →
          IsSettledOne m.id s t (f before) bodies v w
          (after_answer moved (if failed then Failed (with_fate (Dropped Retries)
          (bodies (slot before m.number).id)) else Waiting))
          (if fails then with_frame_finished (on_session w s t f) (Dropped Retries) m.id
          else on_session w s t f)
      go true true same ends waits = ends
      go false false same ends waits = waits
      go true false same ends waits = absurd (cc same)
      go false true same ends waits = absurd (cc same)

  -- the number's own slot after the end
  own_slot : (g : Slot → Slot) → slot (on_slot m.number g before) m.number ≡ g (slot before m.number)
  own_slot g = at_put_same no_slot before.slots (m.number - before.first) (g (slot before m.number))

  missed_fails : is_failed (slot (after_miss w.config.attempts m.number before) m.number).state
      ≡ nat_le w.config.attempts ((slot before m.number).attempts + 1)
  missed_fails =
      ap (λ (z : Slot). is_failed z.state) (own_slot (slot_after_miss w.config.attempts))
      ∙ by_limit (nat_le w.config.attempts ((slot before m.number).attempts + 1))
    where
      by_limit : (b : Bool) → is_failed (if b then State.Failed else State.Waiting) ≡ b
      by_limit true = refl
      by_limit false = refl

  one_step : (end : End) → WindowStandsFor x (after_end w.config.attempts end m.number before) bodies →
      IsSettledOne m.id s t (after_end w.config.attempts end m.number before) bodies v w
      (after_answer moved (settling_answer end w.config.attempts bodies (slot before m.number)))
      (with_settled w s t end m)
  unfolding with_settled
  one_step End.Acknowledged stands = acked_step stands
  one_step End.Missed stands =
      left_step (after_end w.config.attempts End.Missed m.number)
      (nat_le w.config.attempts ((slot before m.number).attempts + 1)) missed_fails stands
  one_step End.GivenUp stands =
      left_step (after_end w.config.attempts End.GivenUp m.number) true
      (ap (λ (z : Slot). is_failed z.state) (own_slot (slot_given_up w.config.attempts))) stands
  one_step End.Unsent stands =
      left_step (after_end w.config.attempts End.Unsent m.number) false
      (ap (λ (z : Slot). is_failed z.state) (own_slot (λ z. record z { state = State.Waiting }))) stands

-- ---- the numbers after it

kept_ids : (y : Session) (n k : ℕ) (f : Slot → Slot) → ((z : Slot) → (f z).id ≡ z.id) →
    (slot (on_slot n f y) k).id ≡ (slot y k).id
kept_ids y n k f keeps = each_put (λ i z. z.id ≡ (at no_slot y.slots i).id) no_slot y.slots (n - y.first)
    (f (slot y n)) (λ i. refl) (keeps (slot y n)) (k - y.first)

settled_ids : (end : End) (limit n k : ℕ) (y : Session) →
    (slot (after_end limit end n y) k).id ≡ (slot y k).id
settled_ids End.Acknowledged limit n k y = kept_ids y n k (λ z. record z { state = State.Acked }) (λ z. refl)
settled_ids End.Missed limit n k y = kept_ids y n k (slot_after_miss limit) (λ z. refl)
settled_ids End.GivenUp limit n k y = kept_ids y n k (slot_given_up limit) (λ z. refl)
settled_ids End.Unsent limit n k y = kept_ids y n k (λ z. record z { state = State.Waiting }) (λ z. refl)

each_mapped : (P Q : Mpdu → Type 0) (ms : List Mpdu) → ((m : Mpdu) → P m → Q m) → EachMpdu P ms →
    EachMpdu Q ms
each_mapped P Q [] f h = tt
each_mapped P Q (m ∷ ms) f h = (f m h.0, each_mapped P Q ms f h.1)

-- for the transmissions whose id is not k
each_but : (P Q : Mpdu → Type 0) (k : ℕ) (ms : List Mpdu) → has (map (λ m. m.id) ms) k ≡ false →
    ((m : Mpdu) → m.id ≢ k → P m → Q m) → EachMpdu P ms → EachMpdu Q ms
each_but P Q k [] out f h = tt
each_but P Q k (m ∷ ms) out f h = (
  f m (λ e. absurd
      (cc (out, or_left (m.id == k) (has (map (λ (z : Mpdu). z.id) ms) k) (eq-eqb m.id k e)))) h.0,
  each_but P Q k ms (behind (m.id == k) out) f h.1,
)
  where
    behind : (b : Bool) → b || has (map (λ (z : Mpdu). z.id) ms) k ≡ false →
        has (map (λ (z : Mpdu). z.id) ms) k ≡ false
    behind true e = absurd (cc e)
    behind false e = e

pub ending_next_one : (v : TransmitValue) (w : World) (bodies : ℕ → FrameValue) (s t e : ℕ) (ends : ℕ → End)
    (m : Mpdu) (ms : List Mpdu) (after : World) (x : WindowValue) →
    IsEnding v w bodies s t e ends (m ∷ ms) after → WindowsHaveRoom (with_window v.windows s t x) →
    WindowStandsFor x (after_end v.config.attempts (ends m.number) m.number (session w s t)) bodies →
    IsEnding (after_answer (record v { windows = with_window v.windows s t x })
    (settling_answer (ends m.number) v.config.attempts bodies (slot (session w s t) m.number)))
    (with_settled w s t (ends m.number) m) bodies s t e ends ms after
unfolding with_all_settled
ending_next_one v w bodies s t e ends m ms after x left room stands =
    let y : Session = session w s t in
    let b : End = ends m.number in
    let same : v.config.attempts ≡ w.config.attempts =
    ap (λ (c : Config). c.attempts) left.parts.others.config in
    let z : Session = after_end w.config.attempts b m.number y in
    let stands_w : WindowStandsFor x z bodies = subst
    (λ (limit : ℕ). WindowStandsFor x (after_end limit b m.number y) bodies) same stands in
    subst (λ (limit : ℕ). IsEnding (after_answer (record v { windows = with_window v.windows s t x })
    (settling_answer b limit bodies (slot y m.number)))
    (with_settled w s t b m) bodies s t e ends ms after) (sym same)
    (go (one_step v w bodies s t m x left.parts left.live left.tid room left.ids.0 left.loose.0 b stands_w)
    (still_fly b y (ending_of w.config e ends) m.number (map (λ (k : Mpdu). k.number) ms) left.flying))
  where
    go : IsSettledOne m.id s t (after_end w.config.attempts (ends m.number) m.number (session w s t))
        bodies v w (after_answer (record v { windows = with_window v.windows s t x })
        (settling_answer (ends m.number) w.config.attempts bodies (slot (session w s t) m.number)))
        (with_settled w s t (ends m.number) m) →
        AreFlying (after_end w.config.attempts (ends m.number) m.number (session w s t))
        (ending_of w.config e ends) (map (λ (k : Mpdu). k.number) ms) →
        IsEnding (after_answer (record v { windows = with_window v.windows s t x })
        (settling_answer (ends m.number) w.config.attempts bodies (slot (session w s t) m.number)))
        (with_settled w s t (ends m.number) m) bodies s t e ends ms after
    go one flying =
        let u : World = with_settled w s t (ends m.number) m in
        record {
          parts = one.parts;
          live = one.live;
          tid = left.tid;
          flying = subst (λ (c : Config). AreFlying (session u s t) (ending_of c e ends)
              (map (λ (k : Mpdu). k.number) ms)) (sym one.config)
              (subst (λ (k : Session). AreFlying k (ending_of w.config e ends)
              (map (λ (k : Mpdu). k.number) ms)) (sym one.session_is) flying);
          ids = each_mapped (λ k. (slot (session w s t) k.number).id ≡ k.id)
              (λ k. (slot (session u s t) k.number).id ≡ k.id) ms
              (λ k is. ap (λ (a : Session). (slot a k.number).id) one.session_is
              ∙ settled_ids (ends m.number) w.config.attempts m.number k.number (session w s t) ∙ is)
              left.ids.1;
          loose = each_but (IsLoose v w) (IsLoose (after_answer
              (record v { windows = with_window v.windows s t x })
              (settling_answer (ends m.number) w.config.attempts bodies (slot (session w s t) m.number))) u)
              m.id ms left.once.0
              (λ k other is. record {
                low = omega (arith, is.low, one.others.accepted);
                held =
                    one.others.fates k.id other ∙ is.held;
                nowhere = one.others.held k.id other ∙ is.nowhere;
              })
              left.loose.1;
          once = left.once.1;
          leads = left.leads;
        }

pub ending_done : (v : TransmitValue) (w : World) (bodies : ℕ → FrameValue) (s t e : ℕ) (ends : ℕ → End)
    (after : World) → IsEnding v w bodies s t e ends [] after → Parts v after bodies
unfolding with_all_settled
ending_done v w bodies s t e ends after left = subst (λ (u : World). Parts v u bodies) left.leads left.parts
