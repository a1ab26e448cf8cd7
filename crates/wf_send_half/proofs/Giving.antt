-- Proves the step of a pull in which a fresh frame gets its number.
use Rattle.std.proofs.Common.{◌≡◌, ap, sym, ◌∙◌, subst, arith, ℕ, ◌+◌, ◌-◌, ◌%◌, ◌≤◌, List, length}
use Rattle.wf_frame.specs.declared.classes.Cause.TheVariants.{Codel as By_codel}
use Rattle.wf_frame.specs.declared.classes.Fate.TheVariants.{Dropped}
use Rattle.wf_frame.specs.Classes.{tid_number}
use Rattle.wf_frame.specs.Frames.{FrameValue}
use Rattle.wf_def_codel.specs.Codel.{Params}
use Rattle.wf_def_world.specs.World.{codel_params}
use Rattle.wf_queue_flows.specs.Flows.{FlowsValue, TakeGives, frames_of_tid, taken_for_tid}
use Rattle.wf_send_parts.specs.Tally.{Counts, held_in, many_settled_as}
use Rattle.wf_def_agreement.specs.Session.{Session, next_number, with_number_given}
use Rattle.wf_send_parts.specs.Window.{WindowValue, WindowStandsFor as WindowStandsFor}
use Rattle.wf_send_parts.specs.Windows.{WindowsHaveRoom, window_of, with_window}
use Rattle.wf_send_half_model.specs.Half.{TransmitValue}
use Rattle.wf_send_half_model.specs.Filling.{IsTurned}
use Rattle.wf_send_half_model.proofs.Asked.{params_read}
use Rattle.wf_send_half.specs.Pulls.{HasTurn, IsParamsOf, IsTaken, IsGivenNumber}
use Rattle.wf_send_half.proofs.Taking.{drops_are_held, counted_drops, took}

-- x is v after this frame is taken
module _ (v x : TransmitValue) (s t : ℕ) (f : FrameValue) (taken : IsTaken v x s t f)
    (windows : List WindowValue) (others : windows ≡ with_window x.windows s t (window_of windows s t))
    (room : WindowsHaveRoom windows) where
  same_windows : x.windows ≡ v.windows
  same_windows = ap (λ (z : TransmitValue). z.windows) taken.is

  pub gave : (number len : ℕ) → len ≡ length f.body →
      ((y : Session) (bodies : ℕ → FrameValue) → WindowStandsFor (window_of x.windows s t) y bodies →
      f ≡ bodies f.id → (number ≡ next_number y % 4096) ×
      WindowStandsFor (window_of windows s t) (with_number_given y f.id) bodies) →
      IsGivenNumber v (record x { windows = windows }) s t number len
  gave number len octets given = record {
    params = taken.params;
    read = taken.read;
    frame = f;
    out = taken.out;
    octets = octets;
    window = window_of windows s t;
    room = subst WindowsHaveRoom (others ∙ ap (λ (ws : List WindowValue).
        with_window ws s t (window_of windows s t)) same_windows) room;
    waits = λ y bodies stands own. given y bodies
        (subst (λ (ws : List WindowValue). WindowStandsFor (window_of ws s t) y bodies)
        (sym same_windows) stands) own;
    is =
        ap (λ (ws : List WindowValue). record x { windows = ws })
        (others ∙ ap (λ (ws : List WindowValue). with_window ws s t (window_of windows s t)) same_windows)
        ∙ ap (λ (z : TransmitValue). record z { windows = with_window v.windows s t (window_of windows s t) })
        taken.is;
  }

-- a frame is taken out, those that CoDel dropped before it are counted, and it gets its number; x is the
-- value of the fields of the half v
module _ (x v : TransmitValue) (same : x ≡ v) (s t : ℕ) (turn : HasTurn v s t) (params : Params)
    (read : IsParamsOf v s params) (flows : FlowsValue) (f : FrameValue)
    (taken : TakeGives flows f (taken_for_tid x.flows (tid_number s t) x.clock params)) (dropped : ℕ)
    (left : frames_of_tid flows (tid_number s t) + dropped + 1 ≡ frames_of_tid x.flows (tid_number s t)) where
  turned : IsTurned x turn.world turn.bodies s t
  turned = subst (λ (z : TransmitValue). IsTurned z turn.world turn.bodies s t) (sym same) turn.turned

  read_here : IsParamsOf x s params
  read_here = subst (λ (z : TransmitValue). IsParamsOf z s params) (sym same) read

  right : params ≡ codel_params turn.world s
  right = read_here.is ∙ params_read x turn.world turn.bodies s turned.parts turned.live read_here.rate
      read_here.is_rate

  counted : dropped ≡ length (taken_for_tid x.flows (tid_number s t) x.clock params).flows.backlog.finished
      - length x.flows.backlog.finished
  counted = omega (
    arith,
    left,
    counted_drops x turn.world turn.bodies s t turned params right flows f taken,
  )

  pub drops_held : dropped ≤ held_in x.tally
  drops_held = omega (arith, counted, (drops_are_held x turn.world turn.bodies s t turned params right).0)

  pub gave_fresh : (tally : Counts) → tally ≡ many_settled_as (Dropped By_codel) dropped x.tally →
      (windows : List WindowValue) → windows ≡ with_window x.windows s t (window_of windows s t) →
      WindowsHaveRoom windows → (number len : ℕ) → len ≡ length f.body →
      ((y : Session) (bodies : ℕ → FrameValue) → WindowStandsFor (window_of x.windows s t) y bodies →
      f ≡ bodies f.id → (number ≡ next_number y % 4096) ×
      WindowStandsFor (window_of windows s t) (with_number_given y f.id) bodies) →
      IsGivenNumber v (record x { flows = flows; windows = windows; tally = tally }) s t number len
  gave_fresh tally settled windows others room number len octets given =
      let u : TransmitValue = record x { flows = flows; windows = windows; tally = tally } in
      subst (λ (z : TransmitValue). IsGivenNumber z u s t number len) same
      (gave x (record x { flows = flows; tally = tally }) s t f
      (took x s t params read_here flows f taken dropped counted tally settled) windows others room number len
      octets given)
