-- Proves that only the frames of accepted ids matter to the windows: they represent their sessions with every
-- other `bodies` that has the same frames for these ids.
use Rattle.std.proofs.Common.{◌≡◌, refl, arith, ℕ, ◌<◌, true, false, List}
use Rattle.wf_frame.specs.Frames.{FrameValue}
use Rattle.wf_def_agreement.specs.Session.{State, slot, is_settled}
use Rattle.wf_def_world.specs.World.{World, session, accepted_count}
use Rattle.wf_law_runs.specs.Places.{Numbered, KeepsPlaces}
use Rattle.wf_send_parts.specs.Window.{WindowValue, holds_parcel}
use Rattle.wf_send_parts.proofs.Laws.{start_of_is}
use Rattle.wf_send_parts.proofs.Held.{all_held_stand}
use Rattle.wf_send_half_model.specs.Views.{agreements}
use Rattle.wf_send_half_model.proofs.Stands.{WindowsStand}

pub open_state : (state : State) → holds_parcel state ≡ true → is_settled state ≡ false
open_state State.Waiting h = refl
open_state (State.Flying e) h = refl
open_state State.Acked h = absurd (cc h)
open_state State.Failed h = absurd (cc h)

pub windows_known : (windows : List WindowValue) (w : World) (bodies others : ℕ → FrameValue) →
    KeepsPlaces w → ((id : ℕ) → id < accepted_count w → others id ≡ bodies id) →
    WindowsStand windows bodies (agreements w) → WindowsStand windows others (agreements w)
windows_known windows w bodies others places same h = record {
  sized = h.sized;
  room = h.room;
  all = all_held_stand bodies others windows (agreements w).live (agreements w).sessions h.all
      (λ s t live low. record {
        same = λ n from below held. same (slot (session w s t) n).id
            (places.only_held (slot (session w s t) n).id (Numbered s t n)
            (record {
              from = omega (arith, from, start_of_is (session w s t));
              below = below;
              carries = refl;
              unsettled = open_state (slot (session w s t) n).state held;
            })).0;
      });
}
