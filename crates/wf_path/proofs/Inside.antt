-- Proves that the half inside a path represents each world that the path represents, and that there is one.
use Rattle.std.proofs.Common.{◌≡◌, sym, subst, ℕ}
use Rattle.wf_frame.specs.Frames.{FrameValue}
use Rattle.wf_def_world.specs.World.{World}
use Rattle.wf_send_half.specs.Half.{HasWorld}
use Rattle.wf_send_half_model.specs.Half.{TransmitValue}
use Rattle.wf_send_half_model.specs.Standing.{StandsFor}
use Rattle.wf_path.specs.Addresses.{Addresses}
use Rattle.wf_path.specs.Paths.{PathValue, IsPath}
use Rattle.wf_path.proofs.Values.{half_is}

-- x and a are the fields of the path p
pub stands_inside : {x : TransmitValue} {a : Addresses} {p : PathValue} →
    ◌≡◌ {A = PathValue} (record { half = x; addresses = a }) p → (w : World) (bodies : ℕ → FrameValue) →
    StandsFor p.half w bodies → StandsFor x w bodies
stands_inside same w bodies h = subst (λ (u : TransmitValue). StandsFor u w bodies) (sym (half_is same)) h

pub has_world : (x : TransmitValue) → IsPath x → HasWorld x
has_world x h = record { world = h.world; bodies = h.bodies; stands = h.stands }
