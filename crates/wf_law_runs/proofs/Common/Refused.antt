-- Proves what holds after a Pull that is refused as Idle, from the two worlds that it may leave.
use Rattle.std.proofs.Common.{◌≡◌, refl, Bool, true, false, if◌then◌else◌, ◌==◌}
use Rattle.wf_frame.specs.declared.classes.Class.{Class}
use Rattle.wf_def_world.specs.World.{World}
use Rattle.wf_def_world.specs.Exchanges.{after_pick}

-- A property holds after a Pull is refused as Idle, if it holds before the Pull, and, without the setting
-- `pending`, after its pick.
pub if_idle : (P : World → Type 0) (w : World) (c : Class) → P w →
    ((w.config.pending == 1) ≡ false → P (after_pick w c)) →
    P (if w.config.pending == 1 then w else after_pick w c)
if_idle P w c h k = go (w.config.pending == 1) refl
  where
    go : (b : Bool) → (w.config.pending == 1) ≡ b → P (if b then w else after_pick w c)
    go true e = h
    go false e = k e

-- A property that holds before a Pull and after its pick holds after it is refused as Idle.
pub after_idle : (P : World → Type 0) (w : World) (c : Class) → P w → P (after_pick w c) →
    P (if w.config.pending == 1 then w else after_pick w c)
after_idle P w c h k = if_idle P w c h (λ _. k)
