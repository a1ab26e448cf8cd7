-- Defines the number of visits that the loop of "Ending the Anomaly" (USENIX ATC 2017), algorithm 3, makes in
-- a pick.
use Rattle.std.specs.Prelude.{ℕ, zero, suc, ◌+◌, ◌-◌, Bool, List, length, sum_by, Option, None, Some, option_map}
use Rattle.wf_def_rotation.specs.Rotation.{Rotation, Picked, in_order}
use Rattle.wf_def_rotation.specs.Loop.{Visit, Empty, Wins, Again, Standing, visit_from, onward}
use Rattle.wf_rotation.specs.Lists.{lists_at}
use Rattle.wf_rotation.specs.Rotas.{Rotas, quantum_at, is_ready, picked_at}
use Rattle.wf_rotation.specs.Visits.{standing_at}

-- The most visits that the paper's loop (Loop of wf_def_rotation) makes in the pick of one of the rotations.
-- Each visit but the last gives a quantum, or takes a key off new, or off the rotation.
abbrev pub most_visits : Rotas → List Bool → ℕ → ℕ
most_visits v ready list =
    let r : Rotation = lists_at v.lists list in
    let p : Picked = picked_at v ready list in
    1 + sum_by p.quanta (in_order r) + (length r.new - length p.lists.new)
    + (length (in_order r) - length (in_order p.lists))

-- the visits from this one to the end of the loop, from those after it
abbrev pub and_behind : Visit → Option ℕ → Option ℕ
and_behind Empty behind = Some 1
and_behind (Wins key) behind = Some 1
and_behind (Again lists deficit) behind = option_map (λ n. n + 1) behind

-- the number of visits that the loop makes from here to its end, or None if that is more than `most`
unfoldable pub visits_to_end : (ℕ → ℕ) → (ℕ → Bool) → Standing → ℕ → Option ℕ
visits_to_end quantum ready s zero = None
visits_to_end quantum ready s (suc most) =
    and_behind (visit_from quantum ready s)
    (visits_to_end quantum ready (onward s (visit_from quantum ready s)) most)

-- the number of visits that the loop makes in the pick of one of the rotations, or None if that is more than
-- `most`
abbrev pub visits_within : ℕ → Rotas → List Bool → ℕ → Option ℕ
visits_within most v ready list =
    visits_to_end (quantum_at v.quanta) (is_ready ready) (standing_at v list) most
