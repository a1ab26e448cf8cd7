-- Defines one visit of the loop of "Ending the Anomaly" (USENIX ATC 2017), algorithm 3 (Loop of
-- wf_def_rotation), to one of the rotations.
use Rattle.std.specs.Prelude.{◌≡◌, ℕ, ◌*◌, ◌<◌, ◌≤◌, Bool, true, false, List, [], ◌∷◌, length, set, ℤ, pos, ◌+ℤ◌, int_le, if◌then◌else◌}
use Rattle.wf_def_rotation.specs.Rotation.{Rotation, in_order}
use Rattle.wf_def_rotation.specs.Loop.{Visit, Empty, Wins, Again, Standing, visit_from, onward, LoopEnds}
use Rattle.wf_rotation.specs.Lists.{lists_at}
use Rattle.wf_rotation.specs.Rotas.{Rotas, deficit_at, quantum_at, need_at, is_ready, picked_at}
use Rattle.wf_rotation.specs.Pass.{passed_first, raised}
use Rattle.wf_rotation.specs.declared.side.Side.{Side}
use Rattle.wf_rotation.specs.declared.side.Side.TheVariants.{New, Old}
use Rattle.wf_rotation.specs.declared.rota.VisitEnd.{VisitEnd}
use Rattle.wf_rotation.specs.declared.rota.VisitEnd.TheVariants.{Done, GoesOn}

-- the state of the loop at one of the rotations
abbrev pub standing_at : Rotas → ℕ → Standing
standing_at v list = record { lists = lists_at v.lists list; deficit = deficit_at v.deficits }

-- the visit that the loop makes there
abbrev pub first_visit : Rotas → List Bool → ℕ → Visit
first_visit v ready list = visit_from (quantum_at v.quanta) (is_ready ready) (standing_at v list)

-- the loop goes on after this visit
abbrev pub IsOnward : Visit → Type 0
IsOnward Empty = ⊥
IsOnward (Wins key) = ⊥
IsOnward (Again lists deficit) = Unit {0}

-- this is how the visit ends
abbrev pub EndsAs : Visit → VisitEnd → Type 0
EndsAs t GoesOn = IsOnward t
EndsAs t (Done winner) = LoopEnds t winner

-- one of the rotations after this visit
pub record HasVisited (start : Rotas) (list : ℕ) (t : Visit) (v : Rotas) : Type 0 where
  pub lists : v.lists ≡ set start.lists list (onward (standing_at start list) t).lists
  pub deficits : (key : ℕ) → deficit_at v.deficits key ≡ (onward (standing_at start list) t).deficit key
  pub keys : length v.deficits ≡ length start.deficits
  pub quanta : v.quanta ≡ start.quanta

abbrev pub is_new : Side → Bool
is_new New = true
is_new Old = false

-- a key gets one quantum
abbrev pub key_paid : Rotas → ℕ → List ℤ
key_paid v key = set v.deficits key (deficit_at v.deficits key +ℤ pos (quantum_at v.quanta key))

-- the rotations after a visit to the first key of a list
abbrev pub after_visit_of : Rotas → ℕ → Side → ℕ → Bool → Rotas
after_visit_of v list side key ready =
    if int_le (deficit_at v.deficits key) (pos 0)
    then record v { lists = passed_first v.lists list side key true; deficits = key_paid v key }
    else (if ready then v else record v { lists = passed_first v.lists list side key (is_new side) })

-- the pick from here is the pick from the start
pub record IsSamePick (start : Rotas) (ready : List Bool) (list : ℕ) (v : Rotas) : Type 0 where
  pub winner : (picked_at v ready list).winner ≡ (picked_at start ready list).winner
  pub lists : (picked_at v ready list).lists ≡ (picked_at start ready list).lists
  pub deficits : (key : ℕ) → deficit_at v.deficits key
      +ℤ pos ((picked_at v ready list).quanta key * quantum_at v.quanta key)
      ≡ deficit_at start.deficits key
      +ℤ pos ((picked_at start ready list).quanta key * quantum_at start.quanta key)
  pub others : (r : Rotation) → set v.lists list r ≡ set start.lists list r
  pub there : length v.lists ≡ length start.lists
  pub keys : length v.deficits ≡ length start.deficits
  pub quanta : v.quanta ≡ start.quanta
  pub fewer : length (in_order (lists_at v.lists list)) ≤ length (in_order (lists_at start.lists list))

-- the rotation has one key, and has it on its old list
abbrev pub IsOnlyOld : Rotation → ℕ → Type 0
IsOnlyOld r key = r ≡ record { new = []; old = key ∷ [] }

-- the first visits, as many as this, found one of the rotations with one key, on its old list, and gave the
-- key a quantum each
pub record HasPaidOnly (start : Rotas) (list visits : ℕ) (v : Rotas) : Type 0 where
  pub key : ℕ
  pub alone : 0 < visits → IsOnlyOld (lists_at start.lists list) key
  pub owing : visits ≤ need_at start key
  pub paid : v ≡ record start {
    deficits = set start.deficits key (raised (deficit_at start.deficits key)
        (quantum_at start.quanta key) visits);
  }
