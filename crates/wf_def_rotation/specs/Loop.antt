-- Defines the paper's loop over a rotation, one turn at a time, and the laws that relate it to the pick
-- (Rotation). Source: "Ending the Anomaly" (USENIX ATC 2017), algorithm 2 (dequeue, over flow queues) and
-- algorithm 3 (over stations). The loop is deficit round robin with a new and an old list. A deficit is in
-- octets for a flow queue and in microseconds for a station.
use Rattle.std.specs.Prelude.{◌≡◌, ℕ, zero, suc, ◌*◌, ◌≤◌, ◌==◌, ℤ, pos, ◌+ℤ◌, int_le, Bool, List, [], ◌∷◌, ◌++◌, Option, None, Some, if◌then◌else◌}
use Rattle.wf_def_rotation.specs.Rotation.{Rotation, in_order, need_of, Picked, pick}
use Rattle.wf_def_lists.specs.Lists.{IsOnce}

-- The result of one turn. `Empty`: both lists are empty. `Wins`: the visited key wins and keeps its place.
-- `Again`: the loop goes on, with these lists and deficits.
pub data Visit : Type 0 where
  Empty : Visit
  Wins : (key : ℕ) → Visit
  Again : (lists : Rotation) → (deficit : ℕ → ℤ) → Visit

-- Returns the deficit of y after `key` received one quantum.
abbrev pub with_quantum_paid : (ℕ → ℕ) → (ℕ → ℤ) → ℕ → ℕ → ℤ
with_quantum_paid quantum deficit key y = if key == y then deficit y +ℤ pos (quantum y) else deficit y

-- Visits `key`, the head of the new list; `keys` are the rest of it. If its deficit is not above 0, the key
-- gets one quantum and moves to the end of the old list. If its deficit is above 0 and it is not ready, it
-- moves to the end of the old list without a quantum. Otherwise it wins.
abbrev pub visit_of_new : (ℕ → ℕ) → (ℕ → ℤ) → (ℕ → Bool) → ℕ → List ℕ → List ℕ → Visit
visit_of_new quantum deficit ready key keys old =
    if int_le (deficit key) (pos 0) then Again (record { new = keys; old = old ++ key ∷ [] })
    (with_quantum_paid quantum deficit key)
    else (if ready key then Wins key
    else Again (record { new = keys; old = old ++ key ∷ [] }) deficit)

-- Visits `key`, the head of the old list; `keys` are the rest of it, and the new list is empty. If its
-- deficit is not above 0, the key gets one quantum and moves to the end of the old list. If its deficit is
-- above 0 and it is not ready, it leaves the rotation. Otherwise it wins.
abbrev pub visit_of_old : (ℕ → ℕ) → (ℕ → ℤ) → (ℕ → Bool) → ℕ → List ℕ → Visit
visit_of_old quantum deficit ready key keys =
    if int_le (deficit key) (pos 0) then Again (record { new = []; old = keys ++ key ∷ [] })
    (with_quantum_paid quantum deficit key)
    else (if ready key then Wins key
    else Again (record { new = []; old = keys }) deficit)

-- Visits the head of the new list, or the head of the old list if the new list is empty.
abbrev pub visit_at : (ℕ → ℕ) → (ℕ → ℤ) → (ℕ → Bool) → List ℕ → List ℕ → Visit
visit_at quantum deficit ready [] [] = Empty
visit_at quantum deficit ready [] (key ∷ keys) = visit_of_old quantum deficit ready key keys
visit_at quantum deficit ready (key ∷ keys) old = visit_of_new quantum deficit ready key keys old

-- One turn of the loop, which visits one key.
abbrev pub visit : (ℕ → ℕ) → (ℕ → ℤ) → (ℕ → Bool) → Rotation → Visit
visit quantum deficit ready r = visit_at quantum deficit ready r.new r.old

-- The pick in closed form, from quanta and deficits.
abbrev pub pick_by_deficits : (ℕ → ℕ) → (ℕ → ℤ) → (ℕ → Bool) → Rotation → Picked
pick_by_deficits quantum deficit ready r = pick (λ y. need_of (quantum y) (deficit y)) ready r

-- Returns the deficit of key y after a pick.
abbrev pub deficit_after : (ℕ → ℕ) → (ℕ → ℤ) → Picked → ℕ → ℤ
deficit_after quantum deficit p y = deficit y +ℤ pos (p.quanta y * quantum y)

-- The pick gives the winner `key`, the lists `kept` and the deficits `after`.
pub record PickGives (quantum : ℕ → ℕ) (deficit : ℕ → ℤ) (ready : ℕ → Bool) (r : Rotation)
    (key : Option ℕ) (kept : Rotation) (after : ℕ → ℤ) : Type 0 where
  pub winner : (pick_by_deficits quantum deficit ready r).winner ≡ key
  pub lists : (pick_by_deficits quantum deficit ready r).lists ≡ kept
  pub deficits : (y : ℕ) → deficit_after quantum deficit (pick_by_deficits quantum deficit ready r) y
      ≡ after y

-- The pick's result that corresponds to the first turn of the loop. `Empty`: no winner, and nothing
-- changes. `Wins`: this winner, and nothing changes. `Again`: the same result as the pick from the lists
-- and deficits after the turn.
abbrev pub MeetsVisit : (ℕ → ℕ) → (ℕ → ℤ) → (ℕ → Bool) → Rotation → Visit → Type 0
MeetsVisit quantum deficit ready r Empty = PickGives quantum deficit ready r None r deficit
MeetsVisit quantum deficit ready r (Wins key) = PickGives quantum deficit ready r (Some key) r deficit
MeetsVisit quantum deficit ready r (Again lists after) =
    PickGives quantum deficit ready r
    (pick_by_deficits quantum after ready lists).winner
    (pick_by_deficits quantum after ready lists).lists
    (deficit_after quantum after (pick_by_deficits quantum after ready lists))

-- The law of one turn. If the visited key does not win in this turn, the picks before and after the turn
-- give the same winner, lists and deficits. If it wins, the pick gives it as the winner and changes
-- nothing. If both lists are empty, the pick has no winner and changes nothing. Every quantum is at least
-- 1, and no key is listed twice.
abbrev pub VisitLaw : Type 0
VisitLaw =
    (quantum : ℕ → ℕ) (deficit : ℕ → ℤ) (ready : ℕ → Bool) (r : Rotation) → ((y : ℕ) → 1 ≤ quantum y) →
    IsOnce (in_order r) →
    MeetsVisit quantum deficit ready r (visit quantum deficit ready r)

-- ---- the whole loop

-- A state of the loop: the lists and the deficits.
pub record Standing : Type 0 where
  pub lists : Rotation
  pub deficit : ℕ → ℤ

-- One turn from a state of the loop.
abbrev pub visit_from : (ℕ → ℕ) → (ℕ → Bool) → Standing → Visit
visit_from quantum ready s = visit quantum s.deficit ready s.lists

-- Returns the state after a turn. A turn that ends the loop changes nothing.
abbrev pub onward : Standing → Visit → Standing
onward s Empty = s
onward s (Wins key) = s
onward s (Again lists deficit) = record { lists = lists; deficit = deficit }

-- Returns the state after n turns.
abbrev pub after_visits : (ℕ → ℕ) → (ℕ → Bool) → ℕ → Standing → Standing
after_visits quantum ready zero s = s
after_visits quantum ready (suc n) s = after_visits quantum ready n (onward s (visit_from quantum ready s))

-- This turn ends the loop, with this winner or with none.
abbrev pub LoopEnds : Visit → Option ℕ → Type 0
LoopEnds Empty winner = winner ≡ None
LoopEnds (Wins key) winner = winner ≡ Some key
LoopEnds (Again lists deficit) winner = ⊥

-- The loop ends after some number of turns.
pub record HasEnd (quantum : ℕ → ℕ) (ready : ℕ → Bool) (s : Standing) : Type 0 where
  pub visits : ℕ
  pub winner : Option ℕ
  pub ends : LoopEnds (visit_from quantum ready (after_visits quantum ready visits s)) winner

-- The law that the loop ends. Every quantum is at least 1, and no key is listed twice.
abbrev pub EndLaw : Type 0
EndLaw = (quantum : ℕ → ℕ) (ready : ℕ → Bool) (s : Standing) → ((y : ℕ) → 1 ≤ quantum y) →
    IsOnce (in_order s.lists) → HasEnd quantum ready s

-- The law of the whole loop: if it ends after n turns, the pick gives the winner, the lists and the
-- deficits with which it ends. Every quantum is at least 1, and no key is listed twice.
abbrev pub LoopLaw : Type 0
LoopLaw =
    (quantum : ℕ → ℕ) (ready : ℕ → Bool) (s : Standing) (n : ℕ) (winner : Option ℕ) →
    ((y : ℕ) → 1 ≤ quantum y) → IsOnce (in_order s.lists) →
    LoopEnds (visit_from quantum ready (after_visits quantum ready n s)) winner →
    PickGives quantum s.deficit ready s.lists winner (after_visits quantum ready n s).lists
    (after_visits quantum ready n s).deficit
