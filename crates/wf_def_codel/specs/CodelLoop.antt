-- Defines CoDel's dequeue frame by frame, as in RFC 8289 (5.5 and 5.6). Names in parentheses are the RFC's.
-- Its `dodequeue` is `look_at` here, and its `control_law` has the same name.
use Rattle.std.specs.Prelude.{ℕ, nat_lt, false, not, List, [], ◌∷◌, Some, None, if◌then◌else◌}
use Rattle.wf_def_codel.specs.Codel.{Item, Params, Codel, Look, look_at, control_law, rise, begin_dropping, Dequeued}

-- Returns the frame at the head (r.p), if there is one, and drops nothing.
abbrev pub giving : Codel → List Item → Dequeued
giving state [] = record { given = None; dropped = []; rest = []; state = state }
giving state (x ∷ rest) = record { given = Some x; dropped = []; rest = rest; state = state }

-- Drops frame x first, and then has the result d.
abbrev pub dropping_first : Item → Dequeued → Dequeued
dropping_first x d = record d { dropped = x ∷ d.dropped }

-- Dequeues while dropping: the loop `while (now >= drop_next && dropping)`. Each round looks at the frame
-- at the head. `next` is when the drop of this frame is due. If the look is ok (ok_to_drop), drop_next
-- becomes `next`; the frame is dropped if `next` is not after `now`, else it is returned. If the look is
-- not ok, dropping ends, drop_next is unchanged, and the frame is returned. A drop raises the count and
-- `dropped`, and the control law gives the time of the next drop.
unfoldable pub dequeue_dropping : Params → ℕ → Codel → ℕ → List Item → Dequeued
dequeue_dropping p now c next [] = giving (record c { first_above = 0; dropping = false }) []
dequeue_dropping p now c next (x ∷ rest) =
    let look : Look = look_at p now c.first_above (x ∷ rest) in
    let after_drop : Dequeued =
    dropping_first x
    (dequeue_dropping p now
    (record c {
      first_above = look.first_above;
      drop_next = next;
      count = rise c.count;
      dropped = rise c.dropped;
    })
    (control_law p next (rise c.count))
    rest)
    in
    if not look.ok then giving (record c { first_above = look.first_above; dropping = false }) (x ∷ rest)
    else (if nat_lt now next then giving (record c { first_above = look.first_above; drop_next = next })
    (x ∷ rest)
    else after_drop)

-- Dequeues while not dropping. If the first look is ok, its frame is dropped and dropping begins; the next
-- frame, if there is one, is looked at once and returned, whatever that look says. Otherwise the first
-- frame is returned.
unfoldable pub dequeue_plain : Params → ℕ → Codel → List Item → Dequeued
dequeue_plain p now c [] = giving (record c { first_above = 0 }) []
dequeue_plain p now c (x ∷ rest) =
    let look : Look = look_at p now c.first_above (x ∷ rest) in
    if not look.ok then giving (record c { first_above = look.first_above }) (x ∷ rest)
    else dropping_first x (giving (begin_dropping p now c (look_at p now look.first_above rest)) rest)

-- The dequeue (5.5) at time `now`.
unfoldable pub stepped : Params → ℕ → Codel → List Item → Dequeued
stepped p now c items =
    if c.dropping then dequeue_dropping p now c c.drop_next items else dequeue_plain p now c items
