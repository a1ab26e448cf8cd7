-- Defines the statements of contracts about a desk, at which one worker makes its calls.
use Rattle.std.specs.Prelude.{◌≡◌, ◌≤◌, ◌+◌, ℕ, List, [], ◌∷◌, ◌++◌, map}
use Rattle.wf_frame.specs.declared.notes.Note.{Note}
use Rattle.wf_frame.specs.declared.notes.ReplyNote.{ReplyNote}
use Rattle.wf_run_histories.specs.Workloads.{Made, Driver, IsWalk, walked}

-- D is the type of a desk, and P that of its place, which no call changes.
module _ {D P : Type 0} (has : D → P → List Made → Type 0) (left : D → ℕ) where
  -- One call was made, and this was the reply.
  pub record Adds (old new : D) (note : Note) (reply : ReplyNote) : Type 0 where
    pub fewer : left new + 1 ≡ left old
    pub added : (place : P) (before : List Made) → has old place before →
        has new place (before ++ (note, reply) ∷ [])

  -- No call was left.
  pub record Refuses (old new : D) : Type 0 where
    pub none : left old ≡ 0
    pub still : left new ≡ 0
    pub kept : (place : P) (before : List Made) → has old place before → has new place before

  -- These calls were made, in order.
  pub record Makes (old new : D) (notes : List Note) : Type 0 where
    pub made : List Made
    pub notes_are : map (λ m. m.0) made ≡ notes
    pub has_them : (place : P) (before : List Made) → has old place before → has new place (before ++ made)

  -- A driver made some of its calls, which led it from one state to another.
  pub record Walks (old new : D) (from to : Driver) : Type 0 where
    pub made : List Made
    pub walk : IsWalk from made
    pub leads : walked from made ≡ to
    pub fewer : left new ≤ left old
    pub has_them : (place : P) (before : List Made) → has old place before → has new place (before ++ made)

  -- A driver made some of its calls, until none was left.
  pub record Stops (old new : D) (from : Driver) : Type 0 where
    pub to : Driver
    pub walks : Walks old new from to
    pub none : left new ≡ 0
