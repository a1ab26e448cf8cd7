-- Proves how a history is split at a moment: the entries before it, and the entries between two moments, and
-- what an entry leaves and answers. By induction on the history.
use Rattle.std.proofs.Common.{◌≡◌, refl, ap, sym, ◌∙◌, arith, ℕ, zero, suc, ◌+◌, List, [], ◌∷◌, ◌++◌, take, drop, inl, inr, ◌⊎◌, Some, None, slice_get}
use Rattle.wf_def_world.specs.Run.{Entry, replies, world_after}
use Rattle.wf_def_world.specs.World.{World}
use Rattle.wf_law_runs.specs.Services.{note_at_entry}
use Rattle.wf_frame.specs.declared.notes.Note.{Note}
use Rattle.wf_def_world.specs.Step.{step}

pub take_parts : (m d : ℕ) (h : List Entry) → take m h ++ take d (drop m h) ≡ take (m + d) h
take_parts zero d h = let e : 0 + d ≡ d = omega arith in ap (λ (n : ℕ). take n h) (sym e)
take_parts (suc m) d [] = let e : suc m + d ≡ suc (m + d) = omega arith in
    nothing d ∙ ap (λ (n : ℕ). take n (the_none)) (sym e)
  where
    the_none : List Entry
    the_none = []

    nothing : (d : ℕ) → take d (the_none) ≡ the_none
    nothing zero = refl
    nothing (suc d) = refl
take_parts (suc m) d (x ∷ h) = let e : suc m + d ≡ suc (m + d) = omega arith in
    ap (λ (l : List Entry). x ∷ l) (take_parts m d h) ∙ ap (λ (n : ℕ). take n (x ∷ h)) (sym e)

-- ---- an entry of a history

-- There is no entry m.
pub record IsPast (w : World) (h : List Entry) (m : ℕ) : Type 0 where
  pub reply : slice_get (replies w h) m ≡ None
  pub world : world_after w (take (suc m) h) ≡ world_after w (take m h)

-- Entry m is this call.
pub record IsEntry (w : World) (h : List Entry) (m : ℕ) (note : Note) : Type 0 where
  pub call : note_at_entry h m ≡ Some note
  pub reply : slice_get (replies w h) m ≡ Some (step (world_after w (take m h)) note).reply
  pub world : world_after w (take (suc m) h) ≡ (step (world_after w (take m h)) note).world

pub entry : (h : List Entry) (w : World) (m : ℕ) → IsPast w h m ⊎ ((note : Note) × IsEntry w h m note)
unfolding replies world_after
entry [] w zero = inl (record { reply = refl; world = refl })
entry [] w (suc m) = inl (record { reply = refl; world = refl })
entry (e ∷ es) w zero = inr (e.1, record { call = refl; reply = refl; world = refl })
entry (e ∷ es) w (suc m) = elim (entry es (step w e.1).world m) [
  | inl past ↦ inl (record { reply = past.reply; world = past.world })
  | inr found ↦ inr (found.0, record { call = found.1.call; reply = found.1.reply; world = found.1.world })
]
