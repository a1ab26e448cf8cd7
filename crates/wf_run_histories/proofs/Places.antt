-- Proves that the calls at the places of a caller, among the entries since the gate opened, are all calls
-- that it made.
use Rattle.std.proofs.Common.{◌≡◌, ℕ, zero, suc, ◌<◌, Bool, true, false, cond, List, [], ◌∷◌, ◌++◌, length, map, take, Some, refl, sym, ◌∙◌, ap, ap₂, subst, append_assoc, length-append, arith}
use Rattle.std.specs.Prelude.{eqb, slice_get}
use Rattle.std.proofs.Math.Seq.{take-append_seam}
use Rattle.std.proofs.lemmas.List.{take-append-le}
use Rattle.std.proofs.lemmas.Option.{slice_get_within}
use mathlib.Core.List.{IsPrefix}
use Rattle.wf_frame.specs.declared.notes.Note.{Note}
use Rattle.wf_frame.specs.declared.notes.ReplyNote.{ReplyNote}
use Rattle.wf_def_world.specs.World.{World, opening}
use Rattle.wf_def_world.specs.Step.{step}
use Rattle.wf_def_world.specs.Run.{Entry, world_after}
use Rattle.wf_law_runs.proofs.Frames.Fates.{world_after-append}
use Rattle.wf_gate.specs.Turns.{places}
use Rattle.wf_gate.specs.Seats.{places_of, StandsWithCalls}
use Rattle.wf_run_histories.specs.Workloads.{Made}
use Rattle.wf_run_histories.specs.Makings.{made_by}
use Rattle.wf_run_histories.specs.Crew.{CellGate, StandAt, reply_at}

-- The world in which the gate opened.
abbrev pub world_at_gate : CellGate → World
world_at_gate g = world_after (opening g.opening.machine.past.config) g.opening.machine.past.history

-- ---- more entries

get_longer : (xs zs : List Entry) (k : ℕ) (e : Entry) → slice_get xs k ≡ Some e →
    slice_get (xs ++ zs) k ≡ Some e
get_longer [] zs k e at = absurd (cc)
get_longer (x ∷ xs) zs zero e at = at
get_longer (x ∷ xs) zs (suc k) e at = get_longer xs zs k e at

still_there : (xs ys : List Entry) (k : ℕ) (e : Entry) → IsPrefix xs ys → slice_get xs k ≡ Some e →
    slice_get ys k ≡ Some e
still_there xs ys k e p at = subst (λ (l : List Entry). slice_get l k ≡ Some e) p.1 (get_longer xs p.0 k e at)

same_before : (xs ys : List Entry) (k : ℕ) → IsPrefix xs ys → k < length xs → take k ys ≡ take k xs
same_before xs ys k p below = ap (take k) (sym p.1) ∙ take-append-le k xs p.0 (omega arith)

-- The calls at these places stay there when entries are appended.
pub stand_longer : (g : CellGate) (caller : ℕ) (xs ys : List Entry) (own : List ℕ) (made : List Made) →
    IsPrefix xs ys → StandAt g caller xs own made → StandAt g caller ys own made
stand_longer g caller xs ys [] [] p stand = stand
stand_longer g caller xs ys (place ∷ own) (m ∷ ms) p stand =
    let below : place < length xs = slice_get_within xs place (caller, m.0) stand.0 in
    let right : m.1 ≡ reply_at g ys place m.0 =
    stand.1 ∙ ap (λ (h : List Entry). (step (world_after (opening g.opening.machine.past.config)
    (g.opening.machine.past.history ++ h)) m.0).reply) (sym (same_before xs ys place p below)) in
    (still_there xs ys place (caller, m.0) p stand.0, right, stand_longer g caller xs ys own ms p stand.2)
stand_longer g caller xs ys [] (m ∷ ms) p stand = absurd stand
stand_longer g caller xs ys (place ∷ own) [] p stand = absurd stand

-- ---- all calls of a caller

-- The world after one more entry.
after_one : (es : List Entry) (w : World) (e : Entry) →
    world_after w (es ++ e ∷ []) ≡ (step (world_after w es) e.1).world
unfolding world_after
after_one es w e = world_after-append es w (e ∷ [])

seam : (done : List Entry) (e : Entry) (es : List Entry) → slice_get (done ++ e ∷ es) (length done) ≡ Some e
seam [] e es = refl
seam (x ∷ done) e es = seam done e es

some_is : (a b : Entry) → Some a ≡ Some b → a ≡ b
some_is a b is = cc

none_made : (g : CellGate) (caller : ℕ) (entries : List Entry) (made : List Made) →
    StandAt g caller entries [] made → made ≡ []
none_made g caller entries [] stand = refl
none_made g caller entries (m ∷ ms) stand = absurd stand

-- Moves the first of the remaining entries to those that are done.
shifted : (P : List Entry → List ℕ → Type 0) (caller : ℕ) (done : List Entry) (e : Entry) (es : List Entry) →
    P (done ++ e ∷ es) (places caller (suc (length done)) es) →
    P ((done ++ e ∷ []) ++ es) (places caller (length (done ++ e ∷ [])) es)
shifted P caller done e es fact =
    let behind : suc (length done) ≡ length (done ++ e ∷ []) = omega (arith, length-append done (e ∷ [])) in
    subst (λ (l : List Entry). P l (places caller (length (done ++ e ∷ [])) es))
    (sym (append_assoc done (e ∷ []) es))
    (subst (λ k. P (done ++ e ∷ es) (places caller k es)) behind fact)

first_made : (g : CellGate) (caller : ℕ) (done : List Entry) (e : Entry) (es : List Entry) (m : Made) →
    slice_get (done ++ e ∷ es) (length done) ≡ Some (caller, m.0) →
    m.1 ≡ reply_at g (done ++ e ∷ es) (length done) m.0 →
    m ≡ (e.1, (step (world_after (world_at_gate g) done) e.1).reply)
first_made g caller done e es m at right =
    let is : e ≡ (caller, m.0) = some_is e (caller, m.0) (sym (seam done e es) ∙ at) in
    let note : m.0 ≡ e.1 = sym (ap (λ (x : Entry). x.1) is) in
    let before : take (length done) (done ++ e ∷ es) ≡ done = take-append_seam done (e ∷ es) in
    let start : World = opening g.opening.machine.past.config in
    let past : List Entry = g.opening.machine.past.history in
    let reply : m.1 ≡ (step (world_after (world_at_gate g) done) e.1).reply =
    right ∙ ap (λ (h : List Entry). (step (world_after start (past ++ h)) m.0).reply) before
    ∙ ap (λ (w : World). (step w m.0).reply) (world_after-append past start done)
    ∙ ap (λ (n : Note). (step (world_after (world_at_gate g) done) n).reply) note in
    ap₂ (λ (n : Note) (r : ReplyNote). (n, r)) note reply

-- The caller's calls, by whether it made the first entry.
made_if : (b : Bool) (g : CellGate) (caller : ℕ) (done : List Entry) (e : Entry) (es : List Entry)
    (made : List Made) →
    StandAt g caller (done ++ e ∷ es) (cond b (length done ∷ places caller (suc (length done)) es)
    (places caller (suc (length done)) es)) made →
    ((ms : List Made) → StandAt g caller (done ++ e ∷ es) (places caller (suc (length done)) es) ms →
    ms ≡ made_by caller (step (world_after (world_at_gate g) done) e.1).world es) →
    made ≡ cond b ((e.1, (step (world_after (world_at_gate g) done) e.1).reply)
    ∷ made_by caller (step (world_after (world_at_gate g) done) e.1).world es)
    (made_by caller (step (world_after (world_at_gate g) done) e.1).world es)
made_if true g caller done e es [] stand later = absurd stand
made_if true g caller done e es (m ∷ ms) stand later =
    ap₂ (λ (x : Made) (xs : List Made). x ∷ xs) (first_made g caller done e es m stand.0 stand.1)
    (later ms stand.2)
made_if false g caller done e es made stand later = later made stand

made_from : (rest done : List Entry) (g : CellGate) (caller : ℕ) (made : List Made) →
    StandAt g caller (done ++ rest) (places caller (length done) rest) made →
    made ≡ made_by caller (world_after (world_at_gate g) done) rest
unfolding made_by
made_from [] done g caller made stand = none_made g caller (done ++ []) made stand
made_from (e ∷ es) done g caller made stand =
    made_if (eqb e.0 caller) g caller done e es made stand
    (λ ms left. made_from es (done ++ e ∷ []) g caller ms
    (shifted (λ entries own. StandAt g caller entries own ms) caller done e es left)
    ∙ ap (λ (w : World). made_by caller w es) (after_one done (world_at_gate g) e))

-- The calls at the places of a caller are all calls that it made.
pub all_made : (entries : List Entry) (g : CellGate) (caller : ℕ) (made : List Made) →
    StandAt g caller entries (places_of caller entries) made → made ≡ made_by caller (world_at_gate g) entries
unfolding world_after
all_made entries g caller made stand = made_from entries [] g caller made stand

-- ---- the same for calls without replies

calls_longer : (caller : ℕ) (xs ys : List Entry) (own : List ℕ) (notes : List Note) → IsPrefix xs ys →
    StandsWithCalls caller xs own notes → StandsWithCalls caller ys own notes
calls_longer caller xs ys [] [] p calls = calls
calls_longer caller xs ys (place ∷ own) (note ∷ notes) p calls =
    (still_there xs ys place (caller, note) p calls.0, calls_longer caller xs ys own notes p calls.1)
calls_longer caller xs ys [] (note ∷ notes) p calls = absurd calls
calls_longer caller xs ys (place ∷ own) [] p calls = absurd calls

none_called : (caller : ℕ) (entries : List Entry) (notes : List Note) →
    StandsWithCalls caller entries [] notes → notes ≡ []
none_called caller entries [] calls = refl
none_called caller entries (note ∷ notes) calls = absurd calls

first_called : (caller : ℕ) (done : List Entry) (e : Entry) (es : List Entry) (note : Note) →
    slice_get (done ++ e ∷ es) (length done) ≡ Some (caller, note) → note ≡ e.1
first_called caller done e es note at = sym (ap (λ (x : Entry). x.1)
    (some_is e (caller, note) (sym (seam done e es) ∙ at)))

called_if : (b : Bool) (w : World) (caller : ℕ) (done : List Entry) (e : Entry) (es : List Entry)
    (notes : List Note) →
    StandsWithCalls caller (done ++ e ∷ es) (cond b (length done ∷ places caller (suc (length done)) es)
    (places caller (suc (length done)) es)) notes →
    ((ns : List Note) → StandsWithCalls caller (done ++ e ∷ es) (places caller (suc (length done)) es) ns →
    ns ≡ map (λ (m : Made). m.0) (made_by caller (step w e.1).world es)) →
    notes ≡ map (λ (m : Made). m.0) (cond b ((e.1, (step w e.1).reply) ∷ made_by caller (step w e.1).world es)
    (made_by caller (step w e.1).world es))
called_if true w caller done e es [] calls later = absurd calls
called_if true w caller done e es (note ∷ notes) calls later =
    ap₂ (λ (x : Note) (xs : List Note). x ∷ xs) (first_called caller done e es note calls.0)
    (later notes calls.1)
called_if false w caller done e es notes calls later = later notes calls

called_from : (rest done : List Entry) (w : World) (caller : ℕ) (notes : List Note) →
    StandsWithCalls caller (done ++ rest) (places caller (length done) rest) notes →
    notes ≡ map (λ (m : Made). m.0) (made_by caller w rest)
unfolding made_by
called_from [] done w caller notes calls = none_called caller (done ++ []) notes calls
called_from (e ∷ es) done w caller notes calls =
    called_if (eqb e.0 caller) w caller done e es notes calls
    (λ ns left. called_from es (done ++ e ∷ []) (step w e.1).world caller ns
    (shifted (λ entries own. StandsWithCalls caller entries own ns) caller done e es left))

-- The calls at the places of a caller, in the entries that a seat has seen, are all calls that it made.
pub all_called : (seen entries : List Entry) (w : World) (caller : ℕ) (notes : List Note) →
    IsPrefix seen entries → StandsWithCalls caller seen (places_of caller entries) notes →
    notes ≡ map (λ (m : Made). m.0) (made_by caller w entries)
all_called seen entries w caller notes p calls =
    called_from entries [] w caller notes (calls_longer caller seen entries
    (places_of caller entries) notes p calls)
