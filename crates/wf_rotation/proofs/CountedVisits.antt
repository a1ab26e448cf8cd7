-- The steps of a pick are the visits of the paper's loop, as far as the loop is run: by induction on the
-- visits.
use Rattle.std.proofs.Common.{◌≡◌, ℕ, suc, ◌+◌, ◌-◌, ◌<◌, Bool, List, length, Option, None, Some, option_map, refl, sym, ap, ◌∙◌, arith}
use Rattle.std.specs.Prelude.{ℤ}
use Rattle.std.proofs.Math.Path.{fun_ext}
use Rattle.std.proofs.lemmas.List.{get_or-set_same}
use Rattle.wf_def_rotation.specs.Rotation.{Rotation, no_keys}
use Rattle.wf_def_rotation.specs.Loop.{Visit, Empty, Wins, Again, Standing, onward, LoopEnds}
use Rattle.wf_rotation.specs.Lists.{lists_at}
use Rattle.wf_rotation.specs.Rotas.{Rotas, deficit_at, quantum_at, is_ready}
use Rattle.wf_rotation.specs.Visits.{standing_at, first_visit, IsOnward, HasVisited, IsSamePick}
use Rattle.wf_rotation.specs.Steps.{and_behind, visits_to_end, visits_within}

-- the number of visits since the start, none of which ended the loop
abbrev pub AreVisits : Rotas → List Bool → ℕ → Rotas → ℕ → Type 0
AreVisits start ready list v visits = (most : ℕ) →
    visits_within (visits + most) start ready list ≡ option_map (λ n. visits + n)
    (visits_within most v ready list)

unchanged : (o : Option ℕ) → o ≡ option_map (λ n. 0 + n) o
unchanged None = refl
unchanged (Some n) = ap Some (omega arith)

pub visits_first : (v : Rotas) (ready : List Bool) (list : ℕ) → AreVisits v ready list v 0
visits_first v ready list most =
    let same : 0 + most ≡ most = omega arith in
    rw same (unchanged (visits_within most v ready list))

none_within : (quantum : ℕ → ℕ) (ready : ℕ → Bool) (s : Standing) → visits_to_end quantum ready s 0 ≡ None
unfolding visits_to_end
none_within quantum ready s = refl

by_first : (v : Rotas) (ready : List Bool) (list most : ℕ) → visits_within (suc most) v ready list
    ≡ and_behind (first_visit v ready list) (visits_to_end (quantum_at v.quanta) (is_ready ready)
    (onward (standing_at v list) (first_visit v ready list)) most)
unfolding visits_to_end
by_first v ready list most = refl

goes_on : (t : Visit) (behind : Option ℕ) → IsOnward t → and_behind t behind ≡ option_map (λ n. n + 1) behind
goes_on Empty behind goes = absurd goes
goes_on (Wins key) behind goes = absurd goes
goes_on (Again lists deficit) behind goes = refl

ends_here : (t : Visit) (winner : Option ℕ) (behind : Option ℕ) → LoopEnds t winner →
    and_behind t behind ≡ Some 1
ends_here Empty winner behind ends = refl
ends_here (Wins key) winner behind ends = refl
ends_here (Again lists deficit) winner behind ends = absurd ends

one_more : (visits : ℕ) (behind : Option ℕ) →
    option_map (λ n. visits + n) (option_map (λ n. n + 1) behind) ≡ option_map (λ n. visits + 1 + n) behind
one_more visits None = refl
one_more visits (Some n) = ap Some (omega arith)

-- a visit that goes on is one more
pub visits_after : (start : Rotas) (ready : List Bool) (list : ℕ) (u v : Rotas) (visits : ℕ) →
    list < length start.lists → IsSamePick start ready list u →
    HasVisited u list (first_visit u ready list) v → IsOnward (first_visit u ready list) →
    AreVisits start ready list u visits → AreVisits start ready list v (visits + 1)
visits_after start ready list u v visits low same visited goes were most =
    let next : Standing = onward (standing_at u list) (first_visit u ready list) in
    let here : lists_at v.lists list ≡ next.lists =
    ap (λ (all : List Rotation). lists_at all list) visited.lists
    ∙ get_or-set_same u.lists list next.lists no_keys (omega (arith, low, same.there)) in
    let there : visits_within most v ready list
    ≡ visits_to_end (quantum_at u.quanta) (is_ready ready) next most =
    ap (λ (quanta : List ℕ). visits_to_end (quantum_at quanta) (is_ready ready) (standing_at v list) most)
    visited.quanta
    ∙ ap (λ (r : Rotation). visits_to_end (quantum_at u.quanta) (is_ready ready)
    (record { lists = r; deficit = deficit_at v.deficits }) most) here
    ∙ ap (λ (deficit : ℕ → ℤ). visits_to_end (quantum_at u.quanta) (is_ready ready)
    (record { lists = next.lists; deficit = deficit }) most) (fun_ext visited.deficits) in
    let count : visits + 1 + most ≡ visits + suc most = omega arith in
    ap (λ (n : ℕ). visits_within n start ready list) count ∙ were (suc most)
    ∙ ap (option_map (λ n. visits + n)) (by_first u ready list most
    ∙ goes_on (first_visit u ready list) _ goes ∙ ap (option_map (λ n. n + 1)) (sym there))
    ∙ one_more visits (visits_within most v ready list)

-- with the visit that ends the loop they are all
pub visits_ended : (start : Rotas) (ready : List Bool) (list : ℕ) (u : Rotas) (visits most : ℕ)
    (winner : Option ℕ) → AreVisits start ready list u visits → LoopEnds (first_visit u ready list) winner →
    visits < most → visits_within most start ready list ≡ Some (visits + 1)
visits_ended start ready list u visits most winner were ends fewer =
    let rest : ℕ = most - visits - 1 in
    let count : most ≡ visits + suc rest = omega arith in
    ap (λ (n : ℕ). visits_within n start ready list) count ∙ were (suc rest)
    ∙ ap (option_map (λ n. visits + n)) (by_first u ready list rest ∙ ends_here (first_visit u ready list)
    winner _ ends)

-- the loop takes more visits than those that have not ended it
pub visits_left : (start : Rotas) (ready : List Bool) (list : ℕ) (u : Rotas) (visits : ℕ) →
    AreVisits start ready list u visits → visits_within visits start ready list ≡ None
visits_left start ready list u visits were =
    let count : visits ≡ visits + 0 = omega arith in
    ap (λ (n : ℕ). visits_within n start ready list) count ∙ were 0
    ∙ ap (option_map (λ n. visits + n))
    (none_within (quantum_at u.quanta) (is_ready ready) (standing_at u list))
