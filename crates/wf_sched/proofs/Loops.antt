-- A loop that changes the rotation of each class, by induction on the classes that are done.
use Rattle.std.proofs.Common.{◌≡◌, refl, ap, sym, ◌∙◌, ℕ, ◌+◌, ◌<◌, ◌≤◌, List, [], ◌∷◌, length, get_or, set, map, inl, inr, arith, length-set}
use Rattle.std.specs.Prelude.{pos}
use Rattle.std.proofs.lemmas.List.{ext_get_or, get_or-map, length-map, get_or-set_same, get_or-set_other}
use Rattle.std.proofs.lemmas.List.Elements.{All-map}
use Rattle.std.proofs.lemmas.Bool.{cases_eq}
use Rattle.wf_def_rotation.specs.Rotation.{Rotation, without_key}
use Rattle.wf_rotation.specs.Rotas.{Rotas}
use Rattle.wf_rotation.specs.Lists.{lists_at}
use Rattle.wf_sched.specs.ClassRotas.{ClassRota, class_rota_of, after_station_left, IsOfStations, AreRotasKept}

abbrev pub left_rota : ℕ → Rotas → Rotas
left_rota station r = record {
  lists = map (λ x. without_key x station) r.lists;
  deficits = r.deficits;
  quanta = r.quanta;
}

abbrev pub joined_rota : ℕ → ℕ → Rotas → Rotas
joined_rota station quantum r = record {
  lists = r.lists;
  deficits = set r.deficits station (pos quantum);
  quanta = set r.quanta station quantum;
}

abbrev pub weighted_rota : ℕ → ℕ → Rotas → Rotas
weighted_rota station quantum r = record {
  lists = r.lists;
  deficits = r.deficits;
  quanta = set r.quanta station quantum;
}

abbrev pub no_rota : Rotas
no_rota = record { lists = []; deficits = []; quanta = [] }

-- the first count rotations are changed, and the others are not
pub record IsDone (change : Rotas → Rotas) (old : List Rotas) (count : ℕ) (new : List Rotas) : Type 0 where
  pub done : (i : ℕ) → i < count → get_or new i no_rota ≡ change (get_or old i no_rota)
  pub rest : (i : ℕ) → count ≤ i → get_or new i no_rota ≡ get_or old i no_rota
  pub same : length new ≡ length old

module _ (change : Rotas → Rotas) where
  pub none_done : (old : List Rotas) → IsDone change old 0 old
  none_done old = record { done = λ i low. absurd (omega arith); rest = λ i low. refl; same = refl }

  pub one_done : (old new : List Rotas) (n : ℕ) (r : Rotas) → IsDone change old n new → n < length new →
      r ≡ change (get_or old n no_rota) → IsDone change old (n + 1) (set new n r)
  one_done old new n r so low is = record {
    done = λ i less. elim (cases_eq i n) [
      | inl e ↦ ap (λ (k : ℕ). get_or (set new n r) k no_rota) e ∙ get_or-set_same new n r no_rota low ∙ is
          ∙ ap (λ (k : ℕ). change (get_or old k no_rota)) (sym e)
      | inr other ↦ get_or-set_other new n i r no_rota other ∙ so.done i (omega arith)
    ];
    rest = λ i past. get_or-set_other new n i r no_rota (λ e. absurd (omega arith)) ∙ so.rest i (omega arith);
    same = length-set new n r ∙ so.same;
  }

  pub all_done : (old new : List Rotas) (n : ℕ) → IsDone change old n new → length old ≤ n →
      new ≡ map change old
  all_done old new n so all = ext_get_or no_rota new (map change old) (so.same ∙ sym (length-map old change))
      (λ i low. so.done i (omega (arith, so.same)) ∙ sym
      (get_or-map change old i no_rota no_rota (omega (arith, so.same))))

  pub all_kept : (rotas : List Rotas) (stations quantum : ℕ) →
      ((r : Rotas) → IsOfStations stations r → IsOfStations stations (change r)) →
      AreRotasKept rotas stations quantum → AreRotasKept (map change rotas) stations quantum
  all_kept rotas stations quantum keeps kept = record {
    four = length-map rotas change ∙ kept.four;
    each = All-map (IsOfStations stations) change rotas
        (λ k d low. keeps (get_or rotas k d) (kept.each k d low));
    some = kept.some;
    few = kept.few;
    some_quantum = kept.some_quantum;
    most_quantum = kept.most_quantum;
  }

  pub all_turned : (turn : ClassRota → ClassRota) →
      ((r : Rotas) → class_rota_of (change r) ≡ turn (class_rota_of r)) → (rotas : List Rotas) →
      map class_rota_of (map change rotas) ≡ map turn (map class_rota_of rotas)
  all_turned turn one [] = refl
  all_turned turn one (r ∷ rotas) = ap (λ (t : ClassRota). t ∷ map class_rota_of (map change rotas)) (one r)
      ∙ ap (λ (ts : List ClassRota). turn (class_rota_of r) ∷ ts) (all_turned turn one rotas)

-- ---- a station leaves

without_first : (ls : List Rotation) (station : ℕ) →
    lists_at (map (λ x. without_key x station) ls) 0 ≡ without_key (lists_at ls 0) station
without_first [] station = refl
without_first (x ∷ xs) station = refl

pub left_turns : (station : ℕ) (r : Rotas) → class_rota_of (left_rota station r)
    ≡ after_station_left station (class_rota_of r)
left_turns station r = ap (λ (x : Rotation). let t : ClassRota =
    record { rotation = x; deficits = r.deficits; quanta = r.quanta } in t) (without_first r.lists station)

pub left_kept : (stations station : ℕ) (r : Rotas) → IsOfStations stations r →
    IsOfStations stations (left_rota station r)
left_kept stations station r kept = record {
  one_list =
      length-map r.lists (λ (x : Rotation). without_key x station) ∙ kept.one_list;
  deficit_keys =
      kept.deficit_keys;
  quanta_keys = kept.quanta_keys;
}

-- ---- a station joins

pub joined_kept : (stations station quantum : ℕ) (r : Rotas) → IsOfStations stations r →
    IsOfStations stations (joined_rota station quantum r)
joined_kept stations station quantum r kept =
    record {
      one_list = kept.one_list;
      deficit_keys =
          length-set r.deficits station (pos quantum) ∙ kept.deficit_keys;
      quanta_keys =
          length-set r.quanta station quantum ∙ kept.quanta_keys;
    }

-- ---- a station gets another quantum

pub weighted_kept : (stations station quantum : ℕ) (r : Rotas) → IsOfStations stations r →
    IsOfStations stations (weighted_rota station quantum r)
weighted_kept stations station quantum r kept =
    record {
      one_list = kept.one_list;
      deficit_keys = kept.deficit_keys;
      quanta_keys =
          length-set r.quanta station quantum ∙ kept.quanta_keys;
    }
