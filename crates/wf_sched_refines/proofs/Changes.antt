-- Computes the lists, deficits and quanta of a changed scheduler, by class and station.
use Rattle.std.proofs.Common.{◌≡◌, refl, ap, sym, ◌∙◌, subst, arith, ℕ, ◌<◌, ℤ, pos, length, inl, inr, length-set}
use Rattle.std.proofs.lemmas.List.{get_or-map, length-map, get_or-set_same, get_or-set_other}
use Rattle.wf_frame.specs.declared.classes.Class.{Class}
use Rattle.wf_frame.specs.Classes.{class_number}
use Rattle.wf_law_runs.proofs.Deficits.Books.{cases_class}
use Rattle.wf_rotation.specs.Rotas.{deficit_at, quantum_at}
use Rattle.wf_sched.specs.ClassRotas.{ClassRota, SchedValue, no_class_rota, class_rota, deficit, quantum_of, with_class_rota, with_deficit, IsSchedulerSized}
use Rattle.wf_sched.proofs.Views.{class_below, turns-with_same, turns-with_other}
use Rattle.wf_sched_refines.specs.Standing.{everywhere}

-- a property of each class still holds after one class is changed, if it holds for its new value
pub each_with : (P : Class → ClassRota → Type 0) (v : SchedValue) (c : Class) (t : ClassRota) →
    length v.classes ≡ 4 → ((d : Class) → P d (class_rota v d)) → P c t → (d : Class) →
    P d (class_rota (with_class_rota v c t) d)
each_with P v c t four h p d = elim (cases_class d c) [
  | inl e ↦ subst (λ (z : Class). P z (class_rota (with_class_rota v c t) z)) (sym e)
      (subst (P c) (sym (turns-with_same v c t four)) p)
  | inr other ↦ subst (P d) (sym (turns-with_other v c d t other)) (h d)
]

pub sized_with : (v : SchedValue) (c : Class) (t : ClassRota) → IsSchedulerSized v →
    length t.deficits ≡ v.stations → length t.quanta ≡ v.stations → IsSchedulerSized (with_class_rota v c t)
sized_with v c t sized deficits quanta = record {
  four = length-set v.classes (class_number c) t ∙ sized.four;
  deficits = each_with (λ d u. length u.deficits ≡ v.stations) v c t sized.four sized.deficits deficits;
  quanta = each_with (λ d u. length u.quanta ≡ v.stations) v c t sized.four sized.quanta quanta;
}

-- ---- one deficit

pub sized-deficit : (v : SchedValue) (c : Class) (s : ℕ) (n : ℤ) → IsSchedulerSized v →
    IsSchedulerSized (with_deficit v c s n)
sized-deficit v c s n sized = sized_with v c _ sized
    (length-set (class_rota v c).deficits s n ∙ sized.deficits c) (sized.quanta c)

pub deficit_same : (v : SchedValue) (c : Class) (s : ℕ) (n : ℤ) → IsSchedulerSized v → s < v.stations →
    deficit (with_deficit v c s n) c s ≡ n
deficit_same v c s n sized low =
    ap (λ (t : ClassRota). deficit_at t.deficits s) (turns-with_same v c _ sized.four)
    ∙ get_or-set_same (class_rota v c).deficits s n (pos 0) (omega (arith, sized.deficits c))

pub deficit_class : (v : SchedValue) (c d : Class) (s y : ℕ) (n : ℤ) → (class_number d ≡ class_number c → ⊥) →
    deficit (with_deficit v c s n) d y ≡ deficit v d y
deficit_class v c d s y n other = ap (λ (t : ClassRota). deficit_at t.deficits y)
    (turns-with_other v c d _ other)

pub deficit_station : (v : SchedValue) (c : Class) (s : ℕ) (n : ℤ) → IsSchedulerSized v → (y : ℕ) →
    (y ≡ s → ⊥) → (d : Class) → deficit (with_deficit v c s n) d y ≡ deficit v d y
deficit_station v c s n sized y other = each_with
    (λ d t. deficit_at t.deficits y ≡ deficit v d y) v c _ sized.four (λ d. refl)
    (get_or-set_other (class_rota v c).deficits s y n (pos 0) other)

pub quantum_deficit : (v : SchedValue) (c : Class) (s : ℕ) (n : ℤ) → IsSchedulerSized v →
    (y : ℕ) (d : Class) →
    quantum_of (with_deficit v c s n) d y ≡ quantum_of v d y
quantum_deficit v c s n sized y = each_with (λ d t. quantum_at t.quanta y ≡ quantum_of v d y) v c _ sized.four
    (λ d. refl) refl

-- ---- every class

pub turns_everywhere : (f : ClassRota → ClassRota) (v : SchedValue) → IsSchedulerSized v → (c : Class) →
    class_rota (everywhere f v) c ≡ f (class_rota v c)
turns_everywhere f v sized c = get_or-map f v.classes (class_number c) no_class_rota no_class_rota
    (omega (arith, class_below c, sized.four))

pub sized_everywhere : (f : ClassRota → ClassRota) (v : SchedValue) → IsSchedulerSized v →
    ((t : ClassRota) → length (f t).deficits ≡ length t.deficits) →
    ((t : ClassRota) → length (f t).quanta ≡ length t.quanta) → IsSchedulerSized (everywhere f v)
sized_everywhere f v sized deficits quanta = record {
  four = length-map v.classes f ∙ sized.four;
  deficits = λ c. ap (λ (t : ClassRota). length t.deficits) (turns_everywhere f v sized c)
      ∙ deficits (class_rota v c) ∙ sized.deficits c;
  quanta = λ c. ap (λ (t : ClassRota). length t.quanta) (turns_everywhere f v sized c)
      ∙ quanta (class_rota v c) ∙ sized.quanta c;
}
