-- Proves that scheduler and world still agree after a station gets another weight: its quantum is another
-- one, and each of its deficits is lowered to as much on both sides.
use Rattle.std.proofs.Common.{◌≡◌, refl, ap, sym, ◌∙◌, arith, ℕ, ◌+◌, ◌-◌, ◌*◌, ◌<◌, min, int_le, ℤ, pos, ◌-ℤ◌, Bool, true, false, if◌then◌else◌, is_some, Some, option_map, length-set}
use Rattle.std.proofs.lemmas.Int.{ints}
use Rattle.std.proofs.lemmas.List.{get_or-set_same, get_or-set_other}
use Rattle.wf_frame.specs.declared.classes.Class.{Class}
use Rattle.wf_frame.specs.declared.classes.Class.TheVariants.{Bk, Be, Vi, Vo}
use Rattle.wf_frame.specs.Classes.{class_number, all_classes}
use Rattle.wf_def_world.specs.World.{World}
use Rattle.wf_def_world.specs.Exchanges.{longest_computed}
use Rattle.wf_def_world.specs.Step.{lesser_of, weight_outcome}
use Rattle.wf_law_runs.proofs.Deficits.Books.{Account, Books, books}
use Rattle.wf_law_runs.proofs.Deficits.BookSteps.{reweighed, with_weight as with_account_weighed, books_weighed}
use Rattle.wf_rotation.specs.Rotas.{deficit_at, quantum_at, lesser}
use Rattle.wf_sched.specs.ClassRotas.{ClassRota, SchedValue, IsSchedulerSized, class_rota, deficit, quantum_of, with_quantum}
use Rattle.wf_sched_refines.specs.Standing.{SchedulerStandsFor, everywhere, with_deficit_lowered, with_each_lowered, with_weight, uncovered_air}
use Rattle.wf_sched_refines.proofs.Changes.{turns_everywhere, sized_everywhere, sized-deficit, deficit_same, deficit_class, quantum_deficit}
use Rattle.wf_sched_refines.proofs.Stands.{Stands, pending_of, pending_books, standing_of, to_books, with_books, if_map, some_map, IsOtherwise, stands_account}
use Rattle.wf_sched_refines.proofs.Charges.{otherwise}

-- ---- one change of a station after another

otherwise_then : (s : ℕ) (v u x : SchedValue) → IsOtherwise s v u → IsOtherwise s u x → IsOtherwise s v x
otherwise_then s v u x h k = record {
  sized = k.sized;
  stations = k.stations ∙ h.stations;
  quantum = k.quantum ∙ h.quantum;
  rotations = λ c. k.rotations c ∙ h.rotations c;
  deficits = λ y other c. k.deficits y other c ∙ h.deficits y other c;
  quanta = λ y other c. k.quanta y other c ∙ h.quanta y other c;
}

-- ---- another quantum

module _ (v : SchedValue) (s q : ℕ) (sized : IsSchedulerSized v) where
  weighted_deficit : (y : ℕ) (c : Class) → deficit (everywhere (with_quantum s q) v) c y ≡ deficit v c y
  weighted_deficit y c = ap (λ (t : ClassRota). deficit_at t.deficits y)
      (turns_everywhere (with_quantum s q) v sized c)

  weighted_quantum : s < v.stations → (c : Class) → quantum_of (everywhere (with_quantum s q) v) c s ≡ q
  weighted_quantum low c = ap (λ (t : ClassRota). quantum_at t.quanta s)
      (turns_everywhere (with_quantum s q) v sized c)
      ∙ get_or-set_same (class_rota v c).quanta s q 1 (omega (arith, sized.quanta c))

  weighted_otherwise : IsOtherwise s v (everywhere (with_quantum s q) v)
  weighted_otherwise = record {
    sized = sized_everywhere (with_quantum s q) v sized (λ t. refl) (λ t. length-set t.quanta s q);
    stations = refl;
    quantum = refl;
    rotations = λ c. ap (λ (t : ClassRota). t.rotation) (turns_everywhere (with_quantum s q) v sized c);
    deficits = λ y other c. weighted_deficit y c;
    quanta = λ y other c. ap (λ (t : ClassRota). quantum_at t.quanta y)
        (turns_everywhere (with_quantum s q) v sized c)
        ∙ get_or-set_other (class_rota v c).quanta s y q 1 other;
  }

-- ---- the deficits are lowered, class by class

module _ (q : ℕ) (uncovered : Class → ℕ) (s : ℕ) where
  abbrev most : Class → ℤ
  most c = pos q -ℤ pos (uncovered c)

  abbrev lowered_in : SchedValue → Class → SchedValue
  lowered_in v c = with_deficit_lowered v s c (most c)

  own : (v : SchedValue) (c : Class) → IsSchedulerSized v → s < v.stations →
      deficit (lowered_in v c) c s ≡ lesser (deficit v c s) (most c)
  own v c sized low = deficit_same v c s _ sized low

  far : (v : SchedValue) (c d : Class) → (class_number d ≡ class_number c → ⊥) →
      deficit (lowered_in v c) d s ≡ deficit v d s
  far v c d other = deficit_class v c d s s _ other

  module _ (v : SchedValue) (sized : IsSchedulerSized v) where
    abbrev one : SchedValue
    one = lowered_in v Bk

    abbrev two : SchedValue
    two = lowered_in one Be

    abbrev three : SchedValue
    three = lowered_in two Vi

    sized_one : IsSchedulerSized one
    sized_one = sized-deficit v Bk s _ sized

    sized_two : IsSchedulerSized two
    sized_two = sized-deficit one Be s _ sized_one

    sized_three : IsSchedulerSized three
    sized_three = sized-deficit two Vi s _ sized_two

    all_otherwise : IsOtherwise s v (with_each_lowered q uncovered s all_classes v)
    all_otherwise = otherwise_then s v one _ (otherwise v Bk s _ sized)
        (otherwise_then s one two _ (otherwise one Be s _ sized_one)
        (otherwise_then s two three _ (otherwise two Vi s _ sized_two) (otherwise three Vo s _ sized_three)))

    all_quanta : (c : Class) → quantum_of (with_each_lowered q uncovered s all_classes v) c s
        ≡ quantum_of v c s
    all_quanta c = quantum_deficit three Vo s _ sized_three s c ∙ quantum_deficit two Vi s _ sized_two s c
        ∙ quantum_deficit one Be s _ sized_one s c ∙ quantum_deficit v Bk s _ sized s c

    all_lowered : s < v.stations → (c : Class) →
        deficit (with_each_lowered q uncovered s all_classes v) c s ≡ lesser (deficit v c s) (most c)
    all_lowered low Bk = far three Vo Bk (λ e. absurd (cc e)) ∙ far two Vi Bk (λ e. absurd (cc e))
        ∙ far one Be Bk (λ e. absurd (cc e)) ∙ own v Bk sized low
    all_lowered low Be = far three Vo Be (λ e. absurd (cc e)) ∙ far two Vi Be (λ e. absurd (cc e))
        ∙ own one Be sized_one low ∙ ap (λ (z : ℤ). lesser z (most Be)) (far v Bk Be (λ e. absurd (cc e)))
    all_lowered low Vi = far three Vo Vi (λ e. absurd (cc e)) ∙ own two Vi sized_two low
        ∙ ap (λ (z : ℤ). lesser z (most Vi))
        (far one Be Vi (λ e. absurd (cc e)) ∙ far v Bk Vi (λ e. absurd (cc e)))
    all_lowered low Vo = own three Vo sized_three low ∙ ap (λ (z : ℤ). lesser z (most Vo))
        (far two Vi Vo (λ e. absurd (cc e)) ∙ far one Be Vo (λ e. absurd (cc e))
        ∙ far v Bk Vo (λ e. absurd (cc e)))

-- ---- both sides

-- with the airtime in flight p, of which k may be covered, both deficits are lowered to as much
lowers : (d : ℤ) (q p k : ℕ) → lesser (d -ℤ pos p) (pos q -ℤ pos (p - k)) ≡ lesser_of (q + min p k) d -ℤ pos p
lowers d q p k = go (int_le (d -ℤ pos p) (pos q -ℤ pos (p - k))) refl (int_le d (pos (q + min p k))) refl
  where
    go : (a : Bool) → int_le (d -ℤ pos p) (pos q -ℤ pos (p - k)) ≡ a →
        (b : Bool) → int_le d (pos (q + min p k)) ≡ b →
        (if a then d -ℤ pos p else pos q -ℤ pos (p - k)) ≡ (if b then d else pos (q + min p k)) -ℤ pos p
    go true e true h = refl
    go true e false h = omega (arith, ints)
    go false e true h = omega (arith, ints)
    go false e false h = omega (arith, ints)

module _ (v : SchedValue) (b : Books) (s g q : ℕ) (uncovered : Class → ℕ) (h : Stands v b)
    (is_quantum : q ≡ b.config.quantum * g)
    (is_uncovered : (c : Class) → uncovered c
    ≡ pending_of b s c - (b.config.inflight - 1) * longest_computed b.config c) where
  abbrev after : SchedValue
  after = with_each_lowered q uncovered s all_classes (everywhere (with_quantum s q) v)

  after_otherwise : IsOtherwise s v after
  after_otherwise = otherwise_then s v (everywhere (with_quantum s q) v) after
      (weighted_otherwise v s q h.sized)
      (all_otherwise q uncovered s (everywhere (with_quantum s q) v) (weighted_otherwise v s q h.sized).sized)

  low : (a : Account) → b.accounts s ≡ Some a → s < v.stations
  low a is = omega (arith, h.live s (ap is_some is), h.stations)

  lowered_deficit : (c : Class) (d : ℤ) → s < v.stations → deficit v c s ≡ d -ℤ pos (pending_of b s c) →
      deficit after c s ≡ lesser_of (b.config.quantum * g
      + min (pending_of b s c) ((b.config.inflight - 1) * longest_computed b.config c)) d
      -ℤ pos (pending_of b s c)
  lowered_deficit c d below e =
      all_lowered q uncovered s (everywhere (with_quantum s q) v) (weighted_otherwise v s q h.sized).sized
      below c
      ∙ ap (λ (z : ℤ). lesser z (pos q -ℤ pos (uncovered c))) (weighted_deficit v s q h.sized s c ∙ e)
      ∙ ap (λ (n : ℕ). lesser (d -ℤ pos (pending_of b s c)) (pos n -ℤ pos (uncovered c))) is_quantum
      ∙ ap (λ (n : ℕ). lesser (d -ℤ pos (pending_of b s c)) (pos (b.config.quantum * g) -ℤ pos n))
      (is_uncovered c)
      ∙ lowers d (b.config.quantum * g) (pending_of b s c)
      ((b.config.inflight - 1) * longest_computed b.config c)

  stands_weighed : Stands after (with_account_weighed b s g)
  stands_weighed = stands_account v after b s
      (option_map (reweighed b.config b.opened s g) (b.accounts s)) h after_otherwise (record {
        deficits = λ c. if_map (λ a. deficit v c s ≡ standing_of b s c a)
            (λ a. deficit after c s ≡ standing_of b s c a) (reweighed b.config b.opened s g) (b.accounts s)
            (h.deficits s c) (λ a is e. lowered_deficit c (a.shares c).deficit (low a is) e);
        quanta = λ c. if_map (λ a. quantum_of v c s ≡ b.config.quantum * a.weight)
            (λ a. quantum_of after c s ≡ b.config.quantum * a.weight) (reweighed b.config b.opened s g)
            (b.accounts s) (h.quanta s c)
            (λ a is e. all_quanta q uncovered s (everywhere (with_quantum s q) v)
            (weighted_otherwise v s q h.sized).sized c
            ∙ weighted_quantum v s q h.sized (low a is) c ∙ is_quantum);
        listed = λ c stands. some_map (reweighed b.config b.opened s g) (b.accounts s) ∙ h.listed c s stands;
        live = λ is. h.live s (sym (some_map (reweighed b.config b.opened s g) (b.accounts s)) ∙ is);
      })

pub weight_stands : (v : SchedValue) (w : World) (s weight : ℕ) → SchedulerStandsFor v w →
    SchedulerStandsFor (with_weight (uncovered_air w s) s weight v) (weight_outcome w s weight).world
weight_stands v w s weight h = with_books _ _ _ (books_weighed w s weight)
    (stands_weighed v (books w) s weight (v.quantum * weight) (uncovered_air w s) (to_books v w h)
    (ap (λ (q : ℕ). q * weight) h.quantum)
    (λ c. ap (λ (n : ℕ). n - (w.config.inflight - 1) * longest_computed w.config c)
    (sym (pending_books w s c))))
