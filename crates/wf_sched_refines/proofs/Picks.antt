-- Proves that the pick of a class is the same in scheduler and world, and that they still agree after it.
use Rattle.std.proofs.Common.{◌≡◌, refl, ap, ap₂, sym, ◌∙◌, subst, arith, ℕ, ◌*◌, ◌<◌, ◌≤◌, ℤ, pos, ◌+ℤ◌, ◌-ℤ◌, Bool, true, List, length, is_some, inl, inr}
use Rattle.std.proofs.lemmas.Int.{ints}
use Rattle.wf_frame.specs.declared.classes.Class.{Class}
use Rattle.wf_frame.specs.Classes.{class_number}
use Rattle.wf_def_rotation.specs.Rotation.{Rotation, in_order, need_of, Picked, pick}
use Rattle.wf_def_world.specs.World.{World, Share, rotation}
use Rattle.wf_def_world.specs.CanSend.{is_ready}
use Rattle.wf_def_world.specs.Exchanges.{station_need, picked_station, after_pick}
use Rattle.wf_def_lists.specs.Lists.{on}
use Rattle.wf_law_rules.proofs.Lemmas.Rotations.{pick_on}
use Rattle.wf_law_runs.proofs.Deficits.Books.{cases_class, updc_same, updc_other, Account, Books, books}
use Rattle.wf_law_runs.proofs.Deficits.BookSteps.{pay_share, paid, after, books_after_pick}
use Rattle.wf_law_rules.specs.Renamed.{IsSame}
use Rattle.wf_law_rules.proofs.Lemmas.Picks.{same_pick}
use Rattle.wf_rotation.specs.Rotas.{deficit_at, quantum_at, is_ready as entry}
use Rattle.wf_sched.specs.ClassRotas.{ClassRota, SchedValue, class_rota, deficit, quantum_of, need, pick_of_class, with_class_rota, IsAfterPick}
use Rattle.wf_sched.proofs.Views.{turns-with_same, turns-with_other}
use Rattle.wf_sched_refines.specs.Standing.{SchedulerStandsFor, TellsReady}
use Rattle.wf_sched_refines.proofs.Quanta.{gets_once}
use Rattle.wf_sched_refines.proofs.Changes.{each_with, sized_with}
use Rattle.wf_sched_refines.proofs.Stands.{Stands, pending_of, standing_of, to_books, with_books, if_map, if_both, some_map, each_other_class, rotations_with}

-- a list that is right for each station is right for the listed ones
pub tells_listed : (v : SchedValue) (w : World) (c : Class) (ready : List Bool) → SchedulerStandsFor v w →
    ((s : ℕ) → s < w.config.stations → entry ready s ≡ is_ready w c s) → TellsReady w c ready
tells_listed v w c ready h right s here = right s (h.live s (h.listed s c here))

-- ---- the same winner, lists and quanta

pub pick_same : (v : SchedValue) (w : World) (c : Class) (ready : List Bool) → SchedulerStandsFor v w →
    TellsReady w c ready → IsSame (picked_station w c) (pick_of_class v c ready)
pick_same v w c ready h tells = subst (λ (r : Rotation).
    IsSame (picked_station w c) (pick (need v c) (entry ready) r)) (sym (h.rotations c))
    (same_pick (rotation w c) (station_need w c) (need v c) (is_ready w c) (entry ready) (record {
      needs = λ s here. ap₂ need_of (h.quanta s c (h.listed s c here)) (h.deficits s c (h.listed s c here));
      readiness = tells;
    }))

-- ---- the deficits

-- with a higher deficit the standing is as much higher
rises : (d : ℤ) (n m : ℕ) → (d -ℤ pos n) +ℤ pos m ≡ (d +ℤ pos m) -ℤ pos n
rises d n m = omega (arith, ints)

module _ (v : SchedValue) (b : Books) (c : Class) (t : ClassRota) (p q : Picked) (h : Stands v b)
    (same : IsSame p q) (turned : IsAfterPick (class_rota v c) q t) where
  quanta_stay : (y : ℕ) (d : Class) → quantum_of (with_class_rota v c t) d y ≡ quantum_of v d y
  quanta_stay y = each_with (λ d u. quantum_at u.quanta y ≡ quantum_of v d y) v c t h.sized.four (λ d. refl)
      (ap (λ (ns : List ℕ). quantum_at ns y) turned.quanta)

  module _ (n y : ℕ) (is : n ≡ p.quanta y) (a : Account) (d : Class) where
    paid_here : deficit v c y ≡ standing_of b y c a → quantum_of v c y ≡ b.config.quantum * a.weight →
        deficit (with_class_rota v c t) c y ≡ standing_of b y c (paid b.config.quantum c n a)
    paid_here e k =
        ap (λ (u : ClassRota). deficit_at u.deficits y) (turns-with_same v c t h.sized.four)
        ∙ turned.deficits y
        ∙ ap₂ (λ (x : ℤ) (m : ℕ). x +ℤ pos m) e (ap₂ (λ (m z : ℕ). m * z) (same.quanta y ∙ sym is) k)
        ∙ rises (a.shares c).deficit (pending_of b y c) (n * (b.config.quantum * a.weight))
        ∙ ap (λ (x : Share). x.deficit -ℤ pos (pending_of b y c)) (sym (updc_same a.shares c
        (pay_share (b.config.quantum * a.weight) n (a.shares c))))

    paid_there : (class_number d ≡ class_number c → ⊥) → deficit v d y ≡ standing_of b y d a →
        deficit (with_class_rota v c t) d y ≡ standing_of b y d (paid b.config.quantum c n a)
    paid_there other e =
        ap (λ (u : ClassRota). deficit_at u.deficits y) (turns-with_other v c d t other) ∙ e
        ∙ ap (λ (x : Share). x.deficit -ℤ pos (pending_of b y d)) (sym (updc_other a.shares c d
        (pay_share (b.config.quantum * a.weight) n (a.shares c)) other))

    paid_each : (deficit v d y ≡ standing_of b y d a) × (quantum_of v d y ≡ b.config.quantum * a.weight) →
        deficit (with_class_rota v c t) d y ≡ standing_of b y d (paid b.config.quantum c n a)
    paid_each k = elim (cases_class d c) [
      | inl here ↦ subst (λ (z : Class). deficit (with_class_rota v c t) z y
          ≡ standing_of b y z (paid b.config.quantum c n a)) (sym here)
          (subst (λ (z : Class). (deficit v z y ≡ standing_of b y z a) ×
          (quantum_of v z y ≡ b.config.quantum * a.weight) →
          deficit (with_class_rota v c t) c y ≡ standing_of b y c (paid b.config.quantum c n a))
          (sym here) (λ m. paid_here m.0 m.1) k)
      | inr other ↦ paid_there other k.0
    ]

  stands_after : ((y : ℕ) → on (in_order p.lists) y ≤ on (in_order (b.rotations c)) y) →
      ((y : ℕ) → on (in_order (b.rotations c)) y * p.quanta y ≡ p.quanta y) →
      Stands (with_class_rota v c t) (after b c p)
  stands_after fewer once = record {
    sized = sized_with v c t h.sized (turned.stations ∙ h.sized.deficits c)
        (ap (λ (ns : List ℕ). length ns) turned.quanta ∙ h.sized.quanta c);
    stations = h.stations;
    quantum = h.quantum;
    rotations = rotations_with v b c t p.lists h.sized.four h.rotations (turned.rotation ∙ same.lists);
    deficits = λ y d. if_map (λ a. (deficit v d y ≡ standing_of b y d a) ×
        (quantum_of v d y ≡ b.config.quantum * a.weight))
        (λ a. deficit (with_class_rota v c t) d y ≡ standing_of b y d a)
        (paid b.config.quantum c (on (in_order (b.rotations c)) y * p.quanta y)) (b.accounts y)
        (if_both (λ a. deficit v d y ≡ standing_of b y d a)
        (λ a. quantum_of v d y ≡ b.config.quantum * a.weight)
        (λ a. (deficit v d y ≡ standing_of b y d a) × (quantum_of v d y ≡ b.config.quantum * a.weight))
        (b.accounts y) (h.deficits y d) (h.quanta y d) (λ a e k. (e, k)))
        (λ a _ k. paid_each _ y (once y) a d k);
    quanta = λ y d. if_map (λ a. quantum_of v d y ≡ b.config.quantum * a.weight)
        (λ a. quantum_of (with_class_rota v c t) d y ≡ b.config.quantum * a.weight)
        (paid b.config.quantum c (on (in_order (b.rotations c)) y * p.quanta y)) (b.accounts y) (h.quanta y d)
        (λ a _ e. quanta_stay y d ∙ e);
    once = each_other_class (λ z x. (y : ℕ) → on (in_order x) y ≤ 1) b.rotations c p.lists (λ z _. h.once z)
        (λ y. omega (arith, fewer y, h.once c y));
    listed = each_other_class (λ z x. (y : ℕ) → 0 < on (in_order x) y →
        is_some ((after b c p).accounts y) ≡ true) b.rotations c p.lists
        (λ z _ y stands. some_map _ (b.accounts y) ∙ h.listed z y stands)
        (λ y stands. some_map _ (b.accounts y) ∙ h.listed c y (omega (arith, fewer y)));
    live = λ y is. h.live y (sym (some_map _ (b.accounts y)) ∙ is);
  }

pub pick_stands : (v u : SchedValue) (w : World) (c : Class) (ready : List Bool) → SchedulerStandsFor v w →
    TellsReady w c ready → IsAfterPick (class_rota v c) (pick_of_class v c ready) (class_rota u c) →
    u ≡ with_class_rota v c (class_rota u c) → SchedulerStandsFor u (after_pick w c)
pick_stands v u w c ready h tells turned others =
    subst (λ (x : SchedValue). SchedulerStandsFor x (after_pick w c)) (sym others)
    (with_books _ _ _ (books_after_pick w c)
    (stands_after v (books w) c (class_rota u c) (picked_station w c) (pick_of_class v c ready)
    (to_books v w h) (pick_same v w c ready h tells) turned
    (pick_on (station_need w c) (is_ready w c) (rotation w c))
    (λ y. gets_once (station_need w c) (is_ready w c) (rotation w c) y ((to_books v w h).once c y))))
