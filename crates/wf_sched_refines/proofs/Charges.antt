-- Proves that scheduler and world still agree after a charge is taken off a deficit.
use Rattle.std.proofs.Common.{◌≡◌, refl, ap, sym, ◌∙◌, subst, arith, ℕ, ◌+◌, ◌*◌, ◌<◌, ℤ, pos, ◌+ℤ◌, ◌-ℤ◌, ◌<ℤ◌, int_lt, ◌↔◌, true, Option, Some, is_some, option_map, inl, inr}
use Rattle.std.proofs.lemmas.Int.{ints}
use Rattle.wf_frame.specs.declared.classes.Class.{Class}
use Rattle.wf_frame.specs.declared.notes.ReplyNote.TheVariants.{Charged}
use Rattle.wf_def_lists.specs.Bounds.{deepest_deficit}
use Rattle.wf_def_world.specs.World.{World, Share, Exchange, share, pending_air, is_live}
use Rattle.wf_def_world.specs.Exchanges.{charge_of, after_charge}
use Rattle.wf_def_world.specs.Step.{rx_outcome}
use Rattle.wf_law_runs.proofs.Deficits.Books.{cases_class, updc_same, updc_other, Account, Books, books, with_account, on_part}
use Rattle.wf_law_runs.proofs.Deficits.BookSteps.{charge_share, receive_share, books_charged, books_received}
use Rattle.wf_sched.specs.ClassRotas.{SchedValue, IsSchedulerSized, class_rotation, with_deficit, deficit, quantum_of}
use Rattle.wf_sched_refines.specs.Standing.{SchedulerStandsFor, with_deficit_charged}
use Rattle.wf_sched_refines.proofs.Changes.{each_with, sized-deficit, deficit_same, deficit_class, deficit_station, quantum_deficit}
use Rattle.wf_sched_refines.proofs.Stands.{Stands, pending_of, standing_of, to_books, with_books, if_map, some_map, IsOtherwise, stands_account}

pub otherwise : (v : SchedValue) (c : Class) (s : ℕ) (d : ℤ) → IsSchedulerSized v →
    IsOtherwise s v (with_deficit v c s d)
otherwise v c s d sized = record {
  sized = sized-deficit v c s d sized;
  stations = refl;
  quantum = refl;
  rotations = each_with (λ e t. t.rotation ≡ class_rotation v e) v c _ sized.four (λ e. refl) refl;
  deficits = deficit_station v c s d sized;
  quanta = λ y _. quantum_deficit v c s d sized y;
}

-- a charge lowers the standing and the deficit by the same amount
swap : (d : ℤ) (n m : ℕ) → (d -ℤ pos n) -ℤ pos m ≡ (d -ℤ pos m) -ℤ pos n
swap d n m = omega (arith, ints)

pub stands_charged : (v : SchedValue) (b : Books) (c : Class) (s n : ℕ) (g : Share → Share) →
    ((x : Share) → (g x).deficit ≡ x.deficit -ℤ pos n) → Stands v b →
    Stands (with_deficit_charged v s c n) (with_account b s (option_map (on_part c g) (b.accounts s)))
stands_charged v b c s n g takes h = stands_account v (with_deficit_charged v s c n) b s
    (option_map (on_part c g) (b.accounts s)) h (otherwise v c s _ h.sized) (record {
      deficits = λ d. if_map (λ a. deficit v d s ≡ standing_of b s d a)
          (λ a. deficit (with_deficit_charged v s c n) d s ≡ standing_of b s d a) (on_part c g) (b.accounts s)
          (h.deficits s d) (λ a is e. of_class a is d e);
      quanta = λ d. if_map (λ a. quantum_of v d s ≡ b.config.quantum * a.weight)
          (λ a. quantum_of (with_deficit_charged v s c n) d s ≡ b.config.quantum * a.weight) (on_part c g)
          (b.accounts s) (h.quanta s d)
          (λ a is e. quantum_deficit v c s _ h.sized s d ∙ e);
      listed = λ d stands. some_map (on_part c g) (b.accounts s) ∙ h.listed d s stands;
      live = λ is. h.live s (sym (some_map (on_part c g) (b.accounts s)) ∙ is);
    })
  where
    low : (a : Account) → b.accounts s ≡ Some a → s < v.stations
    low a is = omega (arith, h.live s (ap is_some is), h.stations)

    of_class : (a : Account) → b.accounts s ≡ Some a → (d : Class) → deficit v d s ≡ standing_of b s d a →
        deficit (with_deficit_charged v s c n) d s ≡ standing_of b s d (on_part c g a)
    of_class a is d e = elim (cases_class d c) [
      | inl here ↦ subst (λ (z : Class). deficit v z s ≡ standing_of b s z a →
          deficit (with_deficit_charged v s c n) z s ≡ standing_of b s z (on_part c g a)) (sym here)
          (λ k. deficit_same v c s _ h.sized (low a is) ∙ ap (λ (z : ℤ). z -ℤ pos n) k
          ∙ swap (a.shares c).deficit (pending_of b s c) n
          ∙ ap (λ (z : ℤ). z -ℤ pos (pending_of b s c)) (sym (takes (a.shares c)))
          ∙ ap (λ (x : Share). x.deficit -ℤ pos (pending_of b s c))
          (sym (updc_same a.shares c (g (a.shares c))))) e
      | inr other ↦ deficit_class v c d s s _ other ∙ e
          ∙ ap (λ (x : Share). x.deficit -ℤ pos (pending_of b s d))
          (sym (updc_other a.shares c d (g (a.shares c)) other))
    ]

pub charge_stands : (v : SchedValue) (w : World) (x : Exchange) (air : Option ℕ) → SchedulerStandsFor v w →
    SchedulerStandsFor (with_deficit_charged v x.station x.class (charge_of air x)) (after_charge w x air)
charge_stands v w x air h = with_books _ _ _ (books_charged air w x)
    (stands_charged v (books w) x.class x.station (charge_of air x) (charge_share (charge_of air x))
    (λ y. refl) (to_books v w h))

pub receive_stands : (v : SchedValue) (w : World) (s : ℕ) (c : Class) (air : ℕ) → SchedulerStandsFor v w →
    SchedulerStandsFor (with_deficit_charged v s c air) (rx_outcome w s c air).world
receive_stands v w s c air h = with_books _ _ _ (books_received w s c air)
    (stands_charged v (books w) c s air (receive_share air) (λ y. refl) (to_books v w h))

-- the world's deficit is the standing and the airtime in flight
whole : (d : ℤ) (n : ℕ) → d ≡ (d -ℤ pos n) +ℤ pos n
whole d n = omega (arith, ints)

pub receive_reply : (v : SchedValue) (w : World) (s : ℕ) (c : Class) (air : ℕ) → SchedulerStandsFor v w →
    is_live w s ≡ true →
    (rx_outcome w s c air).reply ≡ Charged ((deficit v c s +ℤ pos (pending_air w s c)) -ℤ pos air)
unfolding rx_outcome
receive_reply v w s c air h is = ap (λ (z : ℤ). Charged (z -ℤ pos air))
    (whole (share w s c).deficit (pending_air w s c)
    ∙ ap (λ (z : ℤ). z +ℤ pos (pending_air w s c)) (sym (h.deficits s c is)))

-- both sides refuse a receive charge by the same test
pub debt_same : (v : SchedValue) (w : World) (s : ℕ) (c : Class) (air : ℕ) → SchedulerStandsFor v w →
    is_live w s ≡ true →
    ((deficit v c s -ℤ pos air) <ℤ deepest_deficit (w.config.debt + pending_air w s c) ↔
    int_lt ((share w s c).deficit -ℤ pos air) (deepest_deficit w.config.debt) ≡ true)
debt_same v w s c air h is = subst (λ (z : ℤ). (z -ℤ pos air) <ℤ deepest_deficit
    (w.config.debt + pending_air w s c) ↔
    int_lt ((share w s c).deficit -ℤ pos air) (deepest_deficit w.config.debt) ≡ true)
    (sym (h.deficits s c is)) (
      λ low. (by_test ((share w s c).deficit -ℤ pos air) (deepest_deficit w.config.debt)).0
          (lower (share w s c).deficit (pending_air w s c) air w.config.debt low),
      λ low. deeper (share w s c).deficit (pending_air w s c) air w.config.debt
          ((by_test ((share w s c).deficit -ℤ pos air) (deepest_deficit w.config.debt)).1 low),
    )
  where
    by_test : (a b : ℤ) → (a <ℤ b ↔ int_lt a b ≡ true)
    by_test a b = grind arith

    lower : (d : ℤ) (n m k : ℕ) → ((d -ℤ pos n) -ℤ pos m) <ℤ (pos 0 -ℤ pos (k + n)) →
        (d -ℤ pos m) <ℤ (pos 0 -ℤ pos k)
    lower d n m k low = omega (arith, ints)

    deeper : (d : ℤ) (n m k : ℕ) → (d -ℤ pos m) <ℤ (pos 0 -ℤ pos k) →
        ((d -ℤ pos n) -ℤ pos m) <ℤ (pos 0 -ℤ pos (k + n))
    deeper d n m k low = omega (arith, ints)
