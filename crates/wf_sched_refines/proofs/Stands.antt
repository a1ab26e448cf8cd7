-- Proves that agreement of a scheduler with a world is a relation to the world's books, and that it holds
-- after one account changes.
use Rattle.std.proofs.Common.{◌≡◌, refl, ap, sym, ◌∙◌, subst, ℕ, ◌*◌, ◌<◌, ◌≤◌, ◌==◌, ℤ, pos, ◌-ℤ◌, true, if◌then◌else◌, List, length, Option, Some, None, is_some, IfSome, option_map, unwrap_or, eq-eqb, inl, inr}
use Rattle.std.proofs.lemmas.Bool.{cases_eq, ne_eqb}
use Rattle.wf_frame.specs.declared.classes.Class.{Class}
use Rattle.wf_frame.specs.Classes.{class_number}
use Rattle.wf_def_lists.specs.Table.{at}
use Rattle.wf_def_rotation.specs.Rotation.{Rotation, in_order}
use Rattle.wf_def_world.specs.World.{World, Station, Exchange, no_share, no_station, owed, pending_air}
use Rattle.wf_def_lists.specs.Lists.{on}
use Rattle.wf_law_runs.proofs.Deficits.Books.{upd, updc, each_upd, cases_class, Account, account, Books, books, with_account}
use Rattle.wf_law_runs.proofs.Deficits.Openings.{owed-core}
use Rattle.wf_sched.specs.ClassRotas.{ClassRota, SchedValue, class_rotation, deficit, quantum_of, with_class_rota, IsSchedulerSized}
use Rattle.wf_sched.proofs.Views.{turns-with_same, turns-with_other}
use Rattle.wf_sched_refines.specs.Standing.{SchedulerStandsFor}
use Rattle.wf_sched_refines.proofs.Once.{once_on, on_once, on-listed, listed-on}

-- the airtime in flight that counts against a station's deficit in a class
abbrev pub pending_of : Books → ℕ → Class → ℕ
pending_of b s c = if b.config.pending == 1 then owed s c b.opened else 0

-- the standing of a station with this account
abbrev pub standing_of : Books → ℕ → Class → Account → ℤ
standing_of b s c a = (a.shares c).deficit -ℤ pos (pending_of b s c)

pub pending_books : (w : World) (s : ℕ) (c : Class) → pending_of (books w) s c ≡ pending_air w s c
pending_books w s c = ap (λ (n : ℕ). if w.config.pending == 1 then n else 0) (owed-core s c w.opened)

pub record Stands (v : SchedValue) (b : Books) : Type 0 where
  pub sized : IsSchedulerSized v
  pub stations : v.stations ≡ b.config.stations
  pub quantum : v.quantum ≡ b.config.quantum
  pub rotations : (c : Class) → class_rotation v c ≡ b.rotations c
  pub deficits : (s : ℕ) (c : Class) → IfSome (b.accounts s) (λ a. deficit v c s ≡ standing_of b s c a)
  pub quanta : (s : ℕ) (c : Class) → IfSome (b.accounts s)
      (λ a. quantum_of v c s ≡ b.config.quantum * a.weight)
  pub once : (c : Class) (y : ℕ) → on (in_order (b.rotations c)) y ≤ 1
  pub listed : (c : Class) (y : ℕ) → 0 < on (in_order (b.rotations c)) y → is_some (b.accounts y) ≡ true
  pub live : (s : ℕ) → is_some (b.accounts s) ≡ true → s < b.config.stations

-- ---- both directions

pub some_account : (o : Option Station) → is_some (option_map account o) ≡ is_some o
some_account None = refl
some_account (Some x) = refl

some_deficit : (o : Option Station) (c : Class) (n : ℤ) (m k : ℕ) → k ≡ m →
    (is_some o ≡ true → n ≡ (at no_share (unwrap_or o no_station).shares (class_number c)).deficit -ℤ pos m) →
    IfSome (option_map account o) (λ a. n ≡ (a.shares c).deficit -ℤ pos k)
some_deficit None c n m k e h = tt
some_deficit (Some x) c n m k e h =
    h refl ∙ ap (λ (i : ℕ). (at no_share x.shares (class_number c)).deficit -ℤ pos i) (sym e)

some_weight : (o : Option Station) (q n : ℕ) → (is_some o ≡ true → n ≡ q * (unwrap_or o no_station).weight) →
    IfSome (option_map account o) (λ a. n ≡ q * a.weight)
some_weight None q n h = tt
some_weight (Some x) q n h = h refl

pub to_books : (v : SchedValue) (w : World) → SchedulerStandsFor v w → Stands v (books w)
to_books v w h = record {
  sized = h.sized;
  stations = h.stations;
  quantum = h.quantum;
  rotations = h.rotations;
  deficits = λ s c. some_deficit (at None w.stations s) c (deficit v c s) (pending_air w s c)
      (pending_of (books w) s c) (pending_books w s c) (h.deficits s c);
  quanta = λ s c. some_weight (at None w.stations s) w.config.quantum (quantum_of v c s) (h.quanta s c);
  once = λ c y. once_on _ y (h.once c);
  listed = λ c y stands. some_account (at None w.stations y) ∙ h.listed y c (on-listed _ y stands);
  live = λ s is. h.live s (sym (some_account (at None w.stations s)) ∙ is);
}

deficit_some : (o : Option Station) (c : Class) (n : ℤ) (m k : ℕ) → k ≡ m →
    IfSome (option_map account o) (λ a. n ≡ (a.shares c).deficit -ℤ pos k) → is_some o ≡ true →
    n ≡ (at no_share (unwrap_or o no_station).shares (class_number c)).deficit -ℤ pos m
deficit_some None c n m k e h is = absurd (cc is)
deficit_some (Some x) c n m k e h is =
    h ∙ ap (λ (i : ℕ). (at no_share x.shares (class_number c)).deficit -ℤ pos i) e

weight_some : (o : Option Station) (q n : ℕ) → IfSome (option_map account o) (λ a. n ≡ q * a.weight) →
    is_some o ≡ true → n ≡ q * (unwrap_or o no_station).weight
weight_some None q n h is = absurd (cc is)
weight_some (Some x) q n h is = h

pub of_books : (v : SchedValue) (w : World) → Stands v (books w) → SchedulerStandsFor v w
of_books v w h = record {
  sized = h.sized;
  stations = h.stations;
  quantum = h.quantum;
  rotations = h.rotations;
  deficits = λ s c. deficit_some (at None w.stations s) c (deficit v c s) (pending_air w s c)
      (pending_of (books w) s c) (pending_books w s c) (h.deficits s c);
  quanta = λ s c. weight_some (at None w.stations s) w.config.quantum (quantum_of v c s) (h.quanta s c);
  once = λ c. on_once _ (h.once c);
  listed = λ s c on_it. sym (some_account (at None w.stations s)) ∙ h.listed c s (listed-on _ s on_it);
  live = λ s is. h.live s (some_account (at None w.stations s) ∙ is);
}

-- a world with these books
pub with_books : (v : SchedValue) (w : World) (b : Books) → books w ≡ b → Stands v b → SchedulerStandsFor v w
with_books v w b e h = of_books v w (subst (Stands v) (sym e) h)

-- other open exchanges, by which the same airtime counts against each station in each class
pub stands_opened : (v : SchedValue) (b : Books) (xs : List Exchange) (n : ℕ) →
    ((s : ℕ) (c : Class) → pending_of (record b { opened = xs; exchanges = n }) s c ≡ pending_of b s c) →
    Stands v b → Stands v (record b { opened = xs; exchanges = n })
stands_opened v b xs n same h = record {
  sized = h.sized;
  stations = h.stations;
  quantum = h.quantum;
  rotations = h.rotations;
  deficits = λ s c. subst (λ (m : ℕ). IfSome (b.accounts s)
      (λ a. deficit v c s ≡ (a.shares c).deficit -ℤ pos m))
      (sym (same s c)) (h.deficits s c);
  quanta = h.quanta;
  once = h.once;
  listed = h.listed;
  live = h.live;
}

-- ---- accounts

pub if_same : (P Q : Account → Type 0) (o : Option Account) → IfSome o P → ((a : Account) → P a → Q a) →
    IfSome o Q
if_same P Q None h k = tt
if_same P Q (Some a) h k = k a h

pub if_known : (P Q : Account → Type 0) (o : Option Account) → IfSome o P →
    ((a : Account) → o ≡ Some a → P a → Q a) → IfSome o Q
if_known P Q None h k = tt
if_known P Q (Some a) h k = k a refl h

pub if_map : (P Q : Account → Type 0) (g : Account → Account) (o : Option Account) → IfSome o P →
    ((a : Account) → o ≡ Some a → P a → Q (g a)) → IfSome (option_map g o) Q
if_map P Q g None h k = tt
if_map P Q g (Some a) h k = k a refl h

pub if_both : (P Q R : Account → Type 0) (o : Option Account) → IfSome o P → IfSome o Q →
    ((a : Account) → P a → Q a → R a) → IfSome o R
if_both P Q R None h k m = tt
if_both P Q R (Some a) h k m = m a h k

pub some_map : (g : Account → Account) (o : Option Account) → is_some (option_map g o) ≡ is_some o
some_map g None = refl
some_map g (Some a) = refl

pub each_other : {X : Type 0} (P : ℕ → X → Type 0) (f : ℕ → X) (k : ℕ) (v : X) →
    ((i : ℕ) → (i ≡ k → ⊥) → P i (f i)) → P k v → (i : ℕ) → P i (upd f k v i)
each_other P f k v h p i = elim (cases_eq i k) [
  | inl e ↦ rw (eq-eqb i k e) (subst (λ (n : ℕ). P n v) (sym e) p)
  | inr other ↦ rw (ne_eqb i k other) (h i other)
]

pub each_other_class : {X : Type 0} (P : Class → X → Type 0) (f : Class → X) (c : Class) (v : X) →
    ((d : Class) → (class_number d ≡ class_number c → ⊥) → P d (f d)) → P c v → (d : Class) →
    P d (updc f c v d)
each_other_class P f c v h p d = elim (cases_class d c) [
  | inl e ↦ rw (eq-eqb (class_number d) (class_number c) (ap class_number e))
      (subst (λ (z : Class). P z v) (sym e) p)
  | inr other ↦ rw (ne_eqb (class_number d) (class_number c) other) (h d other)
]

-- the lists of one class are changed on both sides
pub rotations_with : (v : SchedValue) (b : Books) (c : Class) (t : ClassRota) (r : Rotation) →
    length v.classes ≡ 4 → ((d : Class) → class_rotation v d ≡ b.rotations d) → t.rotation ≡ r → (d : Class) →
    class_rotation (with_class_rota v c t) d ≡ updc b.rotations c r d
rotations_with v b c t r four same new = each_other_class
    (λ d x. class_rotation (with_class_rota v c t) d ≡ x) b.rotations c r
    (λ d other. ap (λ (u : ClassRota). u.rotation) (turns-with_other v c d t other) ∙ same d)
    (ap (λ (u : ClassRota). u.rotation) (turns-with_same v c t four) ∙ new)

-- u differs from v only in the deficits and quanta of one station
pub record IsOtherwise (s : ℕ) (v u : SchedValue) : Type 0 where
  pub sized : IsSchedulerSized u
  pub stations : u.stations ≡ v.stations
  pub quantum : u.quantum ≡ v.quantum
  pub rotations : (c : Class) → class_rotation u c ≡ class_rotation v c
  pub deficits : (y : ℕ) → (y ≡ s → ⊥) → (c : Class) → deficit u c y ≡ deficit v c y
  pub quanta : (y : ℕ) → (y ≡ s → ⊥) → (c : Class) → quantum_of u c y ≡ quantum_of v c y

-- u has the deficits and quanta of the station's new account
pub record IsAccount (u : SchedValue) (b : Books) (s : ℕ) (o : Option Account) : Type 0 where
  pub deficits : (c : Class) → IfSome o (λ a. deficit u c s ≡ standing_of b s c a)
  pub quanta : (c : Class) → IfSome o (λ a. quantum_of u c s ≡ b.config.quantum * a.weight)
  pub listed : (c : Class) → 0 < on (in_order (b.rotations c)) s → is_some o ≡ true
  pub live : is_some o ≡ true → s < b.config.stations

pub stands_account : (v u : SchedValue) (b : Books) (s : ℕ) (o : Option Account) → Stands v b →
    IsOtherwise s v u → IsAccount u b s o → Stands u (with_account b s o)
stands_account v u b s o h same new = record {
  sized = same.sized;
  stations = same.stations ∙ h.stations;
  quantum = same.quantum ∙ h.quantum;
  rotations = λ c. same.rotations c ∙ h.rotations c;
  deficits = λ y c. each_other (λ z p. IfSome p (λ a. deficit u c z ≡ standing_of b z c a)) b.accounts s o
      (λ z other. if_same (λ a. deficit v c z ≡ standing_of b z c a)
      (λ a. deficit u c z ≡ standing_of b z c a) (b.accounts z) (h.deficits z c)
      (λ a e. same.deficits z other c ∙ e)) (new.deficits c) y;
  quanta = λ y c. each_other (λ z p. IfSome p (λ a. quantum_of u c z ≡ b.config.quantum * a.weight))
      b.accounts s o
      (λ z other. if_same (λ a. quantum_of v c z ≡ b.config.quantum * a.weight)
      (λ a. quantum_of u c z ≡ b.config.quantum * a.weight) (b.accounts z) (h.quanta z c)
      (λ a e. same.quanta z other c ∙ e)) (new.quanta c) y;
  once = h.once;
  listed = λ c y. each_upd (λ z p. 0 < on (in_order (b.rotations c)) z → is_some p ≡ true) b.accounts s o
      (h.listed c) (new.listed c) y;
  live = each_upd (λ z p. is_some p ≡ true → z < b.config.stations) b.accounts s o h.live new.live;
}
