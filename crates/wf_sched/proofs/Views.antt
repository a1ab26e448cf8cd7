-- The rotation of one class in the value that contracts see: a change of one class changes no other class.
use Rattle.std.proofs.Common.{◌≡◌, refl, ap, sym, subst, ◌∙◌, ℕ, zero, suc, ◌*◌, ◌<◌, ◌≤◌, Bool, true, false, List, [], ◌∷◌, replicate, length, get_or, set, map, Option, None, Some, inl, inr, if◌then◌else◌, arith}
use Rattle.std.specs.Prelude.{ℤ, pos, ◌+ℤ◌, All}
use Rattle.std.specs.Option.{IfNone, is_some}
use Rattle.std.proofs.lemmas.Bool.{cases_eq}
use Rattle.std.proofs.lemmas.List.{get_or-map, map-set, get_or-set_same, get_or-set_other, get_or_past, get_or_default, length-map, length-replicate}
use Rattle.wf_frame.specs.declared.classes.Class.{Class}
use Rattle.wf_frame.specs.declared.classes.Class.TheVariants.{Bk, Be, Vi, Vo}
use Rattle.wf_frame.specs.Classes.{class_number}
use Rattle.wf_def_rotation.specs.Rotation.{Rotation, no_keys, has_key, with_key_listed, need_of, Picked, pick}
use Rattle.wf_rotation.specs.Rotas.{Rotas, deficit_at, quantum_at, picked_at, is_ready, need_at, IsUnlisted}
use Rattle.wf_rotation.specs.Lists.{lists_at}
use Rattle.wf_rotation.specs.declared.side.Side.{Side}
use Rattle.wf_sched.specs.ClassRotas.{ClassRota, SchedValue, no_class_rota, class_rota, class_rota_of, with_class_rota, with_deficit, deficit, with_listing, pick_of_class, IsAfterPick, IsNowhere, IsOfStations, AreRotasKept, IsSchedulerSized}
use Rattle.wf_sched.proofs.Loops.{no_rota, IsDone, all_done, all_turned}
use Rattle.wf_law_rules.specs.Renamed.{IsIdle}
use Rattle.wf_law_rules.proofs.Lemmas.Picks.{none_idle}

pub class_below : (class : Class) → class_number class < 4
class_below Bk = omega arith
class_below Be = omega arith
class_below Vi = omega arith
class_below Vo = omega arith

abbrev pub view_of : List Rotas → ℕ → ℕ → SchedValue
view_of rotas stations quantum = record {
  stations = stations;
  quantum = quantum;
  classes =
      map class_rota_of rotas;
}

abbrev pub pick_in : List Bool → ClassRota → Picked
pick_in ready t = pick (λ station. need_of (get_or t.quanta station 1) (get_or t.deficits station (pos 0)))
    (is_ready ready) t.rotation

-- the rotation of the class, and one that takes its place
module _ (rotas : List Rotas) (stations quantum : ℕ) (class : Class) (i : ℕ) (d : Rotas)
    (four : length rotas ≡ 4) (at : i ≡ class_number class) where
  pub turns_are : class_rota (view_of rotas stations quantum) class ≡ class_rota_of (get_or rotas i d)
  turns_are = get_or-map class_rota_of rotas (class_number class) d no_class_rota
      (omega (arith, class_below class)) ∙ ap (λ (n : ℕ). class_rota_of (get_or rotas n d)) (sym at)

  pub turns_new : (r : Rotas) → class_rota (view_of (set rotas i r) stations quantum) class ≡ class_rota_of r
  turns_new r = ap (λ (ts : List ClassRota). get_or ts (class_number class) no_class_rota)
      (map-set class_rota_of rotas i r ∙ ap (λ (n : ℕ). set (map class_rota_of rotas) n (class_rota_of r)) at)
      ∙ get_or-set_same (map class_rota_of rotas) (class_number class) (class_rota_of r) no_class_rota
      (omega (arith, class_below class, length-map rotas class_rota_of))

  view_set : (r : Rotas) (t : ClassRota) → class_rota_of r ≡ t →
      view_of (set rotas i r) stations quantum ≡ with_class_rota (view_of rotas stations quantum) class t
  view_set r t e = ap (λ (ts : List ClassRota). let v : SchedValue =
      record { stations = stations; quantum = quantum; classes = ts } in v)
      (map-set class_rota_of rotas i r ∙ ap (λ (n : ℕ). set (map class_rota_of rotas) n (class_rota_of r)) at
      ∙ ap (set (map class_rota_of rotas) (class_number class)) e)

  -- the deficit of a station becomes one that is reckoned from the present one
  pub changed : (f : ℤ → ℤ) (station : ℕ) (r : Rotas) →
      r ≡ record {
        lists = (get_or rotas i d).lists;
        deficits =
            set (get_or rotas i d).deficits station (f (get_or (get_or rotas i d).deficits station (pos 0)));
        quanta = (get_or rotas i d).quanta;
      } →
      view_of (set rotas i r) stations quantum ≡ with_deficit (view_of rotas stations quantum) class station
      (f (deficit (view_of rotas stations quantum) class station))
  changed f station r e = view_set r _ (ap class_rota_of e
      ∙ ap (λ (t : ClassRota). let u : ClassRota =
      record {
        rotation = t.rotation;
        deficits =
            set t.deficits station (f (get_or t.deficits station (pos 0)));
        quanta = t.quanta;
      } in u)
      (sym turns_are))

  -- a station that is not listed is put on a list
  pub put_on : (ready : Bool) (station : ℕ) (r : Rotas) → length (get_or rotas i d).lists ≡ 1 →
      has_key (lists_at (get_or rotas i d).lists 0) station ≡ false →
      r ≡ record {
        lists = set (get_or rotas i d).lists 0
            (with_key_listed ready (lists_at (get_or rotas i d).lists 0) station);
        deficits = (get_or rotas i d).deficits;
        quanta = (get_or rotas i d).quanta;
      } →
      view_of (set rotas i r) stations quantum ≡ with_class_rota (view_of rotas stations quantum) class
      (with_listing ready station (class_rota (view_of rotas stations quantum) class))
  put_on ready station r one off e = view_set r _ (
      ap class_rota_of e
      ∙ ap (λ (x : Rotation). let t : ClassRota = record {
        rotation = x;
        deficits =
            (get_or rotas i d).deficits;
        quanta = (get_or rotas i d).quanta;
      } in t)
      (get_or-set_same (get_or rotas i d).lists 0
      (with_key_listed ready (lists_at (get_or rotas i d).lists 0) station) no_keys (omega arith))
      ∙ sym (unlisted (has_key (lists_at (get_or rotas i d).lists 0) station) off)
      ∙ ap (with_listing ready station) (sym turns_are))
    where
      unlisted : (b : Bool) → b ≡ false → (if b then class_rota_of (get_or rotas i d)
          else (let t : ClassRota = record {
            rotation =
                with_key_listed ready (lists_at (get_or rotas i d).lists 0) station;
            deficits = (get_or rotas i d).deficits;
            quanta = (get_or rotas i d).quanta;
          } in t))
          ≡ record {
            rotation = with_key_listed ready (lists_at (get_or rotas i d).lists 0) station;
            deficits =
                (get_or rotas i d).deficits;
            quanta = (get_or rotas i d).quanta;
          }
      unlisted true h = absurd (cc h)
      unlisted false h = refl

  pub turned : (ready : List Bool) (r : Rotas) →
      IsAfterPick (class_rota_of (get_or rotas i d)) (picked_at (get_or rotas i d) ready 0)
      (class_rota_of r) →
      IsAfterPick (class_rota (view_of rotas stations quantum) class)
      (pick_of_class (view_of rotas stations quantum) class ready)
      (class_rota (view_of (set rotas i r) stations quantum) class)
  turned ready r so =
      let P : ClassRota → ClassRota → Type 0 = λ (t u : ClassRota). IsAfterPick t (pick_in ready t) u in
      subst (λ (t : ClassRota). P t (class_rota (view_of (set rotas i r) stations quantum) class))
      (sym turns_are) (subst (P (class_rota_of (get_or rotas i d))) (sym (turns_new r)) so)

  -- the other classes stay
  pub others : (r : Rotas) → view_of (set rotas i r) stations quantum
      ≡ with_class_rota (view_of rotas stations quantum) class
      (class_rota (view_of (set rotas i r) stations quantum) class)
  others r = view_set r _ (sym (turns_new r))

  pub idle : (ready : List Bool) → (picked_at (get_or rotas i d) ready 0).winner ≡ None →
      IsIdle (is_ready ready) (class_rota (view_of rotas stations quantum) class).rotation
  idle ready none =
      let P : ClassRota → Type 0 = λ (t : ClassRota). IsIdle (is_ready ready) t.rotation in
      subst P (sym turns_are) (none_idle (lists_at (get_or rotas i d).lists 0) (need_at (get_or rotas i d))
      (is_ready ready) none)

-- a pick of the only rotation of a `Rota`, stated for a class
pub picked_one : (old new : Rotas) (ready : List Bool) → length old.lists ≡ 1 →
    new.lists ≡ set old.lists 0 (picked_at old ready 0).lists →
    ((key : ℕ) → deficit_at new.deficits key ≡ deficit_at old.deficits key +ℤ pos
    ((picked_at old ready 0).quanta key * quantum_at old.quanta key)) →
    length new.deficits ≡ length old.deficits → new.quanta ≡ old.quanta →
    IsAfterPick (class_rota_of old) (picked_at old ready 0) (class_rota_of new)
picked_one old new ready one lists deficits keys quanta = record {
  rotation = ap (λ (all : List Rotation). lists_at all 0) lists
      ∙ get_or-set_same old.lists 0 (picked_at old ready 0).lists no_keys (omega arith);
  deficits = deficits;
  quanta = quanta;
  stations = keys;
}

-- ---- a key of the one list

pub if_none : {X : Type 0} (o : Option X) (P : Type 0) → P → IfNone o P
if_none None P p = p
if_none (Some x) P p = tt

pub none_unlisted : (r : Rotas) (key : ℕ) (o : Option (ℕ × Side)) → is_some o ≡ false →
    IfNone o (IsUnlisted r.lists key) → has_key (lists_at r.lists 0) key ≡ false
none_unlisted r key None none off = off 0
none_unlisted r key (Some place) none off = absurd (cc none)

-- a key that is not on the one list is on none
pub nowhere : (r : Rotas) (key : ℕ) → length r.lists ≡ 1 → has_key (lists_at r.lists 0) key ≡ false →
    IsUnlisted r.lists key
nowhere r key one off = λ l. elim (cases_eq l 0) [
  | inl e ↦ subst (λ (n : ℕ). has_key (lists_at r.lists n) key ≡ false) (sym e) off
  | inr other ↦ ap (λ (x : Rotation). has_key x key) (get_or_past r.lists l no_keys (omega arith))
]

-- ---- every class

pub all_changed : (change : Rotas → Rotas) (turn : ClassRota → ClassRota) →
    ((r : Rotas) → class_rota_of (change r) ≡ turn (class_rota_of r)) →
    (old new : List Rotas) (n stations quantum : ℕ) → IsDone change old n new → length old ≤ n →
    view_of new stations quantum ≡ record {
      stations = stations;
      quantum = quantum;
      classes =
          map turn (map class_rota_of old);
    }
all_changed change turn one old new n stations quantum so all =
    ap (λ (rs : List Rotas). view_of rs stations quantum) (all_done change old new n so all)
    ∙ ap (λ (ts : List ClassRota). let v : SchedValue =
    record { stations = stations; quantum = quantum; classes = ts } in v) (all_turned change turn one old)

pub nowhere_at : (rotas : List Rotas) (stations quantum station : ℕ) → length rotas ≡ 4 →
    IsNowhere (view_of rotas stations quantum) station → (i : ℕ) → i < 4 →
    has_key (lists_at (get_or rotas i no_rota).lists 0) station ≡ false
nowhere_at rotas stations quantum station four none = of_class
  where
    at : (class : Class) → has_key (lists_at (get_or rotas (class_number class) no_rota).lists 0) station
        ≡ false
    at class = subst (λ (t : ClassRota). has_key t.rotation station ≡ false)
        (turns_are rotas stations quantum class (class_number class) no_rota four refl) (none class)

    of_class : (i : ℕ) → i < 4 → has_key (lists_at (get_or rotas i no_rota).lists 0) station ≡ false
    of_class zero low = at Bk
    of_class (suc zero) low = at Be
    of_class (suc (suc zero)) low = at Vi
    of_class (suc (suc (suc zero))) low = at Vo
    of_class (suc (suc (suc (suc i)))) low = absurd (omega arith)

-- a rotation in the middle of a join
pub still_nowhere : (rotas items : List Rotas) (stations quantum station key index : ℕ) (d : Rotas)
    (change : Rotas → Rotas) → AreRotasKept rotas stations quantum →
    IsNowhere (view_of rotas stations quantum) station → key ≡ station → index < 4 →
    IsDone change rotas index items →
    IsUnlisted (get_or items index d).lists key
still_nowhere rotas items stations quantum station key index d change kept none same low so =
    let here : get_or items index d ≡ get_or rotas index no_rota =
    get_or_default items index d no_rota (omega (arith, so.same, kept.four))
    ∙ so.rest index (omega arith) in
    let one : IsOfStations stations (get_or rotas index no_rota) =
    kept.each index no_rota (omega (arith, kept.four)) in
    subst (λ (r : Rotas). IsUnlisted r.lists key) (sym here)
    (subst (λ (k : ℕ). IsUnlisted (get_or rotas index no_rota).lists k) (sym same)
    (nowhere (get_or rotas index no_rota) station one.one_list
    (nowhere_at rotas stations quantum station kept.four none index low)))

pub sized : (rotas : List Rotas) (stations quantum : ℕ) → AreRotasKept rotas stations quantum →
    IsSchedulerSized (view_of rotas stations quantum)
sized rotas stations quantum kept = record {
  four = length-map rotas class_rota_of ∙ kept.four;
  deficits = λ class. ap (λ (t : ClassRota). length t.deficits)
      (turns_are rotas stations quantum class (class_number class) no_rota kept.four refl)
      ∙ (kept.each (class_number class) no_rota (omega (arith, class_below class, kept.four))).deficit_keys;
  quanta = λ class. ap (λ (t : ClassRota). length t.quanta)
      (turns_are rotas stations quantum class (class_number class) no_rota kept.four refl)
      ∙ (kept.each (class_number class) no_rota (omega (arith, class_below class, kept.four))).quanta_keys;
}

-- ---- for callers: the stations of a class that was changed, and those of another class

pub turns-with_same : (v : SchedValue) (class : Class) (t : ClassRota) → length v.classes ≡ 4 →
    class_rota (with_class_rota v class t) class ≡ t
turns-with_same v class t four = get_or-set_same v.classes (class_number class) t no_class_rota
    (omega (arith, class_below class))

pub turns-with_other : (v : SchedValue) (class other : Class) (t : ClassRota) →
    (class_number other ≡ class_number class → ⊥) →
    class_rota (with_class_rota v class t) other ≡ class_rota v other
turns-with_other v class other t differ = get_or-set_other v.classes (class_number class)
    (class_number other) t no_class_rota differ

-- ---- a new scheduler

pub opened : (stations quantum : ℕ) (r : Rotas) →
    r ≡ record {
      lists = no_keys ∷ [];
      deficits = replicate stations (pos quantum);
      quanta =
          replicate stations quantum;
    } → IsOfStations stations r
opened stations quantum r e = record {
  one_list = ap (λ (x : Rotas). length x.lists) e;
  deficit_keys = ap (λ (x : Rotas). length x.deficits) e ∙ length-replicate stations (pos quantum);
  quanta_keys = ap (λ (x : Rotas). length x.quanta) e ∙ length-replicate stations quantum;
}

pub four_of : (P : Rotas → Type 0) (a b c d : Rotas) → P a → P b → P c → P d → All P (a ∷ b ∷ c ∷ d ∷ [])
four_of P a b c d pa pb pc pd = of_place
  where
    of_place : (i : ℕ) (e : Rotas) → i < 4 → P (get_or (a ∷ b ∷ c ∷ d ∷ []) i e)
    of_place zero e low = pa
    of_place (suc zero) e low = pb
    of_place (suc (suc zero)) e low = pc
    of_place (suc (suc (suc zero))) e low = pd
    of_place (suc (suc (suc (suc i)))) e low = absurd (omega arith)
