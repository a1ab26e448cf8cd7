-- Defines the books: the part of a world that the laws of the deficits refer to. Proves how each change of
-- a world changes them.
use Rattle.std.proofs.Common.{◌≡◌, refl, ap, sym, ◌∙◌, subst, ℕ, Bool, true, false, if◌then◌else◌, List, [], ◌∷◌, Option, Some, None, option_map, map, ◌==◌, eq-eqb, inl, inr, ◌⊎◌}
use Rattle.std.proofs.Math.Path.{fun_ext}
use Rattle.std.proofs.lemmas.Bool.{cases_eq, ne_eqb}
use Rattle.wf_frame.specs.declared.settings.Config.{Config}
use Rattle.wf_frame.specs.declared.classes.Class.{Class}
use Rattle.wf_frame.specs.declared.classes.Class.TheVariants.{Bk, Be, Vi, Vo}
use Rattle.wf_frame.specs.declared.classes.Fate.{Fate}
use Rattle.wf_def_lists.specs.Table.{at, put}
use Rattle.wf_def_air.specs.Airtime.{Rate}
use Rattle.wf_def_rotation.specs.Rotation.{Rotation, no_keys}
use Rattle.wf_def_agreement.specs.Session.{Session}
use Rattle.wf_def_agreement.specs.Receiver.{Receiver}
use Rattle.wf_def_world.specs.World.{World, Station, Share, Tid, Queue, Exchange, no_share, with_station, on_station, on_tid, on_session, on_receiver, with_queues, on_share, on_queue, with_rotation, with_fate, with_frame_finished, with_frames_finished}
use Rattle.wf_frame.specs.Classes.{class_number}
use Rattle.wf_law_rules.proofs.Lemmas.Tables.{at_put_same, at_put_other}

-- The function f with the value v at k.
abbrev pub upd : {X : Type 0} → (ℕ → X) → ℕ → X → ℕ → X
upd f k v i = if i == k then v else f i

pub each_upd : {X : Type 0} (P : ℕ → X → Type 0) (f : ℕ → X) (k : ℕ) (v : X) → ((i : ℕ) → P i (f i)) → P k v →
    (i : ℕ) → P i (upd f k v i)
each_upd P f k v h p i = elim (cases_eq i k) [
  | inl e ↦ rw (eq-eqb i k e) (subst (λ (n : ℕ). P n v) (sym e) p)
  | inr other ↦ rw (ne_eqb i k other) (h i)
]

-- The same, if the other values are known.
pub others_upd : {X : Type 0} (P : ℕ → X → Type 0) (f : ℕ → X) (k : ℕ) (v : X) →
    ((i : ℕ) → (i ≡ k → ⊥) → P i (f i)) → P k v → (i : ℕ) → P i (upd f k v i)
others_upd P f k v h p i = elim (cases_eq i k) [
  | inl e ↦ rw (eq-eqb i k e) (subst (λ (n : ℕ). P n v) (sym e) p)
  | inr other ↦ rw (ne_eqb i k other) (h i other)
]

pub upd_same : {X : Type 0} (f : ℕ → X) (k : ℕ) (v : X) → upd f k v k ≡ v
upd_same f k v = rw (eq-eqb k k refl) refl

pub upd_other : {X : Type 0} (f : ℕ → X) (k i : ℕ) (v : X) → (i ≡ k → ⊥) → upd f k v i ≡ f i
upd_other f k i v other = rw (ne_eqb i k other) refl

-- A function does not change if the new value is the old one.
pub upd_idle : {X : Type 0} (f : ℕ → X) (k : ℕ) (v : X) → v ≡ f k → upd f k v ≡ f
upd_idle {X} f k v e = fun_ext (each_upd (λ i x. x ≡ f i) f k v (λ i. refl) e)

-- An update of a table is an update of each function of its entries.
pub put_upd : {X Y : Type 0} (g : X → Y) (d : X) (t : List X) (k : ℕ) (v : X) →
    (λ (i : ℕ). g (at d (put d t k v) i)) ≡ upd (λ (i : ℕ). g (at d t i)) k (g v)
put_upd {X} {Y} g d t k v = fun_ext each
  where
    each : (i : ℕ) → g (at d (put d t k v) i) ≡ upd (λ (j : ℕ). g (at d t j)) k (g v) i
    each i = elim (cases_eq i k) [
      | inl e ↦ ap (λ (j : ℕ). g (at d (put d t k v) j)) e
          ∙ (ap g (at_put_same d t k v) ∙ (sym (upd_same (λ (j : ℕ). g (at d t j)) k (g v))
          ∙ ap (λ (j : ℕ). upd (λ (j : ℕ). g (at d t j)) k (g v) j) (sym e)))
      | inr other ↦ ap g (at_put_other d t k i v (λ e. other (sym e)))
          ∙ sym (upd_other (λ (j : ℕ). g (at d t j)) k i (g v) other)
    ]

-- ---- functions of a class

class_back : ℕ → Class
class_back n = at Vo (Bk ∷ Be ∷ Vi ∷ []) n

class_back-number : (c : Class) → class_back (class_number c) ≡ c
unfolding class_back
class_back-number Bk = refl
class_back-number Be = refl
class_back-number Vi = refl
class_back-number Vo = refl

pub same_number : (c d : Class) → class_number c ≡ class_number d → c ≡ d
same_number c d e = sym (class_back-number c) ∙ (ap class_back e ∙ class_back-number d)

pub cases_class : (c d : Class) → (c ≡ d) ⊎ (class_number c ≡ class_number d → ⊥)
cases_class c d = elim (cases_eq (class_number c) (class_number d)) [
  | inl e ↦ inl (same_number c d e)
  | inr other ↦ inr other
]

abbrev pub updc : {X : Type 0} → (Class → X) → Class → X → Class → X
updc f c v d = if class_number d == class_number c then v else f d

pub updc_same : {X : Type 0} (f : Class → X) (c : Class) (v : X) → updc f c v c ≡ v
updc_same f c v = rw (eq-eqb (class_number c) (class_number c) refl) refl

pub updc_other : {X : Type 0} (f : Class → X) (c d : Class) (v : X) → (class_number d ≡ class_number c → ⊥) →
    updc f c v d ≡ f d
updc_other f c d v other = rw (ne_eqb (class_number d) (class_number c) other) refl

pub each_updc : {X : Type 0} (P : Class → X → Type 0) (f : Class → X) (c : Class) (v : X) →
    ((d : Class) → P d (f d)) → P c v → (d : Class) → P d (updc f c v d)
each_updc P f c v h p d = elim (cases_class d c) [
  | inl e ↦ subst (λ (z : Class). P z (updc f c v z)) (sym e) (rw (updc_same f c v) p)
  | inr other ↦ rw (updc_other f c d v other) (h d)
]

-- The same, if the other values are known.
pub others_updc : {X : Type 0} (P : Class → X → Type 0) (f : Class → X) (c : Class) (v : X) →
    ((d : Class) → (class_number d ≡ class_number c → ⊥) → P d (f d)) → P c v → (d : Class) →
    P d (updc f c v d)
others_updc P f c v h p d = elim (cases_class d c) [
  | inl e ↦ subst (λ (z : Class). P z (updc f c v z)) (sym e) (rw (updc_same f c v) p)
  | inr other ↦ rw (updc_other f c d v other) (h d other)
]

pub updc_idle : {X : Type 0} (f : Class → X) (c : Class) (v : X) → v ≡ f c → updc f c v ≡ f
updc_idle {X} f c v e = fun_ext (each_updc (λ i x. x ≡ f i) f c v (λ i. refl) e)

pub put_updc : {X Y : Type 0} (g : X → Y) (d : X) (t : List X) (c : Class) (v : X) →
    (λ (i : Class). g (at d (put d t (class_number c) v) (class_number i)))
    ≡ updc (λ (i : Class). g (at d t (class_number i))) c (g v)
put_updc {X} {Y} g d t c v = fun_ext (λ i. ap (λ (f : ℕ → Y). f (class_number i))
    (put_upd g d t (class_number c) v))

-- ---- the books

-- The account of a station: the station without its TIDs, its sleep and its turns.
pub record Account : Type 0 where
  pub weight : ℕ
  pub weighed : Bool
  pub rate : Rate
  pub shares : Class → Share

abbrev pub plain : Share → Share
plain x = record x { upper = false }

abbrev pub account : Station → Account
account x = record {
  weight = x.weight;
  weighed = x.weighed;
  rate = x.rate;
  shares =
      λ c. plain (at no_share x.shares (class_number c));
}

-- An exchange without the parts that its receiver and its device set.
abbrev pub core : Exchange → Exchange
core x = record x { arrived = []; answer = None; unsent = []; given_up = [] }

pub record Books : Type 0 where
  pub config : Config
  pub accounts : ℕ → Option Account
  pub rotations : Class → Rotation
  pub opened : List Exchange
  pub exchanges : ℕ

abbrev pub books : World → Books
books w = record {
  config = w.config;
  accounts = λ s. option_map account (at None w.stations s);
  rotations = λ c. at no_keys w.rotations (class_number c);
  opened = map core w.opened;
  exchanges = w.exchanges;
}

abbrev pub with_account : Books → ℕ → Option Account → Books
with_account b s a = record b { accounts = upd b.accounts s a }

abbrev pub with_lists : Books → Class → Rotation → Books
with_lists b c r = record b { rotations = updc b.rotations c r }

-- ---- how each change of a world changes the books

pub books_with_station : (w : World) (s : ℕ) (o : Option Station) →
    books (with_station w s o) ≡ with_account (books w) s (option_map account o)
unfolding with_station
books_with_station w s o = ap (λ (f : ℕ → Option Account). record (books w) { accounts = f })
    (put_upd (option_map account) None w.stations s o)

pub books_with_rotation : (w : World) (c : Class) (r : Rotation) →
    books (with_rotation w c r) ≡ with_lists (books w) c r
unfolding with_rotation
books_with_rotation w c r = ap (λ (f : Class → Rotation). record (books w) { rotations = f })
    (put_updc (λ (x : Rotation). x) no_keys w.rotations c r)

map_account : (f : Station → Station) (g : Account → Account) →
    ((x : Station) → account (f x) ≡ g (account x)) → (o : Option Station) →
    option_map account (option_map f o) ≡ option_map g (option_map account o)
map_account f g h None = refl
map_account f g h (Some x) = ap (λ (a : Account). Some a) (h x)

pub books_on_station : (w : World) (s : ℕ) (f : Station → Station) (g : Account → Account) →
    ((x : Station) → account (f x) ≡ g (account x)) →
    books (on_station w s f) ≡ with_account (books w) s (option_map g ((books w).accounts s))
unfolding on_station
books_on_station w s f g h = books_with_station w s _
    ∙ ap (with_account (books w) s) (map_account f g h (at None w.stations s))

same_map : (o : Option Account) → option_map (λ (a : Account). a) o ≡ o
same_map None = refl
same_map (Some x) = refl

-- A change of a station that does not change its account.
pub books_hidden : (w : World) (s : ℕ) (f : Station → Station) → ((x : Station) → account (f x) ≡ account x) →
    books (on_station w s f) ≡ books w
books_hidden w s f h = books_on_station w s f (λ (a : Account). a) h
    ∙ ap (λ (g : ℕ → Option Account). record (books w) { accounts = g })
    (upd_idle _ s _ (same_map ((books w).accounts s)))

pub books_on_tid : (w : World) (s t : ℕ) (f : Tid → Tid) → books (on_tid w s t f) ≡ books w
unfolding on_tid
books_on_tid w s t f = books_hidden w s _ (λ x. refl)

pub books_on_session : (w : World) (s t : ℕ) (f : Session → Session) → books (on_session w s t f) ≡ books w
unfolding on_session
books_on_session w s t f = books_on_tid w s t _

pub books_on_receiver : (w : World) (s t : ℕ) (f : Receiver → Receiver) →
    books (on_receiver w s t f) ≡ books w
unfolding on_receiver
books_on_receiver w s t f = books_on_tid w s t _

pub books_with_queues : (w : World) (s t : ℕ) (r : Rotation) → books (with_queues w s t r) ≡ books w
unfolding with_queues
books_with_queues w s t r = books_on_tid w s t _

-- One share of an account changes.
abbrev pub on_part : Class → (Share → Share) → Account → Account
on_part c f a = record a { shares = updc a.shares c (f (a.shares c)) }

pub books_on_share : (w : World) (s : ℕ) (c : Class) (f g : Share → Share) →
    ((x : Share) → plain (f x) ≡ g (plain x)) →
    books (on_share w s c f) ≡ with_account (books w) s (option_map (on_part c g) ((books w).accounts s))
unfolding on_share
books_on_share w s c f g h = books_on_station w s _ (on_part c g) (λ x.
    ap (λ (z : Class → Share). record { weight = x.weight; weighed = x.weighed; rate = x.rate; shares = z })
    (put_updc plain no_share x.shares c _ ∙ ap (updc
    (λ (i : Class). plain (at no_share x.shares (class_number i))) c)
    (h (at no_share x.shares (class_number c)))))

pub books_on_queue : (w : World) (q : ℕ) (f : Queue → Queue) → books (on_queue w q f) ≡ books w
unfolding on_queue
books_on_queue w q f = refl

pub books_finish : (w : World) (fate : Fate) (id : ℕ) → books (with_frame_finished w fate id) ≡ books w
unfolding with_frame_finished with_fate
books_finish w fate id = refl

pub books_finish_all : (ids : List ℕ) (w : World) (fate : Fate) →
    books (with_frames_finished w fate ids) ≡ books w
unfolding with_frames_finished
books_finish_all [] w fate = refl
books_finish_all (id ∷ ids) w fate = books_finish_all ids _ fate ∙ books_finish w fate id

pub books_if : (b : Bool) (x : Books) (w v : World) → books w ≡ x → books v ≡ x →
    books (if b then w else v) ≡ x
books_if true x w v h k = h
books_if false x w v h k = k
