-- Proves how the lists of a class change when a station is put on the list on which it belongs: nothing else
-- changes, and it is added to a list only if it was on none.
use Rattle.std.proofs.Common.{◌≡◌, refl, ap, sym, ◌∙◌, subst, arith, ℕ, ◌<◌, ◌≤◌, Bool, true, false, if◌then◌else◌, List, [], ◌∷◌, Option, Some, None, not, ◌&&◌, ◌||◌, inl, inr, ◌⊎◌}
use Rattle.std.proofs.lemmas.Bool.{and_parts, not-true, not-false}
use Rattle.wf_frame.specs.declared.classes.Class.{Class}
use Rattle.wf_frame.specs.declared.classes.Class.TheVariants.{Bk, Be, Vi, Vo}
use Rattle.wf_frame.specs.Classes.{all_classes}
use Rattle.wf_def_lists.specs.Table.{has}
use Rattle.wf_def_lists.specs.Lists.{on}
use Rattle.wf_def_rotation.specs.Rotation.{Rotation, has_key, in_order, with_key_listed}
use Rattle.wf_def_world.specs.World.{World, rotation, with_rotation}
use Rattle.wf_def_world.specs.CanSend.{is_ready, is_to_list, with_listing_in, with_listings_in, with_listings_of}
use Rattle.wf_law_rules.proofs.Lemmas.Counts.{on-cons_same, on-append, has-on}
use Rattle.wf_law_runs.proofs.Deficits.Books.{Books, books, updc, updc_same, updc_other, each_updc, cases_class, books_with_rotation}
use Rattle.wf_law_runs.proofs.Deficits.Kept.{listed-on, unlisted-on}

-- World v follows from w by listing keys: no readiness, account or exchange changes, and no list loses a
-- station.
pub record IsLonger (w v : World) : Type 0 where
  pub ready : (y : ℕ) (c : Class) → is_ready v c y ≡ is_ready w c y
  pub to_list : (y : ℕ) (c : Class) → is_to_list v c y ≡ is_to_list w c y
  pub more : (y : ℕ) (c : Class) → on (in_order (rotation w c)) y ≤ on (in_order (rotation v c)) y
  pub config : v.config ≡ w.config
  pub accounts : (books v).accounts ≡ (books w).accounts
  pub opened : (books v).opened ≡ (books w).opened

longer_here : (w : World) → IsLonger w w
longer_here w = record {
  ready = λ y c. refl;
  to_list = λ y c. refl;
  more = λ y c. omega arith;
  config = refl;
  accounts = refl;
  opened = refl;
}

longer_then : (w u v : World) → IsLonger w u → IsLonger u v → IsLonger w v
longer_then w u v h k = record {
  ready = λ y c. k.ready y c ∙ h.ready y c;
  to_list = λ y c. k.to_list y c ∙ h.to_list y c;
  more = λ y c. omega (arith, h.more y c, k.more y c);
  config = k.config ∙ h.config;
  accounts = k.accounts ∙ h.accounts;
  opened = k.opened ∙ h.opened;
}

ready_with_rotation : (w : World) (d : Class) (r : Rotation) (y : ℕ) (c : Class) →
    is_ready (with_rotation w d r) c y ≡ is_ready w c y
unfolding with_rotation
ready_with_rotation w d r y c = refl

to_list_with_rotation : (w : World) (d : Class) (r : Rotation) (y : ℕ) (c : Class) →
    is_to_list (with_rotation w d r) c y ≡ is_to_list w c y
unfolding with_rotation
to_list_with_rotation w d r y c = refl

rotation_with : (w : World) (d : Class) (r : Rotation) (c : Class) →
    rotation (with_rotation w d r) c ≡ updc (books w).rotations d r c
rotation_with w d r c = ap (λ (b : Books). b.rotations c) (books_with_rotation w d r)

-- The rotation of a class after a station was listed there.
abbrev listed_there : World → ℕ → Class → Rotation
listed_there w s d = with_key_listed (is_ready w d s) (rotation w d) s

longer_if : (w : World) (s : ℕ) (d : Class) (b : Bool) →
    IsLonger w (if b then with_rotation w d (listed_there w s d) else w)
longer_if w s d false = longer_here w
longer_if w s d true = record {
  ready = ready_with_rotation w d _;
  to_list = to_list_with_rotation w d _;
  more = λ y c. subst (λ (r : Rotation). on (in_order (rotation w c)) y ≤ on (in_order r) y)
      (sym (rotation_with w d (listed_there w s d) c))
      (each_updc (λ c r. on (in_order (rotation w c)) y ≤ on (in_order r) y) (books w).rotations d
      (listed_there w s d) (λ c. omega arith)
      (omega (arith, listed-on (is_ready w d s) (rotation w d) s y)) c);
  config = ap (λ (b : Books). b.config) (books_with_rotation w d (listed_there w s d));
  accounts = ap (λ (b : Books). b.accounts) (books_with_rotation w d (listed_there w s d));
  opened = ap (λ (b : Books). b.opened) (books_with_rotation w d (listed_there w s d));
}

longer_in : (w : World) (s : ℕ) (d : Class) → IsLonger w (with_listing_in w s d)
unfolding with_listing_in
longer_in w s d = longer_if w s d _

longer_in_all : (cs : List Class) (w : World) (s : ℕ) → IsLonger w (with_listings_in w s cs)
unfolding with_listings_in
longer_in_all [] w s = longer_here w
longer_in_all (d ∷ cs) w s = longer_then _ _ _ (longer_in w s d) (longer_in_all cs _ s)

pub longer_listed : (o : Option ℕ) (w : World) → IsLonger w (with_listings_of w o)
unfolding with_listings_of
longer_listed None w = longer_here w
longer_listed (Some s) w = longer_in_all all_classes w s

-- ---- a station that belongs on a list is listed

pub on-lists : (r : Rotation) (y : ℕ) → has_key r y ≡ true → 0 < on (in_order r) y
on-lists r y h = go (has r.new y) (has r.old y) refl refl h
  where
    go : (a b : Bool) → has r.new y ≡ a → has r.old y ≡ b → a || b ≡ true → 0 < on (in_order r) y
    go true b e f k = omega (arith, on-append r.old r.new y, has-on r.new y e)
    go false true e f k = omega (arith, on-append r.old r.new y, has-on r.old y f)
    go false false e f k = absurd (cc k)

gets_if : (w : World) (s : ℕ) (d : Class) (b : Bool) →
    (is_to_list w d s && not (has_key (rotation w d) s)) ≡ b → is_to_list w d s ≡ true →
    0 < on (in_order (rotation (if b then with_rotation w d (listed_there w s d) else w) d)) s
gets_if w s d true e is = subst (λ (r : Rotation). 0 < on (in_order r) s)
    (sym (rotation_with w d (listed_there w s d) d ∙ updc_same (books w).rotations d (listed_there w s d)))
    (omega (arith, listed-on (is_ready w d s) (rotation w d) s s, on-cons_same s []))
gets_if w s d false e is =
    let there : not (has_key (rotation w d) s) ≡ false = rw is at e in
    on-lists (rotation w d) s (not-false _ there)

gets_in : (w : World) (s : ℕ) (d : Class) → is_to_list w d s ≡ true →
    0 < on (in_order (rotation (with_listing_in w s d) d)) s
unfolding with_listing_in
gets_in w s d is = gets_if w s d _ refl is

OneOf : Class → List Class → Type 0
OneOf d [] = ⊥
OneOf d (c ∷ cs) = (c ≡ d) ⊎ OneOf d cs

one_of_all : (d : Class) → OneOf d all_classes
unfolding OneOf
one_of_all Bk = inl refl
one_of_all Be = inr (inl refl)
one_of_all Vi = inr (inr (inl refl))
one_of_all Vo = inr (inr (inr (inl refl)))

gets_in_all : (cs : List Class) (w : World) (s : ℕ) (d : Class) → OneOf d cs → is_to_list w d s ≡ true →
    0 < on (in_order (rotation (with_listings_in w s cs) d)) s
unfolding with_listings_in OneOf
gets_in_all [] w s d m is = absurd m
gets_in_all (c ∷ cs) w s d (inl e) is =
    let here : 0 < on (in_order (rotation (with_listing_in w s c) d)) s =
    subst (λ (z : Class). 0 < on (in_order (rotation (with_listing_in w s z) d)) s) (sym e)
    (gets_in w s d is) in
    omega (arith, here, (longer_in_all cs (with_listing_in w s c) s).more s d)
gets_in_all (c ∷ cs) w s d (inr m) is = gets_in_all cs (with_listing_in w s c) s d m
    ((longer_in w s c).to_list s d ∙ is)

pub gets_listed : (s : ℕ) (w : World) (d : Class) → is_to_list w d s ≡ true →
    0 < on (in_order (rotation (with_listings_of w (Some s)) d)) s
unfolding with_listings_of
gets_listed s w d is = gets_in_all all_classes w s d (one_of_all d) is

-- ---- only one that was on no list is added

-- Station s belongs on a list of the class and was on none, and r is the rotation after it was listed.
pub record Adds (w : World) (s : ℕ) (c : Class) (r : Rotation) : Type 0 where
  pub off : on (in_order (rotation w c)) s ≡ 0
  pub to_list : is_to_list w c s ≡ true
  pub now : r ≡ with_key_listed (is_ready w c s) (rotation w c) s

-- The class has the rotation r after s may have been listed.
abbrev pub Added : World → ℕ → Class → Rotation → Type 0
Added w s c r = (r ≡ rotation w c) ⊎ Adds w s c r

added_of : (w : World) (s : ℕ) (d c : Class) (t : Bool) →
    (is_to_list w d s && not (has_key (rotation w d) s)) ≡ t →
    Added w s c (rotation (if t then with_rotation w d (listed_there w s d) else w) c)
added_of w s d c false h = inl refl
added_of w s d c true h =
    let parts = and_parts _ _ h in
    elim (cases_class c d) [
      | inl e ↦ inr (subst (λ (z : Class). Adds w s z (rotation (with_rotation w d (listed_there w s d)) z))
          (sym e) (record {
            off = unlisted-on (rotation w d) s (not-true _ parts.1);
            to_list = parts.0;
            now = rotation_with w d (listed_there w s d) d
                ∙ updc_same (books w).rotations d (listed_there w s d);
          }))
      | inr other ↦ inl (rotation_with w d (listed_there w s d) c
          ∙ updc_other (books w).rotations d c (listed_there w s d) other)
    ]

added_in : (w : World) (s : ℕ) (d c : Class) → Added w s c (rotation (with_listing_in w s d) c)
unfolding with_listing_in
added_in w s d c = added_of w s d c _ refl

added_then : (w u : World) (s : ℕ) (c : Class) (r : Rotation) → IsLonger w u → Added w s c (rotation u c) →
    Added u s c r → Added w s c r
added_then w u s c r l (inl e) (inl f) = inl (f ∙ e)
added_then w u s c r l (inl e) (inr b) = inr (record {
  off = ap (λ (z : Rotation). on (in_order z) s) (sym e) ∙ b.off;
  to_list = sym (l.to_list s c) ∙ b.to_list;
  now = b.now ∙ (ap (λ (t : Bool). with_key_listed t (rotation u c) s) (l.ready s c)
      ∙ ap (λ (z : Rotation). with_key_listed (is_ready w c s) z s) e);
})
added_then w u s c r l (inr a) (inl f) = inr (record { off = a.off; to_list = a.to_list; now = f ∙ a.now })
added_then w u s c r l (inr a) (inr b) = absurd (
    let twice : on (in_order (with_key_listed (is_ready w c s) (rotation w c) s)) s ≡ 0 =
    ap (λ (z : Rotation). on (in_order z) s) (sym a.now) ∙ b.off in
    omega (arith, listed-on (is_ready w c s) (rotation w c) s s, on-cons_same s []))

added_in_all : (ds : List Class) (w : World) (s : ℕ) (c : Class) →
    Added w s c (rotation (with_listings_in w s ds) c)
unfolding with_listings_in
added_in_all [] w s c = inl refl
added_in_all (d ∷ ds) w s c = added_then w (with_listing_in w s d) s c _ (longer_in w s d) (added_in w s d c)
    (added_in_all ds (with_listing_in w s d) s c)

-- The station that a call lists, if there is one, was added to the class's lists or not.
abbrev pub AddedOf : Option ℕ → World → Class → Rotation → Type 0
AddedOf None w c r = r ≡ rotation w c
AddedOf (Some s) w c r = Added w s c r

pub added_listed : (o : Option ℕ) (w : World) (c : Class) → AddedOf o w c (rotation (with_listings_of w o) c)
unfolding with_listings_of
added_listed None w c = refl
added_listed (Some s) w c = added_in_all all_classes w s c
