-- Proves that the half lists the station that a call concerns as the world does: in all classes in which it
-- belongs on a list, or in one class, if the others list it already.
use Rattle.std.proofs.Common.{◌≡◌, refl, ap, sym, ◌∙◌, ℕ, Bool, true, false, not, ◌&&◌, if◌then◌else◌, List, [], ◌∷◌, Some}
use Rattle.std.proofs.lemmas.List.{set-get_or}
use Rattle.wf_frame.specs.declared.classes.Class.{Class}
use Rattle.wf_frame.specs.declared.classes.Class.TheVariants.{Bk, Be, Vi, Vo}
use Rattle.wf_frame.specs.Classes.{class_number, all_classes}
use Rattle.wf_frame.specs.Frames.{FrameValue}
use Rattle.wf_def_rotation.specs.Rotation.{Rotation, has_key, with_key_listed}
use Rattle.wf_def_world.specs.World.{World, rotation, with_rotation}
use Rattle.wf_def_world.specs.CanSend.{is_ready, is_to_list, with_listing_in, with_listings_in, with_listings_of}
use Rattle.wf_law_runs.proofs.Deficits.Books.{same_number}
use Rattle.wf_queue_flows_refines.proofs.Leaves.{rotation_alone}
use Rattle.wf_sched.specs.ClassRotas.{ClassRota, SchedValue, no_class_rota, class_rota, class_rotation, with_class_rota}
use Rattle.wf_sched.proofs.Views.{turns-with_other}
use Rattle.wf_sched_refines.specs.Standing.{with_listed, with_listed_where}
use Rattle.wf_sched_refines.proofs.Listings.{concerned_stands}
use Rattle.wf_sched_refines.proofs.Readings.{lists_same}
use Rattle.wf_send_half_model.specs.Half.{TransmitValue, is_ready_of, is_to_list_of}
use Rattle.wf_send_half_model.specs.Standing.{Parts}
use Rattle.wf_send_half_model.specs.Changes.{after_listing, after_listing_in}
use Rattle.wf_send_half_model.specs.Readiness.{IsListedBut}
use Rattle.wf_send_half_model.specs.Views.{agreements, HasSameViews}
use Rattle.wf_send_half_model.proofs.Views.{roster_rotation, ledger_rotation}
use Rattle.wf_send_half_model.proofs.Stands.{same_views}
use Rattle.wf_send_half_model.proofs.Readers.{ready_same, to_list_same}

-- ---- views composed

pub views_here : (w : World) → HasSameViews w w
views_here w = record { part = refl; agreements = refl; roster = refl; ledger = refl }

pub views_then : (w u x : World) → HasSameViews w u → HasSameViews u x → HasSameViews w x
views_then w u x h k = record {
  part = k.part ∙ h.part;
  agreements = k.agreements ∙ h.agreements;
  roster =
      k.roster ∙ h.roster;
  ledger = k.ledger ∙ h.ledger;
}

pub views_if : (b : Bool) (w u x : World) → HasSameViews w u → HasSameViews w x →
    HasSameViews w (if b then u else x)
views_if true w u x h k = h
views_if false w u x h k = k

agreements_rotation : (w : World) (c : Class) (r : Rotation) → agreements (with_rotation w c r) ≡ agreements w
unfolding with_rotation
agreements_rotation w c r = refl

pub views_rotation : (w : World) (c : Class) (r : Rotation) → HasSameViews w (with_rotation w c r)
views_rotation w c r = record {
  part = rotation_alone w c r;
  agreements = agreements_rotation w c r;
  roster =
      roster_rotation w c r;
  ledger = ledger_rotation w c r;
}

views_listing : (w : World) (s : ℕ) (c : Class) → HasSameViews w (with_listing_in w s c)
unfolding with_listing_in
views_listing w s c = views_if (is_to_list w c s && not (has_key (rotation w c) s)) w _ w
    (views_rotation w c (with_key_listed (is_ready w c s) (rotation w c) s)) (views_here w)

pub views_listings : (cs : List Class) (w : World) (s : ℕ) → HasSameViews w (with_listings_in w s cs)
unfolding with_listings_in
views_listings [] w s = views_here w
views_listings (c ∷ cs) w s = views_then w (with_listing_in w s c) _ (views_listing w s c)
    (views_listings cs (with_listing_in w s c) s)

views_concerned : (w : World) (s : ℕ) → HasSameViews w (with_listings_of w (Some s))
unfolding with_listings_of
views_concerned w s = views_listings all_classes w s

-- ---- the listing

pub listing_parts : (v : TransmitValue) (w : World) (bodies : ℕ → FrameValue) (s : ℕ) → Parts v w bodies →
    Parts (after_listing v s) (with_listings_of w (Some s)) bodies
listing_parts v w bodies s h =
    same_views v w (with_listings_of w (Some s)) bodies (after_listing v s).sched (views_concerned w s)
    (concerned_stands v.sched w s (λ c. is_to_list_of v c s) (λ c. is_ready_of v c s)
    (λ c. to_list_same v w bodies c s h) (λ c. ready_same v w bodies c s h) h.others.turns)
    h

-- ---- a station that is listed in each class in which it belongs on a list

listed_already : (w : World) (s : ℕ) (c : Class) →
    (is_to_list w c s ≡ true → has_key (rotation w c) s ≡ true) → with_listing_in w s c ≡ w
unfolding with_listing_in
listed_already w s c h = go (is_to_list w c s) (has_key (rotation w c) s) h
  where
    go : (to_list listed : Bool) → (to_list ≡ true → listed ≡ true) →
        (if to_list && not listed then with_rotation w c (with_key_listed (is_ready w c s) (rotation w c) s)
        else w) ≡ w
    go false listed h = refl
    go true true h = refl
    go true false h = absurd (cc (h refl))

none_listed : (cs : List Class) (w : World) (s : ℕ) →
    ((c : Class) → is_to_list w c s ≡ true → has_key (rotation w c) s ≡ true) → with_listings_in w s cs ≡ w
unfolding with_listings_in
none_listed [] w s h = refl
none_listed (c ∷ cs) w s h = ap (λ (x : World). with_listings_in x s cs) (listed_already w s c (h c))
    ∙ none_listed cs w s h

pub nobody_new : (w : World) (s : ℕ) → ((c : Class) → is_to_list w c s ≡ true →
    has_key (rotation w c) s ≡ true) → with_listings_of w (Some s) ≡ w
unfolding with_listings_of
nobody_new w s h = none_listed all_classes w s h

-- ---- a station that all classes but one list already

if_true : {X : Type 0} (b : Bool) (x y : X) → b ≡ true → (if b then x else y) ≡ x
if_true true x y e = refl
if_true false x y e = absurd (cc e)

module _ (to_list ready : Class → Bool) (s : ℕ) where
  -- the station is listed in a class, if it belongs on a list there
  abbrev listed_in : Class → SchedValue → SchedValue
  listed_in c v = if to_list c then with_listed (ready c) v s c else v

  -- if it belongs on a list, the class lists it
  abbrev IsThere : SchedValue → Class → Type 0
  IsThere v d = to_list d ≡ true → has_key (class_rotation v d) s ≡ true

  listed_again : (v : SchedValue) (d : Class) → has_key (class_rotation v d) s ≡ true →
      with_listed (ready d) v s d ≡ v
  listed_again v d here =
      ap (with_class_rota v d) (if_true (has_key (class_rotation v d) s) (class_rota v d) _ here)
      ∙ ap (λ (ts : List ClassRota). record v { classes = ts })
      (set-get_or v.classes (class_number d) no_class_rota)

  idle : (v : SchedValue) (d : Class) → IsThere v d → listed_in d v ≡ v
  idle v d h = go (to_list d) h
    where
      go : (b : Bool) → (b ≡ true → has_key (class_rotation v d) s ≡ true) →
          (if b then with_listed (ready d) v s d else v) ≡ v
      go true h = listed_again v d (h refl)
      go false h = refl

  beside : (v : SchedValue) (c d : Class) → (d ≡ c → ⊥) → class_rotation (listed_in c v) d
      ≡ class_rotation v d
  beside v c d other = go (to_list c)
    where
      go : (b : Bool) → class_rotation (if b then with_listed (ready c) v s c else v) d
          ≡ class_rotation v d
      go true = ap (λ (t : ClassRota). t.rotation)
          (turns-with_other v c d _ (λ e. other (same_number d c e)))
      go false = refl

  -- listing it in any class other than c changes nothing, before c is listed and after
  before : (v : SchedValue) (c : Class) → ((d : Class) → (d ≡ c → ⊥) → IsThere v d) → (d : Class) →
      (d ≡ c → ⊥) → listed_in d v ≡ v
  before v c h d other = idle v d (h d other)

  behind : (v : SchedValue) (c : Class) → ((d : Class) → (d ≡ c → ⊥) → IsThere v d) → (d : Class) →
      (d ≡ c → ⊥) → listed_in d (listed_in c v) ≡ listed_in c v
  behind v c h d other = idle (listed_in c v) d
      (λ r. ap (λ (x : Rotation). has_key x s) (beside v c d other) ∙ h d other r)

  one_of_all : (v : SchedValue) (c : Class) → ((d : Class) → (d ≡ c → ⊥) → IsThere v d) →
      with_listed_where to_list ready s all_classes v ≡ listed_in c v
  one_of_all v Bk h =
      ap (λ (x : SchedValue). listed_in Vo (listed_in Vi x)) (behind v Bk h Be (λ e. cc e))
      ∙ ap (λ (x : SchedValue). listed_in Vo x) (behind v Bk h Vi (λ e. cc e))
      ∙ behind v Bk h Vo (λ e. cc e)
  one_of_all v Be h =
      ap (λ (x : SchedValue). listed_in Vo (listed_in Vi (listed_in Be x))) (before v Be h Bk (λ e. cc e))
      ∙ ap (λ (x : SchedValue). listed_in Vo x) (behind v Be h Vi (λ e. cc e))
      ∙ behind v Be h Vo (λ e. cc e)
  one_of_all v Vi h =
      ap (λ (x : SchedValue). listed_in Vo (listed_in Vi (listed_in Be x))) (before v Vi h Bk (λ e. cc e))
      ∙ ap (λ (x : SchedValue). listed_in Vo (listed_in Vi x)) (before v Vi h Be (λ e. cc e))
      ∙ behind v Vi h Vo (λ e. cc e)
  one_of_all v Vo h =
      ap (λ (x : SchedValue). listed_in Vo (listed_in Vi (listed_in Be x))) (before v Vo h Bk (λ e. cc e))
      ∙ ap (λ (x : SchedValue). listed_in Vo (listed_in Vi x)) (before v Vo h Be (λ e. cc e))
      ∙ ap (λ (x : SchedValue). listed_in Vo x) (before v Vo h Vi (λ e. cc e))

-- listing it in this one class is the same as listing it in all
pub one_listing : (v : TransmitValue) (w : World) (bodies : ℕ → FrameValue) (s : ℕ) (c : Class) →
    Parts v w bodies → IsListedBut w s c → after_listing v s ≡ after_listing_in v s c
one_listing v w bodies s c h others =
    ap (λ (z : SchedValue). record v { sched = z })
    (one_of_all (λ d. is_to_list_of v d s) (λ d. is_ready_of v d s) s v.sched c
    (λ d other r. lists_same v.sched w s d h.others.turns
    ∙ others d other (sym (to_list_same v w bodies d s h) ∙ r)))
