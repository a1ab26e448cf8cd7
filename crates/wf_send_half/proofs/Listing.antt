-- Proves that to list a station class by class is to list it in all classes at once: a listing changes no
-- deficit, so in each class the station belongs on a list as before.
use Rattle.std.proofs.Common.{◌≡◌, refl, ap, sym, ◌∙◌, subst, arith, ℕ, ◌==◌, ℤ, pos, Bool, true, false, ◌&&◌, ◌||◌, if◌then◌else◌, List, length, set, is_some, inl, inr}
use Rattle.std.specs.Prelude.{int_le}
use Rattle.std.proofs.lemmas.Bool.{cases_lt}
use Rattle.std.proofs.lemmas.List.{get_or-set_same, get_or-set_other, get_or_past, length-set}
use Rattle.wf_frame.specs.Classes.{class_number}
use Rattle.wf_frame.specs.declared.classes.Class.{Class}
use Rattle.wf_frame.specs.declared.classes.Class.TheVariants.{Bk, Be, Vi, Vo}
use Rattle.wf_def_rotation.specs.Rotation.{has_key, with_key_listed}
use Rattle.wf_rotation.specs.Rotas.{deficit_at}
use Rattle.wf_law_runs.proofs.Deficits.Books.{cases_class}
use Rattle.wf_sched.specs.ClassRotas.{ClassRota, SchedValue, no_class_rota, class_rota, deficit, with_listing}
use Rattle.wf_sched_refines.specs.Standing.{with_listed}
use Rattle.wf_send_parts.specs.Members.{member}
use Rattle.wf_send_half_model.specs.Half.{TransmitValue, is_ready_of, is_to_list_of}
use Rattle.wf_send_half_model.specs.Changes.{after_listing, after_listing_in}

listing_deficits : (ready : Bool) (s : ℕ) (t : ClassRota) → (with_listing ready s t).deficits ≡ t.deficits
listing_deficits ready s t = go (has_key t.rotation s)
    (record t { rotation = with_key_listed ready t.rotation s })
    refl
  where
    go : (b : Bool) (u : ClassRota) → u.deficits ≡ t.deficits → (if b then t else u).deficits ≡ t.deficits
    go true u e = refl
    go false u e = e

-- a listing changes no deficit
listed_deficits : (ready : Bool) (v : SchedValue) (s : ℕ) (c d : Class) →
    (class_rota (with_listed ready v s c) d).deficits ≡ (class_rota v d).deficits
listed_deficits ready v s c d = elim (cases_class d c) [
  | inl same ↦ subst (λ (k : Class). (class_rota (with_listed ready v s c) k).deficits
      ≡ (class_rota v k).deficits) (sym same) own
  | inr other ↦ ap (λ (t : ClassRota). t.deficits)
      (get_or-set_other v.classes (class_number c) (class_number d) (with_listing ready s (class_rota v c))
      no_class_rota other)
]
  where
    listed : ClassRota
    listed = with_listing ready s (class_rota v c)

    own : (class_rota (with_listed ready v s c) c).deficits ≡ (class_rota v c).deficits
    own = elim (cases_lt (class_number c) (length v.classes)) [
      | inl low ↦ ap (λ (t : ClassRota). t.deficits) (get_or-set_same v.classes (class_number c)
          (with_listing ready s (class_rota v c)) no_class_rota low)
          ∙ listing_deficits ready s (class_rota v c)
      | inr far ↦ ap (λ (t : ClassRota). t.deficits)
          (get_or_past (set v.classes (class_number c) (with_listing ready s (class_rota v c)))
          (class_number c)
          no_class_rota (omega (
            arith,
            far,
            length-set v.classes (class_number c) (with_listing ready s (class_rota v c)),
          ))
          ∙ sym (get_or_past v.classes (class_number c) no_class_rota (omega (arith, far))))
    ]

module _ (v : TransmitValue) (s : ℕ) where
  -- one class is listed, if the station belongs on a list there
  abbrev listed_next : Class → SchedValue → SchedValue
  listed_next c z = if is_to_list_of v c s then with_listed (is_ready_of v c s) z s c else z

  -- a scheduler with the deficits of the half
  abbrev HasDeficits : SchedValue → Type 0
  HasDeficits z = (d : Class) → deficit z d s ≡ deficit v.sched d s

  next_deficits : (c : Class) (z : SchedValue) → HasDeficits z → HasDeficits (listed_next c z)
  next_deficits c z h d = go (is_to_list_of v c s) ∙ h d
    where
      go : (b : Bool) → deficit (if b then with_listed (is_ready_of v c s) z s c else z) d s ≡ deficit z d s
      go true = ap (λ (ds : List ℤ). deficit_at ds s) (listed_deficits (is_ready_of v c s) z s c d)
      go false = refl

  next : (c : Class) (z : SchedValue) → HasDeficits z →
      after_listing_in (record v { sched = z }) s c ≡ record v { sched = listed_next c z }
  next c z h = ap (λ (n : ℤ). record v {
    sched = if is_ready_of v c s || ((v.config.pending == 1)
        && (is_some (member v.members s) && int_le n (pos 0)))
        then with_listed (is_ready_of v c s) z s c else z;
  }) (h c)

  pub listed_four : (a b c d : TransmitValue) → a ≡ after_listing_in v s Bk → b ≡ after_listing_in a s Be →
      c ≡ after_listing_in b s Vi → d ≡ after_listing_in c s Vo → d ≡ after_listing v s
  listed_four a b c d a_is b_is c_is d_is =
      let z : SchedValue = listed_next Bk v.sched in
      let y : SchedValue = listed_next Be z in
      let x : SchedValue = listed_next Vi y in
      let hz : HasDeficits z = next_deficits Bk v.sched (λ k. refl) in
      let hy : HasDeficits y = next_deficits Be z hz in
      let hx : HasDeficits x = next_deficits Vi y hy in
      let b_now : b ≡ record v { sched = y } =
      b_is ∙ ap (λ (u : TransmitValue). after_listing_in u s Be) a_is ∙ next Be z hz in
      let c_now : c ≡ record v { sched = x } =
      c_is ∙ ap (λ (u : TransmitValue). after_listing_in u s Vi) b_now ∙ next Vi y hy in
      d_is ∙ ap (λ (u : TransmitValue). after_listing_in u s Vo) c_now ∙ next Vo x hx
