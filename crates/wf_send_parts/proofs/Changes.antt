-- Proves what a change of one window, or of the eight windows of one station, leaves of all others.
use Rattle.std.proofs.Common.{◌≡◌, ◌≢◌, ◌⊎◌, ℕ, ◌<◌, Bool, true, false, inl, inr, List, [], length, get_or, set, ap, sym, ◌∙◌, subst, arith, length-set}
use Rattle.std.proofs.lemmas.List.{get_or_read, get_or-set_same, get_or-set_other}
use Rattle.std.proofs.lemmas.Bool.{cases_eq}
use Rattle.wf_frame.specs.Frames.{FrameValue}
use Rattle.wf_def_agreement.specs.Session.{Session}
use Rattle.wf_send_parts.specs.Window.{WindowValue, WindowStandsFor}
use Rattle.wf_frame.specs.Classes.{tid_number}
use Rattle.wf_send_parts.specs.Windows.{no_window, window_of, with_window}
use Rattle.wf_send_parts.specs.Many.{AllStand, IsSameElsewhere, IsSameAtOthers}

-- a change of one window, with the list `ws` seen as `now`

module _ (ws now : List WindowValue) (is : ws ≡ now) (s t i : ℕ) (place : i ≡ tid_number s t)
    (inside : tid_number s t < length now) (before : WindowValue) (found : before ≡ get_or ws i before) where
  here : i < length ws
  here = omega (arith, ap length is, place, inside)

  pub before_is : before ≡ window_of now s t
  before_is = get_or_read ws i before here found no_window ∙ ap (λ (k : ℕ). get_or ws k no_window) place
      ∙ ap (λ (vs : List WindowValue). window_of vs s t) is

  module _ (after : WindowValue) where
    pub after_is : after ≡ window_of (set ws i after) s t
    after_is = sym (get_or-set_same ws i after no_window here)
        ∙ ap (λ (k : ℕ). get_or (set ws i after) k no_window) place

    pub stands_with : (x y : Session) (bodies others : ℕ → FrameValue) →
        (WindowStandsFor before x bodies → WindowStandsFor after y others) →
        WindowStandsFor (window_of now s t) x bodies →
        WindowStandsFor (window_of (set ws i after) s t) y others
    stands_with x y bodies others call stands =
        let P : WindowValue → Type 0 = λ v. WindowStandsFor v x bodies in
        let Q : WindowValue → Type 0 = λ v. WindowStandsFor v y others in
        subst Q after_is (call (subst P (sym before_is) stands))

    pub stands_now : (x y : Session) (bodies : ℕ → FrameValue) →
        (WindowStandsFor before x bodies → WindowStandsFor after y bodies) →
        WindowStandsFor (window_of now s t) x bodies →
        WindowStandsFor (window_of (set ws i after) s t) y bodies
    stands_now x y bodies = stands_with x y bodies bodies

-- one window among all

module _ (ws : List WindowValue) (s t : ℕ) (v : WindowValue) where
  pub window_same : tid_number s t < length ws → window_of (with_window ws s t v) s t ≡ v
  window_same inside = get_or-set_same ws (tid_number s t) v no_window inside

  pub window_other : (x y : ℕ) → t < 8 → y < 8 → (x ≡ s → y ≡ t → ⊥) →
      window_of (with_window ws s t v) x y ≡ window_of ws x y
  window_other x y low_t low_y other = get_or-set_other ws (tid_number s t) (tid_number x y) v no_window
      (λ (e : tid_number x y ≡ tid_number s t). other (omega arith) (omega arith))

  pub windows_count : length (with_window ws s t v) ≡ length ws
  windows_count = length-set ws (tid_number s t) v

  -- a TID is this one, or another
  pub is_this : (x y : ℕ) → ((x ≡ s) × (y ≡ t)) ⊎ (x ≡ s → y ≡ t → ⊥)
  is_this x y = elim (cases_eq x s) [
    | inl a ↦ elim (cases_eq y t) [
      | inl b ↦ inl (a, b)
      | inr b ↦ inr (λ _ e. b e)
    ]
    | inr a ↦ inr (λ e _. a e)
  ]

  pub one_stands : (is_live : ℕ → Bool) (before after : ℕ → ℕ → Session) (bodies : ℕ → FrameValue) →
      AllStand ws is_live before bodies → is_live s ≡ true → t < 8 → tid_number s t < length ws →
      IsSameElsewhere before after s t → WindowStandsFor v (after s t) bodies →
      AllStand (with_window ws s t v) is_live after bodies
  one_stands is_live before after bodies all live low inside same stands =
      record {
        stands = λ x y live_x low_y. elim (is_this x y) [
          | inl this ↦
              let P : ℕ → ℕ → Type 0 = λ a b. WindowStandsFor (window_of (with_window ws s t v) a b)
              (after a b) bodies in
              let Q : WindowValue → Type 0 = λ u. WindowStandsFor u (after s t) bodies in
              let here : P s t = subst Q (sym (window_same inside)) stands in
              subst (λ (a : ℕ). P a y) (sym this.0) (subst (λ (b : ℕ). P s b) (sym this.1) here)
          | inr other ↦
              let P : WindowValue → Type 0 = λ u. WindowStandsFor u (after x y) bodies in
              let Q : Session → Type 0 = λ z. WindowStandsFor (window_of ws x y) z bodies in
              subst P (sym (window_other x y low low_y other))
              (subst Q (sym (same.same x y low_y other)) (all.stands x y live_x low_y))
        ];
        empty = λ x y dead low_y.
            let other : x ≡ s → y ≡ t → ⊥ = λ e _. differ (sym dead ∙ ap is_live e ∙ live) in
            ap (λ (u : WindowValue). u.places) (window_other x y low low_y other) ∙ all.empty x y dead low_y;
      }
    where
      differ : false ≡ true → ⊥
      differ e = absurd (cc e)

-- the windows of one station

module _ (ws vs : List WindowValue) (live_before live_after : ℕ → Bool) (before after : ℕ → ℕ → Session)
    (bodies : ℕ → FrameValue) (s : ℕ) (all : AllStand ws live_before before bodies)
    (others : IsSameAtOthers ws vs live_before live_after before after s) where
  stands_other : (x y : ℕ) → x ≢ s → live_after x ≡ true → y < 8 →
      WindowStandsFor (window_of vs x y) (after x y) bodies
  stands_other x y other live low =
      let P : WindowValue → Type 0 = λ u. WindowStandsFor u (after x y) bodies in
      let Q : Session → Type 0 = λ z. WindowStandsFor (window_of ws x y) z bodies in
      subst P (sym (others.windows_same x y other low))
      (subst Q (sym (others.sessions x y other low))
      (all.stands x y (sym (others.live x other) ∙ live) low))

  empty_other : (x y : ℕ) → x ≢ s → live_after x ≡ false → y < 8 → (window_of vs x y).places ≡ []
  empty_other x y other dead low =
      ap (λ (u : WindowValue). u.places) (others.windows_same x y other low)
      ∙ all.empty x y (sym (others.live x other) ∙ dead) low

  pub station_joins : live_after s ≡ true → ((t : ℕ) → t < 8 →
      WindowStandsFor (window_of vs s t) (after s t) bodies) → AllStand vs live_after after bodies
  station_joins live stands =
      record {
        stands = λ x y live_x low. elim (cases_eq x s) [
          | inl same ↦ subst (λ (a : ℕ). WindowStandsFor (window_of vs a y) (after a y) bodies) (sym same)
              (stands y low)
          | inr other ↦ stands_other x y other live_x low
        ];
        empty = λ x y dead low. elim (cases_eq x s) [
          | inl same ↦ absurd (let e = sym dead ∙ ap live_after same ∙ live in cc e)
          | inr other ↦ empty_other x y other dead low
        ];
      }

  pub station_goes : live_after s ≡ false → ((t : ℕ) → t < 8 → (window_of vs s t).places ≡ []) →
      AllStand vs live_after after bodies
  station_goes dead empty =
      record {
        stands = λ x y live_x low. elim (cases_eq x s) [
          | inl same ↦ absurd (let e = sym live_x ∙ ap live_after same ∙ dead in cc e)
          | inr other ↦ stands_other x y other live_x low
        ];
        empty = λ x y dead_x low. elim (cases_eq x s) [
          | inl same ↦ subst (λ (a : ℕ). (window_of vs a y).places ≡ []) (sym same) (empty y low)
          | inr other ↦ empty_other x y other dead_x low
        ];
      }
