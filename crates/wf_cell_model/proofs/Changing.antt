-- Proves that the receive halves represent a world in which one agreement differs, if the station's half
-- gets this agreement.
use Rattle.std.proofs.Common.{◌≡◌, ap, sym, ◌∙◌, subst, arith, ℕ, ◌<◌, ◌==◌, true, List, map, slice_set}
use Rattle.std.proofs.lemmas.List.{length-set}
use Rattle.wf_frame.specs.declared.settings.Config.{Config}
use Rattle.wf_law_rules.proofs.Lemmas.Numbers.{on_bool, eq_yes, eq_no}
use Rattle.wf_def_world.specs.World.{World, session, receiver, is_live}
use Rattle.wf_law_runs.proofs.Releases.Kept.{KeptSession, then_kept}
use Rattle.wf_law_runs.proofs.Windows.Agreed.{IsLawful}
use Rattle.wf_recv_marks.specs.declared.marks.Mark.{Mark}
use Rattle.wf_recv_peer.specs.Agreements.{PeerValue, AgreementValue, agreement}
use Rattle.wf_cell_model.specs.Hearing.{peer_of, agreement_of, with_peer, HasAddresses, ArePeers, StandsForTid, mark_of, Hears}
use Rattle.wf_cell_model.proofs.Keeping.{Stays, stays_stand}
use Rattle.wf_cell_model.proofs.Peers.{peer_own, peer_other, sized_with, agreement_own, agreement_other}

-- ---- two worlds that differ in one agreement

-- Each TID except TID t of station s has the receiver that it had, if its station is live in the later world,
-- and its given numbers keep their ids.
pub record StaysBut (s t : ℕ) (w v : World) : Type 0 where
  pub live : (i : ℕ) → is_live v i ≡ true → is_live w i ≡ true
  pub receivers : (i j : ℕ) → is_live v i ≡ true → (i ≡ s → j ≡ t → ⊥) → receiver v i j ≡ receiver w i j
  pub sessions : (i j : ℕ) → is_live v i ≡ true → (i ≡ s → j ≡ t → ⊥) →
      KeptSession (session w i j) (session v i j)

pub stays_but : (s t : ℕ) (w v : World) → Stays w v → StaysBut s t w v
stays_but s t w v h = record {
  live = h.live;
  receivers = λ i j l _. h.receivers i j l;
  sessions = λ i j l _. h.sessions i j l;
}

pub then_stays_but : (s t : ℕ) (u v w : World) → StaysBut s t u v → StaysBut s t v w → StaysBut s t u w
then_stays_but s t u v w h k = record {
  live = λ i l. h.live i (k.live i l);
  receivers = λ i j l other. k.receivers i j l other ∙ h.receivers i j (k.live i l) other;
  sessions = λ i j l other. then_kept (session u i j) (session v i j) (session w i j)
      (h.sessions i j (k.live i l) other) (k.sessions i j l other);
}

-- ---- the receive halves

-- the receive half with this agreement of TID t
abbrev pub with_agreement : ℕ → AgreementValue → PeerValue → PeerValue
with_agreement t a p = record p { agreements = slice_set p.agreements t a }

module _ (peers : List PeerValue) (marks : List Mark) (w v : World) (s t : ℕ) (a : AgreementValue)
    (h : Hears peers marks w) (low : s < w.config.stations) (below : t < 8) where
  changed : List PeerValue
  changed = with_peer s (with_agreement t a (peer_of peers s)) peers

  changed_own : peer_of changed s ≡ with_agreement t a (peer_of peers s)
  unfolding changed
  changed_own = peer_own peers s (with_agreement t a (peer_of peers s)) (omega (arith, h.sized.count, low))

  -- the agreement of TID t of station s
  stands_own : StandsForTid v s t a → StandsForTid v s t (agreement_of changed s t)
  stands_own own = subst (StandsForTid v s t) (sym (ap (λ (p : PeerValue). agreement p t) changed_own
      ∙ agreement_own (peer_of peers s) t a (omega (arith, h.sized.eight s low, below)))) own

  -- any other agreement is unchanged
  same_other : (i j : ℕ) → (i ≡ s → j ≡ t → ⊥) → agreement_of changed i j ≡ agreement_of peers i j
  unfolding changed
  same_other i j other = on_bool (i == s)
      (λ here.
      let is : i ≡ s = eq_yes i s here in
      ap (λ (k : ℕ). agreement_of changed k j) is ∙ ap (λ (p : PeerValue). agreement p j) changed_own
      ∙ agreement_other (peer_of peers s) t j a (other is) ∙ ap (λ (k : ℕ). agreement_of peers k j) (sym is))
      (λ away. ap (λ (p : PeerValue). agreement p j)
      (peer_other peers s i (with_agreement t a (peer_of peers s)) (eq_no i s away)))

  stands_each : IsLawful w → StaysBut s t w v → (is_live v s ≡ true → StandsForTid v s t a) →
      (i j : ℕ) → is_live v i ≡ true → j < 8 → StandsForTid v i j (agreement_of changed i j)
  stands_each lawful stays own i j live small =
      let rest : (i ≡ s → j ≡ t → ⊥) → StandsForTid v i j (agreement_of changed i j) = λ other.
      subst (StandsForTid v i j) (sym (same_other i j other))
      (stays_stand w v i j (agreement_of peers i j) lawful (stays.receivers i j live other)
      (stays.sessions i j live other) (h.agreements i j (stays.live i live) small)) in
      on_bool (i == s)
      (λ here. on_bool (j == t)
      (λ there.
      let is : s ≡ i = sym (eq_yes i s here) in
      subst (λ (k : ℕ). StandsForTid v i k (agreement_of changed i k)) (sym (eq_yes j t there))
      (subst (λ (k : ℕ). StandsForTid v k t (agreement_of changed k t)) is
      (stands_own (own (subst (λ (k : ℕ). is_live v k ≡ true) (sym is) live)))))
      (λ apart. rest (λ _ k. eq_no j t apart k)))
      (λ away. rest (λ k _. eq_no i s away k))

  -- The receive halves represent a world that stays except one TID, if its station gets the agreement that
  -- represents it.
  pub changed_hears : (after : List Mark) → IsLawful w → StaysBut s t w v → v.config ≡ w.config →
      (is_live v s ≡ true → StandsForTid v s t a) → after ≡ map mark_of v.opened →
      Hears (with_peer s (with_agreement t a (peer_of peers s)) peers) after v
  unfolding changed
  changed_hears after lawful stays config own kept =
      let addressed : HasAddresses s (peer_of peers s) = h.sized.addresses s low in
      record {
        sized = subst (λ (c : Config). ArePeers c.stations changed) (sym config)
            (sized_with w.config.stations s peers (with_agreement t a (peer_of peers s)) low
            (record { own = addressed.own; base = addressed.base })
            (length-set (peer_of peers s).agreements t a ∙ h.sized.eight s low) h.sized);
        agreements = stands_each lawful stays own;
        kept = kept;
      }
