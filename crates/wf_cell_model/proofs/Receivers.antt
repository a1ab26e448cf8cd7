-- Proves which changes of a world change no receiver.
use Rattle.std.proofs.Common.{◌≡◌, refl, ap, ◌∙◌, ℕ}
use Rattle.wf_frame.specs.declared.classes.Class.{Class}
use Rattle.wf_frame.specs.declared.notes.Limits.{Limits}
use Rattle.wf_def_agreement.specs.Session.{Session, Slot, State, End, slot, on_slot, is_failed, with_state, with_number_given}
use Rattle.wf_law_rules.proofs.Lemmas.Numbers.{on_if}
use Rattle.wf_def_world.specs.World.{World, Exchange, Mpdu, session, receiver, on_session, with_exchange}
use Rattle.wf_def_world.specs.Exchanges.{with_flying, with_exchange_opened, with_failed_finished, with_settled}
use Rattle.wf_def_world.specs.Step.{pull_outcome}
use Rattle.wf_law_runs.proofs.Common.Ends.{slot_after_end, on_settled}
use Rattle.wf_law_runs.proofs.Windows.Sides.{Side, Same, each_side_on, same_finish}
use Rattle.wf_law_runs.proofs.Windows.Agreed.{IsLawful}
use Rattle.wf_law_runs.proofs.Kept.Pulls.{along_pull}

-- each receiver is as before
pub record SameReceivers (w v : World) : Type 0 where
  pub each : (s t : ℕ) → receiver v s t ≡ receiver w s t

pub receivers_same : (w v : World) → Same w v → SameReceivers w v
receivers_same w v h = record { each = λ s t. ap (λ (a : Side). a.receiver) (h.sides s t) }

pub then_receivers : (u v w : World) → SameReceivers u v → SameReceivers v w → SameReceivers u w
then_receivers u v w h k = record { each = λ s t. k.each s t ∙ h.each s t }

pub receivers_on_session : (w : World) (s t : ℕ) (f : Session → Session) →
    SameReceivers w (on_session w s t f)
unfolding on_session
receivers_on_session w s t f = record {
  each = each_side_on (λ i j z. z.receiver ≡ receiver w i j) w s t
      (λ y. record y { session = f y.session }) (λ i j. refl) refl;
}

-- an open exchange changes
pub receivers_exchange : (w : World) (z : Exchange) → SameReceivers w (with_exchange w z)
unfolding with_exchange
receivers_exchange w z = record { each = λ s t. refl }

-- ---- a pull

receivers_opened : (w : World) (x : Exchange) → SameReceivers w (with_exchange_opened w x)
unfolding with_exchange_opened
receivers_opened w x = record { each = λ s t. refl }

pub receivers_pulled : (w : World) (c : Class) (l : Limits) → IsLawful w →
    SameReceivers w (pull_outcome w c l).world
receivers_pulled w c l i = along_pull SameReceivers receivers_same then_receivers
    (λ v s t id. receivers_on_session v s t (λ y. with_number_given y id))
    (λ v s t ms _. receivers_on_session v s t (with_flying v.exchanges ms))
    receivers_opened w c l i

-- ---- the numbers of an exchange that ends

pub receivers_settled : (end : End) (w : World) (s t : ℕ) (m : Mpdu) →
    SameReceivers w (with_settled w s t end m)
unfolding with_settled with_failed_finished
receivers_settled end w s t m =
    let f : Slot → Slot = slot_after_end w.config.attempts end in
    let v : World = on_session w s t (on_slot m.number f) in
    let k : SameReceivers w v = receivers_on_session w s t (on_slot m.number f) in
    on_settled (SameReceivers w) end w s t m
    (λ _. then_receivers w _ _ (receivers_on_session w s t (with_state State.Acked m.number))
    (receivers_same _ _ (same_finish _ _ _)))
    (λ _. on_if (SameReceivers w) (is_failed (slot (session v s t) m.number).state) _ v
    (λ _. then_receivers w v _ k (receivers_same v _ (same_finish v _ _))) (λ _. k))
