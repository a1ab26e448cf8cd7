-- Proves that the end of an exchange depends only on how it ends for each of its numbers, and so only on
-- which of them are shown. By induction over the numbers.
use Rattle.std.proofs.Common.{◌≡◌, refl, ap, sym, ◌∙◌, subst, ℕ, Bool, true, false, List, [], ◌∷◌, Option, Some, None}
use Rattle.wf_frame.specs.declared.notes.Ask.TheVariants.{Done}
use Rattle.wf_frame.specs.declared.notes.Note.TheVariants.{Asked}
use Rattle.wf_frame.specs.declared.notes.Refusal.TheVariants.{BadAir}
use Rattle.wf_frame.specs.declared.notes.ReplyNote.TheVariants.{Refused}
use Rattle.wf_frame.specs.declared.notes.ReplyNote.TheVariants as reply
use Rattle.wf_def_lists.specs.Table.{has}
use Rattle.wf_def_agreement.specs.Receiver.{Score, shows}
use Rattle.wf_def_agreement.specs.Session.{End, is_acknowledged, is_waiting, is_failed}
use Rattle.wf_def_world.specs.World.{World, Exchange, Mpdu, Content, Frames, Request, exchange, without_exchange}
use Rattle.wf_def_world.specs.CanSend.{is_request, with_listings_of}
use Rattle.wf_def_world.specs.Exchanges.{is_acked, numbers_arrived, numbers_unsent, numbers_given_up, end_of, mpdus_of, after_charge, with_settled, with_all_settled, caught_up_if_plain, after_done, count_in}
use Rattle.wf_def_world.specs.Refusals.{refusal}
use Rattle.wf_frame.specs.Settings.{is_bad_air}
use Rattle.wf_def_world.specs.Step.{Outcome, done_outcome, outcome_where_open, outcome_of, after_refusal, judged_outcome, station_of, step}
use Rattle.wf_law_runs.specs.Windows.{EachMpdu}
use Rattle.wf_law_runs.proofs.Common.Ends.{end_by, is_once}
use Rattle.wf_law_driver.specs.Shown.{SettlesAlike, EndsAsLost}
use Rattle.wf_law_driver.proofs.Ended.{may_end_lost, may_end_heard, bad_lost, bad_heard}
use Rattle.wf_law_driver.proofs.Indices.{each_mpdu}

settled_alike : (ms : List Mpdu) (w : World) (s t : ℕ) (p q : ℕ → End) →
    EachMpdu (λ m. p m.number ≡ q m.number) ms → with_all_settled w s t p ms ≡ with_all_settled w s t q ms
unfolding with_all_settled
settled_alike [] w s t p q h = refl
settled_alike (m ∷ ms) w s t p q h = ap (λ (b : End). with_all_settled (with_settled w s t b m) s t p ms) h.0
    ∙ settled_alike ms (with_settled w s t (q m.number) m) s t p q h.1

pub settles_alike : (w : World) → SettlesAlike w
settles_alike w s t p q mpdus h = settled_alike mpdus w s t p q h

-- how an exchange ends for its number n, which the answer shows or not
abbrev end_where : World → Exchange → ℕ → Bool → End
end_where w x n acked = end_by x.batch (is_once w x n) (has (numbers_unsent x) n) (has (numbers_arrived x) n)
    acked (has (numbers_given_up x) n)

-- none of an aggregate's numbers is shown
after_none : (c : Content) (v : World) (x : Exchange) (b : Score) → x.answer ≡ Some b → is_request c ≡ false →
    EachMpdu (λ m. shows b m.number ≡ false) (mpdus_of c) → after_done v x true c ≡ after_done v x false c
unfolding after_done
after_none (Request f) v x b kept frames h = absurd (cc frames)
after_none (Frames ms) v x b kept frames h =
    ap (λ (u : World). caught_up_if_plain u x.station x.tid)
    (settled_alike ms v x.station x.tid (end_of v x true) (end_of v x false)
    (each_mpdu (λ m. shows b m.number ≡ false) (λ m. end_of v x true m.number ≡ end_of v x false m.number) ms
    (λ m none. ap (end_where v x m.number) (subst
    (λ (o : Option Score). is_acked true o m.number ≡ is_acked false o m.number) (sym kept) none)) h))

done_none : (w : World) (x : Exchange) (b : Score) (air : Option ℕ) → x.answer ≡ Some b →
    is_request x.content ≡ false →
    EachMpdu (λ m. shows b m.number ≡ false) (mpdus_of x.content) →
    done_outcome w x true air ≡ done_outcome w x false air
unfolding done_outcome
done_none w x b air kept frames h =
    ap {B = Outcome} (λ (v : World). record {
      world = v;
      reply =
          reply.Done (count_in v x is_acknowledged) (count_in v x is_waiting) (count_in v x is_failed);
    })
    (after_none x.content (after_charge (without_exchange w x.number) x air) x b kept frames h)

-- the outcome of a Done that is not refused
done_step : (w : World) (e : ℕ) (x : Exchange) (heard : Bool) (air : Option ℕ) → exchange w e ≡ Some x →
    refusal w (Asked (Done e heard air)) ≡ None →
    step w (Asked (Done e heard air)) ≡ record (done_outcome w x heard air) {
      world =
          with_listings_of (done_outcome w x heard air).world (Some x.station);
    }
unfolding step judged_outcome outcome_of outcome_where_open
done_step w e x heard air found fine =
    ap (judged_outcome w (Asked (Done e heard air))) fine
    ∙ ap {B = Outcome} (λ (o : Option Exchange). record
    (outcome_where_open w o (λ y. done_outcome w y heard air)) {
      world =
          with_listings_of (outcome_where_open w o (λ y. done_outcome w y heard air)).world (station_of o);
    }) found

-- a Done that is refused for its airtime changes nothing
bad_step : (w : World) (e : ℕ) (heard : Bool) (air : Option ℕ) →
    refusal w (Asked (Done e heard air)) ≡ Some BadAir →
    step w (Asked (Done e heard air)) ≡ record { world = w; reply = Refused BadAir }
unfolding step judged_outcome after_refusal
bad_step w e heard air bad = ap (judged_outcome w (Asked (Done e heard air))) bad

pub ends_as_lost : (w : World) → EndsAsLost w
ends_as_lost w e x b air found kept frames h = either (is_bad_air w.config air) refl
  where
    either : (bad : Bool) → is_bad_air w.config air ≡ bad →
        step w (Asked (Done e true air)) ≡ step w (Asked (Done e false air))
    either true is = bad_step w e true air (bad_heard w e x b air found kept is)
        ∙ sym (bad_step w e false air (bad_lost w e x air found is))
    either false is = done_step w e x true air found (may_end_heard w e x b air found kept is)
        ∙ (ap {B = Outcome} (λ (o : Outcome). record o { world = with_listings_of o.world (Some x.station) })
        (done_none w x b air kept frames h)
        ∙ sym (done_step w e x false air found (may_end_lost w e x air found is)))
