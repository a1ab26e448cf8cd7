-- Proves the clauses of a call without a frame from those of the half: the answer is the half's reply as a
-- brief, and the path differs from before only in its half.
use Rattle.std.proofs.Common.{◌≡◌, refl, ap, sym, ◌∙◌, subst, ℕ, true, false, List}
use Rattle.wf_frame.specs.Answers.{reply_with}
use Rattle.wf_frame.specs.Frames.{FrameValue}
use Rattle.wf_frame.specs.declared.answers.Brief.{Brief}
use Rattle.wf_frame.specs.declared.answers.Brief.TheVariants as briefs
use Rattle.wf_frame.specs.declared.notes.Ask.{Ask}
use Rattle.wf_frame.specs.declared.notes.Ask.TheVariants.{Cease}
use Rattle.wf_frame.specs.declared.notes.Note.TheVariants.{Asked}
use Rattle.wf_frame.specs.declared.notes.ReplyNote.{ReplyNote}
use Rattle.wf_frame.specs.declared.notes.ReplyNote.TheVariants.{Joined, Left, Set, Now, Accepted, Send, Released, Ba, Done, Slept, Woken, Polled, Charged, Reaped, Stopped, Started, Marked, Flushed, Ack, Held, Begun, Freed, Ceased, Group, Service, Refused}
use Rattle.wf_def_world.specs.World.{World}
use Rattle.wf_send_half_model.specs.Flushing.{released_at_cease}
use Rattle.wf_send_half_model.specs.Half.{TransmitValue, group_in}
use Rattle.wf_send_half_model.specs.Standing.{StandsFor, Meets}
use Rattle.wf_path.specs.Addresses.{Addresses}
use Rattle.wf_path.specs.Group.{FliesAsSaid}
use Rattle.wf_path.specs.Jobs.{bss_asked, bodies_after, changes_nothing, is_refused, with_released}
use Rattle.wf_path.specs.declared.job.Job.TheVariants.{Call}
use Rattle.wf_path.specs.Paths.{PathValue, IsPath, RiseLittle, IsAnsweredBriefly}
use Rattle.wf_send_half.proofs.Kept.{Leaves, same_bodies}
use Rattle.wf_path.proofs.Rises.{rises_by}
use Rattle.wf_path.proofs.Values.{half_is, addresses_are, with_half}

-- a reply that says that its call changed nothing is a refusal
pub refused_so : (reply : ReplyNote) → changes_nothing reply ≡ true → is_refused reply ≡ true
refused_so (Refused r) is = refl
refused_so Joined is = absurd (cc is)
refused_so (Left dropped) is = absurd (cc is)
refused_so Set is = absurd (cc is)
refused_so (Now now) is = absurd (cc is)
refused_so (Accepted id dropped) is = absurd (cc is)
refused_so (Send exchange station tid air part more eosp) is = absurd (cc is)
refused_so (Released ids) is = absurd (cc is)
refused_so (Ba start b0 b1 b2 b3 wide) is = absurd (cc is)
refused_so (Done acked waiting failed) is = absurd (cc is)
refused_so Slept is = absurd (cc is)
refused_so Woken is = absurd (cc is)
refused_so (Polled class) is = absurd (cc is)
refused_so (Charged deficit) is = absurd (cc is)
refused_so (Reaped id fate) is = absurd (cc is)
refused_so Stopped is = absurd (cc is)
refused_so Started is = absurd (cc is)
refused_so Marked is = absurd (cc is)
refused_so (Flushed dropped) is = absurd (cc is)
refused_so Ack is = absurd (cc is)
refused_so (Held start) is = absurd (cc is)
refused_so Begun is = absurd (cc is)
refused_so Freed is = absurd (cc is)
refused_so (Ceased dropped ids) is = absurd (cc is)
refused_so (Group answer) is = absurd (cc is)
refused_so (Service answer) is = absurd (cc is)

-- x is the half of the path p, a are its addresses, and u is the half after the call
module _ (x : TransmitValue) (h : IsPath x) (ask : Ask) (reply : ReplyNote) (u : TransmitValue)
    (meets : Leaves x u same_bodies (Asked ask) reply) (unheard : IsPath u) where
  pub answered_briefly : (a : Addresses) (p : PathValue) →
      ◌≡◌ {A = PathValue} (record { half = x; addresses = a }) p → (brief : Brief) →
      ((pairs : List (ℕ × ℕ)) (ids : List ℕ) → reply_with brief pairs ids ≡ reply) →
      ((w : World) (bodies : ℕ → FrameValue) → bodies_after p.half w (Call ask) reply bodies ≡ bodies) →
      ((w : World) → with_released w (Call ask) reply ≡ reply) →
      (is_refused reply ≡ true → u ≡ x) → FliesAsSaid (group_in u (bss_asked (Asked ask))) reply →
      IsAnsweredBriefly p ask (record { half = u; addresses = a }) brief
  answered_briefly a p same brief says sends told stays flight pairs = record {
    meets = λ w bodies ids st _.
        subst (λ (z : ReplyNote). Meets w (bodies_after p.half w (Call ask) z bodies) (Asked ask) u
        (with_released w (Call ask) z))
        (sym (says pairs ids))
        (subst (λ (z : ReplyNote). Meets w (bodies_after p.half w (Call ask) reply bodies)
        (Asked ask) u z) (sym (told w)) (subst (λ (z : ℕ → FrameValue). Meets w z (Asked ask) u reply)
        (sym (sends w bodies)) (meets w bodies (subst (λ (z : TransmitValue). StandsFor z w bodies)
        (sym (half_is same)) st))));
    refused = λ ids is. ap (λ (z : TransmitValue). with_half a z)
        (stays (ap is_refused (sym (says pairs ids)) ∙ refused_so (reply_with brief pairs ids) is)) ∙ same;
    pending = λ ids on is. ap (λ (z : TransmitValue). with_half a z)
        (stays (ap is_refused (sym (says pairs ids)) ∙ is)) ∙ same;
    flight = λ ids. subst (FliesAsSaid (group_in u (bss_asked (Asked ask)))) (sym (says pairs ids)) flight;
    addresses = addresses_are same;
    path = unheard;
    rises = subst (λ (z : TransmitValue). RiseLittle z u) (half_is same) (rises_by x u h h.bodies
        (Asked ask)
        reply (meets h.world h.bodies h.stands));
  }

-- The end of an agreement: the brief has no ids, and the machine's reply has those that the receiver
-- releases.
pub ceased_briefly : (x : TransmitValue) (h : IsPath x) (s t dropped : ℕ) (u : TransmitValue) →
    ((w : World) (bodies : ℕ → FrameValue) → StandsFor x w bodies →
    Meets w bodies (Asked (Cease s t)) u (Ceased dropped (released_at_cease w s t))) → IsPath u →
    (a : Addresses) (p : PathValue) → ◌≡◌ {A = PathValue} (record { half = x; addresses = a }) p →
    (brief : Brief) → brief ≡ briefs.Ceased dropped →
    IsAnsweredBriefly p (Cease s t) (record { half = u; addresses = a }) brief
ceased_briefly x h s t dropped u meets unheard a p same brief is pairs = record {
  meets = λ w bodies ids st _. subst (λ (b : Brief). Meets w bodies (Asked (Cease s t)) u
      (with_released w (Call (Cease s t)) (reply_with b pairs ids))) (sym is)
      (meets w bodies (subst (λ (z : TransmitValue). StandsFor z w bodies) (sym (half_is same)) st));
  refused = λ ids e. absurd (let k : false ≡ true =
      sym (ap (λ (b : Brief). changes_nothing (reply_with b pairs ids)) is) ∙ e in cc k);
  pending = λ ids _ e. absurd (let k : false ≡ true =
      sym (ap (λ (b : Brief). is_refused (reply_with b pairs ids)) is) ∙ e in cc k);
  flight = λ ids. subst (λ (b : Brief). FliesAsSaid (group_in u 0) (reply_with b pairs ids)) (sym is) tt;
  addresses = addresses_are same;
  path = unheard;
  rises = subst (λ (z : TransmitValue). RiseLittle z u) (half_is same) (rises_by x u h h.bodies
      (Asked (Cease s t)) (Ceased dropped (released_at_cease h.world s t)) (meets h.world h.bodies h.stands));
}
