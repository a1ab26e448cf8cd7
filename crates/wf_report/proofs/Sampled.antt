-- Proves that the frames of a cell stay those of its trace's calls, and that the frames on the air have their
-- bodies.
use Rattle.std.proofs.Common.{◌≡◌, refl, ap, ap₂, sym, ◌∙◌, ℕ, zero, suc, Bool, true, false, List, [], ◌∷◌, ◌++◌, ◌+◌, ◌%◌, length, map, Option, Some, None, arith, length-append}
use Rattle.std.specs.Prelude.{◌==◌, slice_get, if◌then◌else◌}
use Rattle.wf_frame.specs.Frames.{FrameValue, new_frame, sample_body, sent_again, sent_once_less}
use Rattle.wf_frame.specs.declared.notes.Ask.TheVariants.{Pull, Unsent}
use Rattle.wf_frame.specs.declared.notes.Note.{Note}
use Rattle.wf_frame.specs.declared.notes.Part.TheVariants.{Mpdus, Batch, Plain}
use Rattle.wf_frame.specs.declared.notes.ReplyNote.{ReplyNote}
use Rattle.wf_frame.specs.declared.notes.ReplyNote.TheVariants as reply
use Rattle.wf_def_world.specs.World.{World, Mpdu, Exchange, Content, Frames, Request, exchange}
use Rattle.wf_def_lists.specs.Table.{at}
use Rattle.wf_def_world.specs.Exchanges.{mpdus_of, no_mpdu}
use Rattle.wf_octets.specs.HeaderLayout.{header_as_octets}
use Rattle.wf_queue_flows_refines.specs.Frames.{with_body}
use Rattle.wf_send_parts.specs.Sent.{with_one_sent, with_all_sent, with_one_unsent}
use Rattle.wf_send_half.specs.Enqueues.{as_accepted}
use Rattle.wf_send_half.specs.Marks.{bodies_unsent}
use Rattle.wf_send_half.specs.Replies.{bodies_sent}
use Rattle.wf_send_half_model.specs.Half.{TransmitValue}
use Rattle.wf_send_half_model.specs.Marking.{with_transmission_unsent}
use Rattle.wf_send_half_model.specs.Standing.{StandsFor}
use Rattle.wf_path.specs.Addresses.{made_up}
use Rattle.wf_path.specs.Transmissions.{header_of, data_octets, octets_of_content}
use Rattle.wf_path.specs.declared.job.Job.{Job}
use Rattle.wf_path.specs.declared.job.Job.TheVariants.{Give, Call}
use Rattle.wf_path.specs.Jobs.{bodies_after, frame_of}
use Rattle.wf_cell.proofs.Written.{is_accepted}
use Rattle.wf_report.specs.Captures.{sample_of, samples}
use Rattle.wf_report.specs.Packets.{frames_sent, frames_by}
use Rattle.wf_report.specs.Samples.{IsSample}

-- ---- samples

pub length_sample : (flow n : ℕ) → length (sample_body flow n) ≡ n
length_sample flow zero = refl
length_sample flow (suc n) = omega (
  arith,
  length-append (sample_body flow n) ((flow + n) % 256 ∷ []),
  length_sample flow n,
)

pub is_sample : (s t flow n : ℕ) → IsSample (new_frame s t flow (sample_body flow n))
is_sample s t flow n = record {
  body = ap (sample_body flow) (sym (length_sample flow n));
  source = refl;
}

pub no_sample : IsSample (new_frame 0 0 0 [])
no_sample = record { body = refl; source = refl }

with_sample : (bodies : ℕ → FrameValue) (f : FrameValue) → ((id : ℕ) → IsSample (bodies id)) → IsSample f →
    (id : ℕ) → IsSample (with_body bodies f id)
with_sample bodies f all is id = of (id == f.id)
  where
    of : (b : Bool) → IsSample (if b then f else bodies id)
    of true = is
    of false = all id

with_sent_sample : (id : ℕ) (bodies : ℕ → FrameValue) → ((k : ℕ) → IsSample (bodies k)) → (k : ℕ) →
    IsSample (with_one_sent id bodies k)
with_sent_sample id bodies all k = of (k == id)
  where
    of : (b : Bool) → IsSample (if b then sent_again (bodies k) else bodies k)
    of true = record { body = (all k).body; source = (all k).source }
    of false = all k

with_unsent_sample : (id : ℕ) (bodies : ℕ → FrameValue) → ((k : ℕ) → IsSample (bodies k)) → (k : ℕ) →
    IsSample (with_one_unsent id bodies k)
with_unsent_sample id bodies all k = of (k == id)
  where
    of : (b : Bool) → IsSample (if b then sent_once_less (bodies k) else bodies k)
    of true = record { body = (all k).body; source = (all k).source }
    of false = all k

unsent_samples : (c : Content) (i : ℕ) (bodies : ℕ → FrameValue) → ((id : ℕ) → IsSample (bodies id)) →
    (id : ℕ) → IsSample (with_transmission_unsent c i bodies id)
unsent_samples (Frames mpdus) i bodies all = with_unsent_sample (at no_mpdu mpdus i).id bodies all
unsent_samples (Request start) i bodies all = all

sent_samples : (pairs : List (ℕ × ℕ)) (bodies : ℕ → FrameValue) → ((id : ℕ) → IsSample (bodies id)) →
    (id : ℕ) → IsSample (with_all_sent pairs bodies id)
sent_samples [] bodies all = all
sent_samples (p ∷ pairs) bodies all =
    sent_samples pairs (with_one_sent p.0 bodies) (with_sent_sample p.0 bodies all)

pub after_sample : (v : TransmitValue) (w : World) (job : Job) (answered : ReplyNote)
    (bodies : ℕ → FrameValue) →
    ((id : ℕ) → IsSample (bodies id)) → ((f : FrameValue) → frame_of job ≡ Some f → IsSample f) →
    (id : ℕ) → IsSample (bodies_after v w job answered bodies id)
after_sample v w (Give f) (reply.Accepted given dropped) bodies all brought =
    let is : IsSample f = brought f refl in
    with_sample bodies (as_accepted v f) all (record { body = is.body; source = is.source })
after_sample v w (Call (Pull class l)) answered bodies all brought = of answered
  where
    of : (r : ReplyNote) → (id : ℕ) → IsSample (bodies_sent r bodies id)
    of (reply.Send exchange station tid air (Mpdus pairs) more eosp) = sent_samples pairs bodies all
    of (reply.Send exchange station tid air (Plain pairs) more eosp) = sent_samples pairs bodies all
    of (reply.Send exchange station tid air (Batch ids) more eosp) =
        sent_samples (map (λ id. (id, 0)) ids) bodies all
    of _ = all
after_sample v w (Call (Unsent e index)) answered bodies all brought = of (exchange w e) answered
  where
    of : (o : Option Exchange) (r : ReplyNote) → (id : ℕ) → IsSample (bodies_unsent o index r bodies id)
    of (Some x) reply.Marked = unsent_samples x.content index bodies all
    of o _ = all
after_sample v w _ _ bodies all brought = all

-- ---- frames on the air

map_same : {A B : Type 0} (f g : A → B) (xs : List A) →
    ((k : ℕ) (x : A) → slice_get xs k ≡ Some x → f x ≡ g x) → map f xs ≡ map g xs
map_same f g [] same = refl
map_same f g (x ∷ xs) same = ap₂ (λ y ys. y ∷ ys) (same 0 x refl) (map_same f g xs (λ k. same (suc k)))

module _ (v : TransmitValue) (w : World) (bodies : ℕ → FrameValue) (stands : StandsFor v w bodies)
    (all : (id : ℕ) → IsSample (bodies id)) where
  body_same : (e : ℕ) (x : Exchange) → exchange w e ≡ Some x → (k : ℕ) (m : Mpdu) →
      slice_get (mpdus_of x.content) k ≡ Some m → (bodies m.id).body ≡ (samples w m.id).body
  body_same e x known k m among =
      let accepted = stands.parts.others.notes m.id (is_accepted v w bodies stands e x known k m among) in
      (all m.id).body ∙ sym (ap (λ (n : Note). (sample_of n).body) accepted.note)

  source_same : (e : ℕ) (x : Exchange) → exchange w e ≡ Some x → (k : ℕ) (m : Mpdu) →
      slice_get (mpdus_of x.content) k ≡ Some m → (bodies m.id).source ≡ (samples w m.id).source
  source_same e x known k m among =
      let accepted = stands.parts.others.notes m.id (is_accepted v w bodies stands e x known k m among) in
      (all m.id).source ∙ sym (ap (λ (n : Note). (sample_of n).source) accepted.note)

  content_same : (e : ℕ) (x : Exchange) → exchange w e ≡ Some x → (c : Content) → x.content ≡ c →
      octets_of_content made_up w bodies x c ≡ octets_of_content made_up w (samples w) x c
  content_same e x known (Frames mpdus) is =
      map_same (data_octets made_up w bodies x) (data_octets made_up w (samples w) x) mpdus
      (λ k m among.
      let there = ap (λ (c : Content). slice_get (mpdus_of c) k) is ∙ among in
      ap₂ (λ (s b : List ℕ). header_as_octets (record (header_of made_up w bodies x m) { a3 = s }) ++ b)
      (source_same e x known k m there) (body_same e x known k m there))
  content_same e x known (Request start) is = refl

  pub sent_same : (e : ℕ) → frames_sent w bodies e ≡ frames_sent w (samples w) e
  sent_same e = of (exchange w e) refl
    where
      of : (o : Option Exchange) → exchange w e ≡ o → frames_sent w bodies e ≡ frames_sent w (samples w) e
      of None none = rw none refl
      of (Some x) known = rw known (content_same e x known x.content refl)

  pub frames_same : (note : Note) (answered : ReplyNote) →
      frames_by w bodies note answered ≡ frames_by w (samples w) note answered
  frames_same note (reply.Send e s t air part more eosp) = sent_same e
  frames_same note (reply.Ba start b0 b1 b2 b3 wide) = refl
  frames_same note _ = refl
