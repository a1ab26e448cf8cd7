-- Proves the laws of the exchanges to a station that sleeps: each is due to a credit or to a service period.
-- Proves which exchange of a service period is the last.
use Rattle.std.proofs.Common.{◌≡◌, refl, sym, ◌∙◌, ap, ap₂, subst, ℕ, suc, Bool, true, false, not, ◌&&◌, ◌||◌, List, take, Some, is_some, if◌then◌else◌, length, inl, inr}
use Rattle.wf_frame.specs.declared.settings.Config.{Config}
use Rattle.wf_frame.specs.declared.classes.Class.{Class}
use Rattle.wf_frame.specs.declared.notes.Note.{Note}
use Rattle.wf_frame.specs.declared.notes.ReplyNote.{ReplyNote}
use Rattle.wf_frame.specs.declared.notes.ReplyNote.TheVariants.{Send}
use Rattle.wf_frame.specs.Classes.{class_of}
use Rattle.wf_def_world.specs.World.{World, Station, Exchange, Content, Frames, Request, opening, station, is_live}
use Rattle.wf_def_world.specs.Service.{is_served, limit_left, is_reached, service_after_sent}
use Rattle.wf_def_world.specs.CanSend.{can_send_in, is_request, is_reachable, may_receive}
use Rattle.wf_def_world.specs.Exchanges.{mpdus_of, part_of}
use Rattle.wf_def_world.specs.Step.{Outcome, step}
use Rattle.wf_def_world.specs.Run.{Entry}
use Rattle.wf_def_world.specs.Stretches.{world_at}
use Rattle.wf_law_rules.proofs.Lemmas.Numbers.{both, yes_eq}
use Rattle.wf_law_runs.specs.Groups.{reply_at_entry}
use Rattle.wf_law_runs.specs.Services.{is_data, is_granted, GrantedLaw, EospLaw, LastLaw}
use Rattle.wf_law_runs.specs.Tries.{frames_in_part}
use Rattle.wf_law_runs.specs.Waiting.{is_sent_to}
use Rattle.wf_law_runs.proofs.Common.Moments.{IsEntry, entry}
use Rattle.wf_law_runs.proofs.Tries.Law.{part_length}
use Rattle.wf_law_runs.proofs.Windows.Agreed.{lawful}
use Rattle.wf_law_runs.proofs.Services.Naps.{nap_at}
use Rattle.wf_law_runs.proofs.Services.Sends.{IsSent, after_sent}
use Rattle.wf_law_runs.proofs.Services.Steps.{Effect, Nothing, Sleeps, Wakes, Leaves, Serves, Sends, IsEffect, HasEffect, after_effect, effect_step}

-- ---- entries that send

-- Entry m sends exchange x to station s.
pub record SendsAt (config : Config) (h : List Entry) (m s : ℕ) (x : Exchange) : Type 0 where
  pub note : Note
  pub is : IsSent (world_at config h m) note (step (world_at config h m) note).reply s x
  pub after : nap_at (world_at config h (suc m)) s ≡ after_sent x (nap_at (world_at config h m) s)
  pub reply : reply_at_entry config h m
      ≡ Some (Send x.number s x.tid x.charge (part_of x.batch x.plain x.content) x.more x.eosp)

-- Only an exchange to station s is a reply that sends to it.
exchange_of_reply : (f : Effect) (w : World) (note : Note) (r : ReplyNote) (s : ℕ) → IsEffect w note r s f →
    is_sent_to s r ≡ true → (x : Exchange) × ((f ≡ Sends x) × IsSent w note r s x)
exchange_of_reply Nothing w note r s i sent = absurd (cc (i, sent))
exchange_of_reply Sleeps w note r s i sent = absurd (cc (ap (is_sent_to s) i.1, sent))
exchange_of_reply Wakes w note r s i sent = absurd (cc (ap (is_sent_to s) i.1, sent))
exchange_of_reply Leaves w note r s i sent = absurd (cc (ap (is_sent_to s) i.1.1, sent))
exchange_of_reply (Serves ask) w note r s i sent = absurd (cc (ap (is_sent_to s) i.reply, sent))
exchange_of_reply (Sends x) w note r s i sent = (x, (refl, i))

sends_by : (config : Config) (h : List Entry) (m s : ℕ) (note : Note) → IsEntry (opening config) h m note →
    HasEffect (world_at config h m) note s (step (world_at config h m) note) →
    is_sent_to s (step (world_at config h m) note).reply ≡ true → (x : Exchange) × SendsAt config h m s x
sends_by config h m s note i f sent =
    let o : Outcome = step (world_at config h m) note in
    let x = exchange_of_reply f.effect (world_at config h m) note o.reply s f.is sent in (
      x.0,
      record {
        note = note;
        is = x.1.1;
        after = ap (λ (v : World). nap_at v s) i.world
            ∙ after_of f.effect x.0 x.1.0 (nap_at o.world s) (nap_at (world_at config h m) s) f.after;
        reply = i.reply ∙ ap (λ (q : ReplyNote). Some q) x.1.1.reply;
      },
    )
  where
    after_of : (g : Effect) (x : Exchange) → g ≡ Sends x → (z y : Station) → z ≡ after_effect g y →
        z ≡ after_effect (Sends x) y
    after_of g x e z y k = subst (λ (f : Effect). z ≡ after_effect f y) e k

pub sends_at : (config : Config) (h : List Entry) (m s : ℕ) (r : ReplyNote) →
    reply_at_entry config h m ≡ Some r → is_sent_to s r ≡ true → (x : Exchange) × SendsAt config h m s x
sends_at config h m s r e sent = elim (entry h (opening config) m) [
  | inl past ↦ absurd (cc (e, past.reply))
  | inr found ↦
      let same : r ≡ (step (world_at config h m) found.0).reply = cc (e, found.1.reply) in
      sends_by config h m s found.0 found.1
      (effect_step found.0 (world_at config h m) s (lawful config (take m h)))
      (sym (ap (is_sent_to s) same) ∙ sent)
]

-- ---- what a sleeping station gets

granted_by : (x : Station) (c : Class) → is_reachable x c ≡ true → x.asleep ≡ true → is_granted x c ≡ true
granted_by x c reach asleep = ap (λ (b : Bool). not b || is_granted x c) (sym asleep) ∙ reach

pub granted_law : (config : Config) (h : List Entry) → GrantedLaw config h
granted_law config h m e s t air part more eosp sends asleep =
    let w : World = world_at config h m in
    let y = sends_at config h m s (Send e s t air part more eosp) sends (yes_eq s s refl) in
    let x : Exchange = y.0 in
    let may : may_receive w s x.class ≡ true =
    (both (can_send_in w s x.class) _ (both (is_live w s) _ y.1.is.ready).1).1 in
    let reach : is_reachable (station w s) x.class ≡ true =
    (both (is_reachable (station w s) x.class) _ (both (not (station w s).stopped) _ may).1).0 in
    let tid : t ≡ x.tid = cc (sends, y.1.reply) in
    ap (is_granted (station w s)) (ap class_of tid ∙ y.1.is.its_class)
    ∙ granted_by (station w s) x.class reach asleep

-- ---- the last exchange of a service period

-- Only an exchange of a service period is the last one.
last_only : (last served rest : Bool) → last ≡ (served && rest) → last ≡ true → served ≡ true
last_only last true rest e is = refl
last_only last false rest e is = absurd (cc (e, is))

ended_if : (x : Exchange) (z : Station) → is_served z x.class ≡ true → x.eosp ≡ true →
    is_some (after_sent x z).service ≡ false
ended_if x z served last =
    ap (λ (b : Bool). is_some (if b then service_after_sent x.eosp (length (mpdus_of x.content)) z.service
    else z.service)) served
    ∙ ap (λ (b : Bool). is_some (service_after_sent b (length (mpdus_of x.content)) z.service)) last

pub eosp_law : (config : Config) (h : List Entry) → EospLaw config h
eosp_law config h m e s t air part more sends =
    let w : World = world_at config h m in
    let y = sends_at config h m s (Send e s t air part more true) sends (yes_eq s s refl) in
    let x : Exchange = y.0 in
    let tid : t ≡ x.tid = cc (sends, y.1.reply) in
    let last : x.eosp ≡ true = cc (sends, y.1.reply) in
    let served : is_served (nap_at w s) x.class ≡ true = last_only x.eosp _ _ y.1.is.last last in
    record {
      served = ap (is_served (station w s)) (ap class_of tid ∙ y.1.is.its_class) ∙ served;
      ended = ap (λ (z : Station). is_some z.service) y.1.after ∙ ended_if x (nap_at w s) served last;
    }

data_frames : (batch plain : Bool) (c : Content) → is_data (part_of batch plain c) ≡ true →
    is_request c ≡ false
data_frames batch plain (Frames ms) h = refl
data_frames false plain (Request start) h = absurd (cc h)
data_frames true plain (Request start) h = absurd (cc h)

last_of : (last served reached waits request : Bool) → served ≡ true → request ≡ false →
    last ≡ (served && (not request && (reached || not waits))) → last ≡ (reached || not waits)
last_of last true reached waits false a b e = e
last_of last false reached waits request a b e = absurd (cc a)
last_of last true reached waits true a b e = absurd (cc b)

pub last_law : (config : Config) (h : List Entry) → LastLaw config h
last_law config h m e s t air part more eosp sends sends_data served =
    let w : World = world_at config h m in
    let z : Station = nap_at w s in
    let y = sends_at config h m s (Send e s t air part more eosp) sends (yes_eq s s refl) in
    let x : Exchange = y.0 in
    let tid : t ≡ x.tid = cc (sends, y.1.reply) in
    let its_part : part ≡ part_of x.batch x.plain x.content = cc (sends, y.1.reply) in
    let its_more : more ≡ x.more = cc (sends, y.1.reply) in
    let its_last : eosp ≡ x.eosp = cc (sends, y.1.reply) in
    let own : is_served z x.class ≡ true =
    ap (is_served z) (sym (ap class_of tid ∙ y.1.is.its_class)) ∙ served in
    let frames : is_request x.content ≡ false =
    data_frames x.batch x.plain x.content (sym (ap is_data its_part) ∙ sends_data) in
    let count : frames_in_part part ≡ length (mpdus_of x.content) =
    ap frames_in_part its_part ∙ part_length x.batch x.plain x.content in
    its_last
    ∙ (last_of x.eosp (is_served z x.class) (is_reached (limit_left z.service) (length (mpdus_of x.content)))
    y.1.is.waits (is_request x.content) own frames y.1.is.last
    ∙ ap₂ (λ (n : ℕ) (b : Bool). is_reached (limit_left z.service) n || not b) (sym count)
    (sym (its_more ∙ y.1.is.more own frames)))
