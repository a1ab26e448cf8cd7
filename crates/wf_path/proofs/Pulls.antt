-- Proves the clauses of a pull from those of the half. By cases of the reply, which sends or refuses.
use Rattle.std.proofs.Common.{◌≡◌, refl, ap, ap₂, sym, ◌∙◌, subst, ℕ, Bool, true, false, List, [], ◌∷◌, Some}
use Rattle.std.specs.Prelude.{nat_le, count_by}
use Rattle.wf_frame.specs.Answers.{reply_with}
use Rattle.wf_frame.specs.Classes.{same_class}
use Rattle.wf_frame.specs.Frames.{FrameValue}
use Rattle.wf_frame.specs.declared.answers.Brief.{Brief}
use Rattle.wf_frame.specs.declared.answers.Brief.TheVariants as brief
use Rattle.wf_frame.specs.declared.classes.Class.{Class}
use Rattle.wf_frame.specs.declared.notes.Ask.TheVariants.{Pull}
use Rattle.wf_frame.specs.declared.notes.Limits.{Limits}
use Rattle.wf_frame.specs.declared.notes.Note.TheVariants.{Asked}
use Rattle.wf_frame.specs.declared.notes.Refusal.{Refusal}
use Rattle.wf_frame.specs.declared.notes.Refusal.TheVariants.{Idle}
use Rattle.wf_frame.specs.declared.notes.ReplyNote.{ReplyNote}
use Rattle.wf_frame.specs.declared.notes.ReplyNote.TheVariants.{Refused}
use Rattle.wf_frame.specs.declared.settings.Config.{Config}
use Rattle.wf_def_world.specs.World.{World}
use Rattle.wf_def_world.specs.Refusals.{refusal, first_refusal, open_of_class, is_at_aql_total}
use Rattle.wf_def_world.specs.Step.{step}
use Rattle.wf_send_half_model.specs.Half.{TransmitValue, is_ahead_of, group_in}
use Rattle.wf_send_half_model.specs.Standing.{StandsFor, Meets}
use Rattle.wf_send_half_model.proofs.Readers.{class_count_same, ahead_same}
use Rattle.wf_send_parts.specs.Group.{GroupValue}
use Rattle.wf_path.specs.Addresses.{Addresses}
use Rattle.wf_path.specs.Group.{FliesAsSaid}
use Rattle.wf_send_half.specs.Replies.{bodies_sent}
use Rattle.wf_path.specs.Jobs.{changes_nothing, is_refused}
use Rattle.wf_path.specs.Paths.{PathValue, IsPath, RiseLittle, IsAnswered}
use Rattle.wf_send_half.proofs.Kept.{Leaves}
use Rattle.wf_send_half.proofs.Sends.{Says, Sends, Refuses, says}
use Rattle.wf_path.proofs.Rises.{rises_by}
use Rattle.wf_path.proofs.Values.{half_is, addresses_are, with_half}

-- ---- the answer

-- the answer of a pull has no list of ids
same_said : (w : World) (c : Class) (l : Limits) (x : ReplyNote) (b : Brief) (pairs : List (ℕ × ℕ))
    (ids : List ℕ) →
    Says w c l x → reply_with b pairs [] ≡ x → reply_with b pairs ids ≡ x
same_said w c l x brief.Joined pairs ids k e = e
same_said w c l x (brief.Left dropped) pairs ids k e = e
same_said w c l x brief.Set pairs ids k e = e
same_said w c l x (brief.Now now) pairs ids k e = e
same_said w c l x (brief.Accepted id dropped) pairs ids k e = e
same_said w c l x (brief.Send exchange station tid air request kind more eosp) pairs ids k e = e
same_said w c l x brief.Released pairs ids (Sends sent) e = absurd (let k = e ∙ sent.is in cc k)
same_said w c l x brief.Released pairs ids (Refuses r is how) e = absurd (let k = e ∙ how in cc k)
same_said w c l x (brief.Ba start b0 b1 b2 b3 wide) pairs ids k e = e
same_said w c l x (brief.Done acked waiting failed) pairs ids k e = e
same_said w c l x brief.Slept pairs ids k e = e
same_said w c l x brief.Woken pairs ids k e = e
same_said w c l x brief.Stopped pairs ids k e = e
same_said w c l x brief.Started pairs ids k e = e
same_said w c l x brief.Marked pairs ids k e = e
same_said w c l x (brief.Flushed dropped) pairs ids k e = e
same_said w c l x brief.Ack pairs ids k e = e
same_said w c l x (brief.Held start) pairs ids k e = e
same_said w c l x brief.Begun pairs ids k e = e
same_said w c l x brief.Freed pairs ids k e = e
same_said w c l x (brief.Ceased dropped) pairs ids (Sends sent) e = absurd (let k = e ∙ sent.is in cc k)
same_said w c l x (brief.Ceased dropped) pairs ids (Refuses r is how) e = absurd (let k = e ∙ how in cc k)
same_said w c l x (brief.Group answer) pairs ids k e = e
same_said w c l x (brief.Service answer) pairs ids k e = e
same_said w c l x (brief.Polled class) pairs ids k e = e
same_said w c l x (brief.Charged deficit) pairs ids k e = e
same_said w c l x (brief.Reaped id fate) pairs ids k e = e
same_said w c l x (brief.Refused refusal) pairs ids k e = e

pub pull_met : (w : World) (bodies : ℕ → FrameValue) (c : Class) (l : Limits) (y : TransmitValue) (b : Brief)
    (pairs : List (ℕ × ℕ)) (ids : List ℕ) →
    Meets w (bodies_sent (reply_with b pairs []) bodies) (Asked (Pull c l)) y (reply_with b pairs []) →
    Meets w (bodies_sent (reply_with b pairs ids) bodies) (Asked (Pull c l)) y (reply_with b pairs ids)
pull_met w bodies c l y b pairs ids m =
    let said : reply_with b pairs ids ≡ (step w (Asked (Pull c l))).reply =
    same_said w c l (step w (Asked (Pull c l))).reply b pairs ids (says w c l) m.reply in
    record {
      stands = subst (λ (r : ReplyNote). StandsFor y (step w (Asked (Pull c l))).world (bodies_sent r bodies))
          (m.reply ∙ sym said) m.stands;
      reply = said;
    }

-- ---- a refusal that is neither Full nor Ahead

only_idle : (a b d : Bool) (x y r : Refusal) → a ≡ false → b ≡ false →
    first_refusal ((a, x) ∷ (b, y) ∷ (d, Idle) ∷ []) ≡ Some r → r ≡ Idle
unfolding first_refusal
only_idle true b d x y r off behind is = absurd (cc off)
only_idle false true d x y r off behind is = absurd (cc behind)
only_idle false false true x y r off behind is = cc is
only_idle false false false x y r off behind is = absurd (cc is)

pub may_open : (w : World) (c : Class) (l : Limits) → nat_le w.config.inflight (open_of_class w c) ≡ false →
    is_at_aql_total w ≡ false → changes_nothing (step w (Asked (Pull c l))).reply ≡ false
may_open w c l off behind = from (says w c l)
  where
    from : Says w c l (step w (Asked (Pull c l))).reply → changes_nothing (step w (Asked (Pull c l))).reply ≡
        false
    from (Sends sent) = ap changes_nothing sent.is
    from (Refuses r h how) = ap changes_nothing (how ∙ ap Refused (only_idle _ _ _ _ _ r off behind h))

-- a pull whose answer says that it changed nothing was refused as Full or Ahead
pub closed_or_same : (v y : TransmitValue) (w : World) (bodies after : ℕ → FrameValue) (c : Class)
    (l : Limits) (b : Brief) (pairs : List (ℕ × ℕ)) (ids : List ℕ) → StandsFor v w bodies →
    Meets w after (Asked (Pull c l)) y (reply_with b pairs ids) →
    (nat_le v.config.inflight (count_by (λ x. same_class x.class c) v.opened) ≡ true → y ≡ v) →
    (nat_le v.config.inflight (count_by (λ x. same_class x.class c) v.opened) ≡ false →
    is_ahead_of v ≡ true → y ≡ v) →
    changes_nothing (reply_with b pairs ids) ≡ true → y ≡ v
closed_or_same v y w bodies after c l b pairs ids h m full ahead is =
    from (nat_le v.config.inflight (count_by (λ x. same_class x.class c) v.opened)) refl (is_ahead_of v) refl
  where
    from : (a : Bool) → nat_le v.config.inflight (count_by (λ x. same_class x.class c) v.opened) ≡ a →
        (d : Bool) → is_ahead_of v ≡ d → y ≡ v
    from true e d k = full e
    from false e true k = ahead e k
    from false e false k =
        let same : nat_le w.config.inflight (open_of_class w c) ≡ false =
        ap₂ (λ (z : Config) (n : ℕ). nat_le z.inflight n) (sym h.parts.others.config)
        (sym (class_count_same v w bodies c h.parts)) ∙ e in
        let behind : is_at_aql_total w ≡ false = sym (ahead_same v w bodies h.parts) ∙ k in
        absurd (let z : false ≡ true = sym (may_open w c l same behind) ∙ ap changes_nothing (sym m.reply) ∙
        is in
        cc z)

-- an answer that is a refusal has a brief that is this refusal
refused_only : (b : Brief) (pairs : List (ℕ × ℕ)) (ids : List ℕ) (r : Refusal) →
    reply_with b pairs ids ≡ Refused r → b ≡ brief.Refused r
refused_only brief.Joined pairs ids r is = absurd (cc is)
refused_only (brief.Left dropped) pairs ids r is = absurd (cc is)
refused_only brief.Set pairs ids r is = absurd (cc is)
refused_only (brief.Now now) pairs ids r is = absurd (cc is)
refused_only (brief.Accepted id dropped) pairs ids r is = absurd (cc is)
refused_only (brief.Send exchange station tid air request kind more eosp) pairs ids r is = absurd (cc is)
refused_only brief.Released pairs ids r is = absurd (cc is)
refused_only (brief.Ba start b0 b1 b2 b3 wide) pairs ids r is = absurd (cc is)
refused_only (brief.Done acked waiting failed) pairs ids r is = absurd (cc is)
refused_only brief.Slept pairs ids r is = absurd (cc is)
refused_only brief.Woken pairs ids r is = absurd (cc is)
refused_only (brief.Polled class) pairs ids r is = absurd (cc is)
refused_only (brief.Charged deficit) pairs ids r is = absurd (cc is)
refused_only (brief.Reaped id fate) pairs ids r is = absurd (cc is)
refused_only brief.Stopped pairs ids r is = absurd (cc is)
refused_only brief.Started pairs ids r is = absurd (cc is)
refused_only brief.Marked pairs ids r is = absurd (cc is)
refused_only (brief.Flushed dropped) pairs ids r is = absurd (cc is)
refused_only brief.Ack pairs ids r is = absurd (cc is)
refused_only (brief.Held start) pairs ids r is = absurd (cc is)
refused_only brief.Begun pairs ids r is = absurd (cc is)
refused_only brief.Freed pairs ids r is = absurd (cc is)
refused_only (brief.Ceased dropped) pairs ids r is = absurd (cc is)
refused_only (brief.Group answer) pairs ids r is = absurd (cc is)
refused_only (brief.Service answer) pairs ids r is = absurd (cc is)
refused_only (brief.Refused reason) pairs ids r is = ap brief.Refused (cc is)

-- a pull that is refused neither as Full nor as Ahead is refused as Idle
idle_then : (w : World) (c : Class) (l : Limits) → nat_le w.config.inflight (open_of_class w c) ≡ false →
    is_at_aql_total w ≡ false → is_refused (step w (Asked (Pull c l))).reply ≡ true →
    (step w (Asked (Pull c l))).reply ≡ Refused Idle
idle_then w c l off behind is = from (says w c l)
  where
    from : Says w c l (step w (Asked (Pull c l))).reply → (step w (Asked (Pull c l))).reply ≡ Refused Idle
    from (Sends sent) = absurd (let no : true ≡ false = sym is ∙ ap is_refused sent.is in cc no)
    from (Refuses r h how) = how ∙ ap Refused (only_idle _ _ _ _ _ r off behind h)

-- with the setting `pending`, a pull that is refused changes nothing
kept_if_refused : (v y : TransmitValue) (w : World) (bodies after : ℕ → FrameValue) (c : Class)
    (l : Limits) (b : Brief) (pairs : List (ℕ × ℕ)) (ids : List ℕ) → StandsFor v w bodies →
    Meets w after (Asked (Pull c l)) y (reply_with b pairs ids) →
    (nat_le v.config.inflight (count_by (λ x. same_class x.class c) v.opened) ≡ true → y ≡ v) →
    (nat_le v.config.inflight (count_by (λ x. same_class x.class c) v.opened) ≡ false →
    is_ahead_of v ≡ true → y ≡ v) → (b ≡ brief.Refused Idle → y ≡ v) →
    is_refused (reply_with b pairs ids) ≡ true → y ≡ v
kept_if_refused v y w bodies after c l b pairs ids h m full ahead idle is =
    from (nat_le v.config.inflight (count_by (λ x. same_class x.class c) v.opened)) refl (is_ahead_of v) refl
  where
    from : (a : Bool) → nat_le v.config.inflight (count_by (λ x. same_class x.class c) v.opened) ≡ a →
        (d : Bool) → is_ahead_of v ≡ d → y ≡ v
    from true e d k = full e
    from false e true k = ahead e k
    from false e false k =
        let same : nat_le w.config.inflight (open_of_class w c) ≡ false =
        ap₂ (λ (z : Config) (n : ℕ). nat_le z.inflight n) (sym h.parts.others.config)
        (sym (class_count_same v w bodies c h.parts)) ∙ e in
        let behind : is_at_aql_total w ≡ false = sym (ahead_same v w bodies h.parts) ∙ k in
        idle (refused_only b pairs ids Idle
        (m.reply ∙ idle_then w c l same behind (ap is_refused (sym m.reply) ∙ is)))

-- its reply is about no group frame
no_group : (g : GroupValue) (w : World) (c : Class) (l : Limits) →
    FliesAsSaid g (step w (Asked (Pull c l))).reply
no_group g w c l = from (says w c l)
  where
    from : Says w c l (step w (Asked (Pull c l))).reply → FliesAsSaid g (step w (Asked (Pull c l))).reply
    from (Sends sent) = subst (FliesAsSaid g) (sym sent.is) tt
    from (Refuses r h how) = subst (FliesAsSaid g) (sym how) tt

-- ---- a whole pull

-- x is the half of the path p, a are its addresses, and u is the half after the pull
module _ (x : TransmitValue) (h : IsPath x) (c : Class) (l : Limits) (b : Brief) (pairs : List (ℕ × ℕ))
    (u : TransmitValue) (meets : Leaves x u (bodies_sent (reply_with b pairs [])) (Asked (Pull c l))
    (reply_with b pairs [])) (unheard : IsPath u) where
  -- each pulled frame is sent again
  abbrev sent : (ℕ → FrameValue) → ℕ → FrameValue
  sent = bodies_sent (reply_with b pairs [])

  met : Meets h.world (sent h.bodies) (Asked (Pull c l)) u (reply_with b pairs [])
  met = meets h.world h.bodies h.stands

  pub pull_answered : (a : Addresses) (p : PathValue) →
      ◌≡◌ {A = PathValue} (record { half = x; addresses = a }) p →
      (nat_le x.config.inflight (count_by (λ y. same_class y.class c) x.opened) ≡ true → u ≡ x) →
      (nat_le x.config.inflight (count_by (λ y. same_class y.class c) x.opened) ≡ false →
      is_ahead_of x ≡ true → u ≡ x) →
      (x.config.pending ≡ 1 → b ≡ brief.Refused Idle → u ≡ x) →
      IsAnswered p (Pull c l) (record { half = u; addresses = a }) b pairs
  pull_answered a p same full ahead idle = record {
    meets = λ w bodies ids st _. pull_met w bodies c l u b pairs ids
        (meets w bodies (subst (λ (z : TransmitValue). StandsFor z w bodies) (sym (half_is same)) st));
    refused = λ ids is. ap (λ (z : TransmitValue). with_half a z)
        (closed_or_same x u h.world h.bodies _ c l b pairs ids h.stands
        (pull_met h.world h.bodies c l u b pairs ids met) full ahead is) ∙ same;
    pending = λ ids on is. ap (λ (z : TransmitValue). with_half a z)
        (kept_if_refused x u h.world h.bodies _ c l b pairs ids h.stands
        (pull_met h.world h.bodies c l u b pairs ids met) full ahead
        (idle (ap (λ (z : TransmitValue). z.config.pending) (half_is same) ∙ on)) is) ∙ same;
    flight = λ ids. subst (FliesAsSaid (group_in u 0))
        (sym (pull_met h.world h.bodies c l u b pairs ids met).reply)
        (no_group (group_in u 0) h.world c l);
    addresses = addresses_are same;
    path = unheard;
    rises = subst (λ (z : TransmitValue). RiseLittle z u) (half_is same) (rises_by x u h
        (sent h.bodies) (Asked (Pull c l)) (reply_with b pairs []) met);
  }
