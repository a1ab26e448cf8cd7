-- Proves that all numbers of a TID that are compared are within 2047 of each other, from the window law and
-- the bounds on windows.
use Rattle.std.proofs.Common.{◌≡◌, sym, subst, arith, ℕ, ◌≤◌, ◌<◌, ◌+◌, ◌*◌, List, [], ◌∷◌, IfSome, take}
use Rattle.wf_frame.specs.declared.settings.Config.{Config}
use Rattle.wf_def_agreement.specs.Session.{Session, next_number}
use Rattle.wf_def_agreement.specs.Receiver.{Receiver, release_start, score_start, greatest}
use Rattle.wf_def_world.specs.World.{World, Exchange, Content, Frames, Request, session, receiver}
use Rattle.wf_def_world.specs.Run.{Entry}
use Rattle.wf_def_world.specs.Stretches.{world_at}
use Rattle.wf_law_runs.specs.Windows.{EachOpen, IfAsks, AreNear, IsPending, IsOpenRight, KeepsWindows}
use Rattle.wf_law_runs.specs.TwelveBits.{IsInUse, ComparisonsAreRight, TwelveBitLaw}
use Rattle.wf_law_rules.proofs.Lemmas.Numbers.{missing_ge, score_within}
use Rattle.wf_law_runs.proofs.Windows.Opened.{Each}
use Rattle.wf_law_runs.proofs.Windows.Agreement.{IsAgreed, next_release, below_next, option_along}
use Rattle.wf_law_runs.proofs.Windows.Agreed.{IsLawful, lawful}
use Rattle.wf_law_runs.proofs.Windows.Sizes.{IsSized, sized}
use Rattle.wf_law_runs.proofs.Windows.Answered.{Marked, marked, StandsNear, answers_near}
use Rattle.wf_law_runs.proofs.Windows.Law.{window_law}

score_release : (y : Session) (r : Receiver) → IsAgreed y r → score_start r ≤ release_start r
score_release y r a =
    score_within r.arrived (greatest r.first r.starts) r.size (release_start r)
    (missing_ge r.arrived (greatest r.first r.starts))
    (λ n h. omega (arith, a.size, next_release y r a, (a.arrived n h).1))

each_open : (P Q : Exchange → Type 0) → ((x : Exchange) → P x → Q x) → (xs : List Exchange) → EachOpen P xs →
    EachOpen Q xs
each_open P Q f [] e = tt
each_open P Q f (x ∷ xs) e = (f x e.0, each_open P Q f xs e.1)

if_asks : (c : Content) (P Q R : ℕ → Type 0) → ((f : ℕ) → P f → Q f → R f) → IfAsks c P → IfAsks c Q →
    IfAsks c R
if_asks (Frames ms) P Q R k p q = tt
if_asks (Request f) P Q R k p q = k f p q

asked_in : (w : World) → KeepsWindows w → IsSized w → (s t : ℕ) →
    EachOpen (λ x. x.station ≡ s → x.tid ≡ t → IfAsks x.content (IsInUse w s t)) w.opened
asked_in w k i s t =
    each_open (λ x. IsOpenRight (session w x.station x.tid) (receiver w x.station x.tid) x)
    (λ x. x.station ≡ s → x.tid ≡ t → IfAsks x.content (IsInUse w s t))
    (λ x o es et.
    let right : IsOpenRight (session w s t) (receiver w s t) x =
    subst (λ (j : ℕ). IsOpenRight (session w s j) (receiver w s j) x) et
    (subst (λ (j : ℕ). IsOpenRight (session w j x.tid) (receiver w j x.tid) x) es o) in
    let y : Session = session w s t in
    let r : Receiver = receiver w s t in
    if_asks x.content (λ f. IsPending f y) (λ f. (release_start r ≤ f + y.size) ×
    (f ≤ release_start r + y.size) × (score_start r ≤ f + y.size) × (f ≤ score_start r + 2 * y.size))
    (IsInUse w s t)
    (λ f p q. (omega (arith, q.2, i.size s t), omega (arith, p.start, p.start_next))) right.pending
    right.start)
    w.opened k.opened

answered_in : (w : World) → IsSized w → (s t : ℕ) → (xs : List Exchange) →
    Each (λ x. IfSome x.answer (StandsNear (session w x.station x.tid) (receiver w x.station x.tid))) xs
    → EachOpen (λ x. x.station ≡ s → x.tid ≡ t → IfSome x.answer (λ b. IsInUse w s t b.start)) xs
answered_in w i s t [] e = tt
answered_in w i s t (x ∷ xs) e = (
  (λ es et. subst (λ (j : ℕ). IfSome x.answer (λ b. IsInUse w s j b.start)) et
      (subst (λ (j : ℕ). IfSome x.answer (λ b. IsInUse w j x.tid b.start)) es
      (option_along (StandsNear (session w x.station x.tid) (receiver w x.station x.tid))
      (λ b. IsInUse w x.station x.tid b.start) x.answer
      (λ b n. (omega (arith, n.0, i.size x.station x.tid), n.1)) e.0))),
  answered_in w i s t xs e.1,
)

compares : (w : World) → KeepsWindows w → IsLawful w → Marked w → IsSized w → (s t : ℕ) →
    ComparisonsAreRight w s t
compares w k i m z s t =
    let y : Session = session w s t in
    let r : Receiver = receiver w s t in
    let near : AreNear y r = k.near s t in
    let low : score_start r ≤ release_start r = score_release y r (i.agreed s t) in
    let small : y.size ≤ 256 = z.size s t in
    record {
      size = small;
      start = (omega (arith, near.score_start), near.start_next);
      next = (omega (arith, near.score_start, near.start_next), omega arith);
      release = (omega (arith, low), near.release_next);
      score = (omega arith, omega (arith, near.score_start, near.start_next));
      flying = λ n e from f.
          let d = (k.known s t).flying n e from f in (
            omega (arith, d.2),
            (let l : n < next_number y = below_next y n from (λ a. cc (sym f, a)) in
                omega (arith, l)),
          );
      asked = asked_in w k z s t;
      answered = answered_in w z s t w.opened (answers_near w i m);
      close = λ m n a b. omega (arith, a.1, b.0, near.next_score, small);
    }

pub twelve_bit_law : (config : Config) (h : List Entry) → TwelveBitLaw config h
twelve_bit_law config h m s t = compares (world_at config h m) (window_law config h m)
    (lawful config (take m h)) (marked config (take m h)) (sized config (take m h)) s t
