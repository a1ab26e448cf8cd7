-- Proves the law of modes: each open exchange is right for the mode of its TID, and a mode changes only by
-- the calls for it. The invariant of the agreements says what a world keeps.
use Rattle.std.proofs.Common.{◌≡◌, refl, ap, sym, ◌∙◌, arith, ℕ, suc, ◌≤◌, Bool, true, false, not, ◌||◌, List, [], ◌∷◌, length, take}
use Rattle.wf_frame.specs.declared.settings.Config.{Config}
use Rattle.wf_frame.specs.Settings.{IsInRange}
use Rattle.wf_def_agreement.specs.Session.{Session, State, is_settled, start_of, next_number}
use Rattle.wf_def_world.specs.World.{World, Exchange, Mpdu, session, is_offloaded, is_agreed, is_plain}
use Rattle.wf_def_world.specs.Exchanges.{mpdus_of}
use Rattle.wf_def_world.specs.Run.{Entry}
use Rattle.wf_def_world.specs.Stretches.{world_at}
use Rattle.wf_law_runs.specs.Windows.{EachOpen}
use Rattle.wf_law_runs.specs.Modes.{IsPlainRight, KeepsModes, ModeLaw}
use Rattle.wf_law_runs.proofs.Sessions.Flights.{AllIn, Rises}
use Rattle.wf_law_runs.proofs.Windows.Agreement.{unsettled_ge}
use Rattle.wf_law_runs.proofs.Windows.Opened.{Each}
use Rattle.wf_law_runs.proofs.Windows.Agreed.{IsLawful, IsOpenIn, lawful}
use Rattle.wf_law_runs.proofs.Modes.Kept.{keeps_mode}

-- If at most one number is unsettled, at most one is on the air.
few_flying : (y : Session) (e : ℕ) (ms : List Mpdu) → next_number y ≤ suc (start_of y) →
    Rises y.first (next_number y) ms → AllIn y (State.Flying e) ms → length ms ≤ 1
few_flying y e [] near r f = omega arith
few_flying y e (m ∷ []) near r f = omega arith
few_flying y e (m ∷ k ∷ ms) near r f =
    let low : start_of y ≤ m.number = unsettled_ge y m.number r.0 (ap is_settled f.0) in
    absurd (omega (arith, near, low, r.2.0, r.2.1))

-- A TID without an agreement and a device has at most one number that is not settled.
pub one_number : (w : World) (s t : ℕ) → IsLawful w → is_plain w s t ≡ true →
    next_number (session w s t) ≤ suc (start_of (session w s t))
one_number w s t i plain = omega (arith, (i.agreed s t).within.within, (i.moded s t).narrow plain)

-- A plain TID has no agreement.
pub plain_unagreed : (w : World) (s t : ℕ) → is_plain w s t ≡ true → is_agreed w s t ≡ false
plain_unagreed w s t = go (is_offloaded w s) (is_agreed w s t)
  where
    go : (a b : Bool) → not (a || b) ≡ true → b ≡ false
    go true b h = absurd (cc h)
    go false true h = absurd (cc h)
    go false false h = refl

-- A plain exchange sends at most one frame.
pub one_sent : (w : World) (x : Exchange) → IsLawful w → IsOpenIn w x → x.plain ≡ true →
    length (mpdus_of x.content) ≤ 1
one_sent w x i o plain = few_flying (session w x.station x.tid) x.number (mpdus_of x.content)
    (one_number w x.station x.tid i (sym o.plain ∙ plain)) o.opened.flies.rising o.opened.flies.flying

all_right : (w : World) → IsLawful w → (xs : List Exchange) → Each (IsOpenIn w) xs →
    EachOpen (IsPlainRight w) xs
all_right w i [] e = tt
all_right w i (x ∷ xs) e = (
  record {
    plain = e.0.plain;
    frames = λ h. e.0.calm (plain_unagreed w x.station x.tid (sym e.0.plain ∙ h));
    one = one_sent w x i e.0;
  },
  all_right w i xs e.1,
)

pub keeps_modes : (w : World) → IsLawful w → KeepsModes w
keeps_modes w i = record {
  opened = all_right w i w.opened i.opened;
  none_due = λ s t. i.quiet s t refl;
  one = λ s t. one_number w s t i;
}

pub mode_law : (config : Config) (h : List Entry) → IsInRange config → ModeLaw config h
mode_law config h range = record {
  worlds = λ m. keeps_modes (world_at config h m) (lawful config (take m h));
  calls = λ m note. keeps_mode (world_at config h m) note;
}
