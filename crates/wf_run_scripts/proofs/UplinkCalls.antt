-- Proves the text of calls that are made in order, call by call, and of the holes that are given up after a
-- step of the clock.
use Rattle.std.proofs.Common.{◌≡◌, ℕ, zero, suc, ◌*◌, List, [], ◌∷◌, ◌++◌, true, false, refl, sym, ◌∙◌, ap, ap₂, subst, append_assoc, append-nil, arith}
use Rattle.std.specs.Prelude.{Option, Some, None, IfSome, is_some, replicate}
use Rattle.std.specs.Io.KnownBytes.{append_known}
use Rattle.wf_io.specs.Fronts.{HoldsFront}
use Rattle.wf_io.proofs.FrontLaws.{append_known-nil}
use Rattle.wf_uplink.specs.declared.up.Up.{Up}
use Rattle.wf_uplink.specs.declared.bitmap.Bitmap.{Bitmap}
use Rattle.wf_uplink.specs.declared.fault.RequestFault.{RequestFault}
use Rattle.wf_uplink.specs.Sides.{bitmap_of}
use Rattle.wf_uplink.specs.Shown.{up_of}
use Rattle.wf_uplink.specs.World.{World, Call, Request, NotRequested, Tick, Expire, first_request_fault, request_delivery, board_shown, request_answer, first_due, timeout_of, after_call, after_calls, answer, answers, tids_of_station}
use Rattle.wf_uplink.proofs.Heard.{none_after}
use Rattle.wf_run_scripts.specs.UplinkAnswers.{stations, calls_text, answer_text, up_line, request_line}
use Rattle.wf_run_scripts.specs.UplinkPieces.{IsBegun}
use Rattle.wf_run_scripts.specs.UplinkRoom.{can_count, lacks_room}
use Rattle.wf_run_scripts.proofs.UplinkRoom.{later_lacks, expire_lacks}
use Rattle.wf_run_scripts.proofs.UplinkWriting.{begun_none, begun_next, begun_next_front, begun_written}

-- ---- calls in order

pub after-append : (w : World) (xs ys : List Call) →
    after_calls w (xs ++ ys) ≡ after_calls (after_calls w xs) ys
unfolding after_calls
after-append w [] ys = refl
after-append w (x ∷ xs) ys = after-append (after_call x w) xs ys

pub text-append : (w : World) (xs ys : List Call) →
    calls_text w (xs ++ ys) ≡ calls_text w xs ++ calls_text (after_calls w xs) ys
unfolding after_calls answers
text-append w [] ys = refl
text-append w (x ∷ xs) ys =
    ap (λ l. answer_text (answer x w) ++ l) (text-append (after_call x w) xs ys)
    ∙ sym (append_assoc (answer_text (answer x w)) (calls_text (after_call x w) xs)
    (calls_text (after_calls (after_call x w) xs) ys))

-- One call.
pub text_one : (w : World) (call : Call) (more : List Call) →
    calls_text w (call ∷ more) ≡ answer_text (answer call w) ++ calls_text (after_call call w) more
unfolding answers
text_one w call more = refl

pub after_one : (w : World) (call : Call) (more : List Call) →
    after_calls w (call ∷ more) ≡ after_calls (after_call call w) more
unfolding after_calls
after_one w call more = refl

pub text_none : (w : World) → calls_text w [] ≡ []
unfolding answers
text_none w = refl

pub after_none : (w : World) → after_calls w [] ≡ w
unfolding after_calls
after_none w = refl

pub text_single : (w : World) (call : Call) → calls_text w (call ∷ []) ≡ answer_text (answer call w)
text_single w call = text_one w call [] ∙ ap (λ l. answer_text (answer call w) ++ l)
    (text_none (after_call call w)) ∙ append-nil (answer_text (answer call w))

-- A request that is accepted, and one that is refused.
pub request_text : (w : World) (octets : List ℕ) (up : Up) (b : Bitmap) →
    first_request_fault octets w ≡ None → up ≡ up_of (request_delivery octets w) →
    b ≡ bitmap_of (board_shown octets w) → calls_text w (Request octets ∷ []) ≡ request_line up b
request_text w octets up b none is shown =
    text_single w (Request octets)
    ∙ ap (λ f. answer_text (request_answer f octets w)) none
    ∙ sym (ap₂ request_line is shown)

pub refused_text : (w : World) (octets : List ℕ) (fault : RequestFault) →
    first_request_fault octets w ≡ Some fault →
    calls_text w (Request octets ∷ []) ≡ answer_text (NotRequested fault)
refused_text w octets fault some = text_single w (Request octets)
    ∙ ap (λ f. answer_text (request_answer f octets w)) some

pub after_single : (w : World) (call : Call) → after_calls w (call ∷ []) ≡ after_call call w
after_single w call = after_one w call [] ∙ after_none (after_call call w)

-- ---- if no hole is due, any number of timeouts writes nothing

pub quiet_after : (w : World) (n : ℕ) → first_due w ≡ None → after_calls w (replicate n Expire) ≡ w
quiet_after w zero none = after_none w
quiet_after w (suc n) none = after_one w Expire (replicate n Expire)
    ∙ ap (λ v. after_calls v (replicate n Expire)) (sym (none_after w none)) ∙ quiet_after w n none

nothing_told : (w : World) → first_due w ≡ None → answer_text (answer Expire w) ≡ []
nothing_told w none = rw none refl

pub quiet_text : (w : World) (n : ℕ) → first_due w ≡ None → calls_text w (replicate n Expire) ≡ []
quiet_text w zero none = text_none w
quiet_text w (suc n) none =
    text_one w Expire (replicate n Expire) ∙ ap (λ l. l
    ++ calls_text (after_call Expire w) (replicate n Expire)) (nothing_told w none)
    ∙ ap (λ v. calls_text v (replicate n Expire)) (sym (none_after w none)) ∙ quiet_text w n none

-- ---- holes are given up, one by one

due_told : (w : World) (place : ℕ) → first_due w ≡ Some place →
    answer_text (answer Expire w) ≡ up_line false (up_of (timeout_of place w))
due_told w place is = rw is refl

-- The text of one more hole comes before that of the others.
due_text : (w : World) (place n : ℕ) → first_due w ≡ Some place →
    calls_text w (replicate (suc n) Expire) ≡ up_line false (up_of (timeout_of place w))
    ++ calls_text (after_call Expire w) (replicate n Expire)
due_text w place n is = text_one w Expire (replicate n Expire)
    ∙ ap (λ l. l ++ calls_text (after_call Expire w) (replicate n Expire)) (due_told w place is)

-- A prefix of the holes' text was written, and `left` timeouts remain.
pub record GivesUp (old now : Option (List ℕ)) (before w : World) (left : ℕ) : Type 0 where
  pub text : IsBegun old now (calls_text w (replicate left Expire))
      (calls_text before (replicate (tids_of_station * stations) Expire))
  pub after : after_calls before (replicate (tids_of_station * stations) Expire)
      ≡ after_calls w (replicate left Expire)
  pub room : lacks_room w (replicate left Expire) ≡ true →
      lacks_room before (replicate (tids_of_station * stations) Expire) ≡ true

pub none_given_up : (old : Option (List ℕ)) (w : World) → GivesUp old old w w (tids_of_station * stations)
none_given_up old w = record {
  text = begun_none old
      (calls_text w (replicate (tids_of_station * stations) Expire));
  after = refl;
  room = λ lacks. lacks;
}

pub one_given_up : (old now new : Option (List ℕ)) (before w : World) (place n : ℕ) →
    GivesUp old now before w (suc n) → first_due w ≡ Some place →
    new ≡ append_known now (up_line false (up_of (timeout_of place w))) →
    GivesUp old new before (after_call Expire w) n
one_given_up old now new before w place n gives is wrote =
    let text : IsBegun old now (up_line false (up_of (timeout_of place w))
    ++ calls_text (after_call Expire w) (replicate n Expire))
    (calls_text before (replicate (tids_of_station * stations) Expire)) =
    subst (λ l. IsBegun old now l (calls_text before (replicate (tids_of_station * stations) Expire)))
    (due_text w place n is) gives.text in
    record {
      text = begun_next old now new (up_line false (up_of (timeout_of place w)))
          (calls_text (after_call Expire w) (replicate n Expire))
          (calls_text before (replicate (tids_of_station * stations) Expire)) text wrote;
      after = gives.after ∙ after_one w Expire (replicate n Expire);
      room = λ lacks. gives.room (later_lacks w Expire (replicate n Expire) lacks);
    }

pub one_front : (old now new : Option (List ℕ)) (before w : World) (place n : ℕ) →
    GivesUp old now before w (suc n) → first_due w ≡ Some place →
    HoldsFront now new (up_line false (up_of (timeout_of place w))) →
    HoldsFront old new (calls_text before (replicate (tids_of_station * stations) Expire))
one_front old now new before w place n gives is front =
    begun_next_front old now new (up_line false (up_of (timeout_of place w)))
    (calls_text (after_call Expire w) (replicate n Expire))
    (calls_text before (replicate (tids_of_station * stations) Expire))
    (subst (λ l. IsBegun old now l (calls_text before (replicate (tids_of_station * stations) Expire)))
    (due_text w place n is) gives.text) front

-- The first hole that is due is given up, and its text is written.
pub due_step : (old now new : Option (List ℕ)) (before v w after : World) (up : Up) (left n : ℕ) → w ≡ v →
    left ≡ suc n → GivesUp old now before v left → is_some (first_due w) ≡ true →
    IfSome (first_due w) (λ place. up ≡ up_of (timeout_of place w)) → after ≡ after_call Expire w →
    new ≡ append_known now (up_line false up) → GivesUp old new before after n
due_step old now new before v w after up left n view more gives some told is wrote =
    by_due (first_due w) refl some told
  where
    by_due : (o : Option ℕ) → first_due w ≡ o → is_some o ≡ true →
        IfSome o (λ place. up ≡ up_of (timeout_of place w)) → GivesUp old new before after n
    by_due None due some told = absurd (grind (arith, some))
    by_due (Some place) due some told =
        subst (λ (u : World). GivesUp old new before u n) (sym is)
        (one_given_up old now new before w place n (subst (λ k. GivesUp old now before w k) more
        (subst (λ (u : World). GivesUp old now before u left) (sym view) gives)) due
        (wrote ∙ ap (λ u. append_known now (up_line false u)) told))

pub due_front : (old now new : Option (List ℕ)) (before v w : World) (up : Up) (left n : ℕ) → w ≡ v →
    left ≡ suc n → GivesUp old now before v left → is_some (first_due w) ≡ true →
    IfSome (first_due w) (λ place. up ≡ up_of (timeout_of place w)) → HoldsFront now new (up_line false up) →
    HoldsFront old new (calls_text before (replicate (tids_of_station * stations) Expire))
due_front old now new before v w up left n view more gives some told front =
    by_due (first_due w) refl some told
  where
    by_due : (o : Option ℕ) → first_due w ≡ o → is_some o ≡ true →
        IfSome o (λ place. up ≡ up_of (timeout_of place w)) →
        HoldsFront old new (calls_text before (replicate (tids_of_station * stations) Expire))
    by_due None due some told = absurd (grind (arith, some))
    by_due (Some place) due some told =
        one_front old now new before w place n (subst (λ k. GivesUp old now before w k) more
        (subst (λ (u : World). GivesUp old now before u left) (sym view) gives)) due
        (subst (λ u. HoldsFront now new (up_line false u)) told front)

-- There is no room for the next hole.
pub full_front : (old now : Option (List ℕ)) (before w : World) (left n : ℕ) → left ≡ suc n →
    GivesUp old now before w left → can_count w ≡ false →
    lacks_room before (replicate (tids_of_station * stations) Expire) ≡ true
full_front old now before w left n more gives full =
    gives.room (rw more (expire_lacks w (replicate n Expire) full))

-- No hole is due, or no timeout remains.
pub given_up_text : (old now : Option (List ℕ)) (before w : World) (left : ℕ) →
    GivesUp old now before w left → calls_text w (replicate left Expire) ≡ [] →
    now ≡ append_known old (calls_text before (replicate (tids_of_station * stations) Expire))
given_up_text old now before w left gives over =
    begun_written old now now [] (calls_text before (replicate (tids_of_station * stations) Expire))
    (subst (λ l. IsBegun old now l (calls_text before (replicate (tids_of_station * stations) Expire))) over
    gives.text) (sym (append_known-nil now))

-- ---- time passes

pub tick_text : (w after : World) (by : ℕ) (line : List ℕ) → line ≡ answer_text (answer (Tick by) w) →
    after ≡ after_call (Tick by) w →
    calls_text w (Tick by ∷ replicate (tids_of_station * stations) Expire) ≡ line
    ++ calls_text after (replicate (tids_of_station * stations) Expire)
tick_text w after by line told is =
    text_one w (Tick by) (replicate (tids_of_station * stations) Expire)
    ∙ ap (λ l. l ++ calls_text (after_call (Tick by) w) (replicate (tids_of_station * stations) Expire))
    (sym told)
    ∙ ap (λ (v : World). line ++ calls_text v (replicate (tids_of_station * stations) Expire)) (sym is)
