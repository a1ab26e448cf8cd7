-- Proves the effect of an Answer on the receive halves and the marks, and its reply.
use Rattle.std.proofs.Common.{◌≡◌, refl, ap, sym, ◌∙◌, subst, ℕ, ◌%◌, nat_lt, Bool, true, false, if◌then◌else◌, List, map, Option, Some, None}
use Rattle.wf_frame.specs.declared.notes.Ask.TheVariants.{Answer}
use Rattle.wf_frame.specs.declared.notes.Note.TheVariants.{Asked}
use Rattle.wf_frame.specs.declared.notes.ReplyNote.{ReplyNote}
use Rattle.wf_frame.specs.declared.notes.ReplyNote.TheVariants.{Ack, Ba}
use Rattle.wf_def_agreement.specs.Receiver.{Score, score, bitmap_word}
use Rattle.wf_def_lists.specs.Table.{bits_word}
use Rattle.wf_def_world.specs.World.{World, Exchange, receiver, exchange, is_wide, with_exchange}
use Rattle.wf_def_world.specs.Refusals.{refusal}
use Rattle.wf_def_world.specs.Step.{answer_reply as answer_reply_of, answer_outcome, outcome_where_open, outcome_of, step}
use Rattle.wf_law_runs.proofs.Releases.Kept.{keep_answered}
use Rattle.wf_law_driver.proofs.Opened.{with_replaced, found_number}
use Rattle.wf_recv_marks.specs.declared.marks.Mark.{Mark}
use Rattle.wf_recv_marks.specs.Marks.{with_answer, with_changed}
use Rattle.wf_recv_peer.specs.Board.{Board}
use Rattle.wf_recv_peer.specs.Agreements.{PeerValue}
use Rattle.wf_recv_peer_refines.specs.Half.{board_of}
use Rattle.wf_send_half_model.specs.Standing.{IsReached}
use Rattle.wf_cell_model.specs.Hearing.{agreement_of, mark_of, Hears}
use Rattle.wf_cell_model.proofs.Keeping.{Stays, reply_done, lawful_now, stays_kept, hears_outcome}
use Rattle.wf_cell_model.proofs.Marks.{changed_marks, rises_now}
use Rattle.wf_cell_model.proofs.Receivers.{SameReceivers, receivers_exchange}
use Rattle.wf_cell_model.proofs.Sent.{open_now, tid_now}

-- ---- the answer

-- the scoreboard of an open exchange's TID
pub board_now : (peers : List PeerValue) (marks : List Mark) (w : World) (e : ℕ) (x : Exchange) →
    IsReached w → Hears peers marks w →
    exchange w e ≡ Some x → (agreement_of peers x.station x.tid).board ≡ board_of (receiver w x.station x.tid)
board_now peers marks w e x reached h found =
    (h.agreements x.station x.tid (open_now w reached e x found).live
    (tid_now w reached e x found)).scoreboard

answered_opened : (w : World) (x : Exchange) →
    (answer_outcome w x).world.opened ≡ with_replaced
    (record x { answer = Some (score (receiver w x.station x.tid)) }) w.opened
unfolding answer_outcome with_exchange
answered_opened w x = refl

receivers_answered : (w : World) (x : Exchange) → SameReceivers w (answer_outcome w x).world
unfolding answer_outcome
receivers_answered w x = receivers_exchange w
    (record x { answer = Some (score (receiver w x.station x.tid)) })

pub answered_hears : (peers : List PeerValue) (marks : List Mark) (w : World) (e : ℕ) (x : Exchange) →
    IsReached w → Hears peers marks w →
    exchange w e ≡ Some x → refusal w (Asked (Answer e)) ≡ None →
    Hears peers (with_changed e (with_answer (agreement_of peers x.station x.tid).board.start
    (agreement_of peers x.station x.tid).board.offsets) marks)
    (step w (Asked (Answer e))).world
unfolding outcome_of outcome_where_open
answered_hears peers marks w e x reached h found fine =
    let b : Board = (agreement_of peers x.station x.tid).board in
    let z : Exchange = record x { answer = Some (score (receiver w x.station x.tid)) } in
    let u : World = (answer_outcome w x).world in
    let same : (outcome_of w (Asked (Answer e))).world ≡ u =
    ap (λ (o : Option Exchange). (outcome_where_open w o (λ y. answer_outcome w y)).world) found in
    let it : with_answer b.start b.offsets (mark_of x) ≡ mark_of z =
    ap (λ (k : Board). with_answer k.start k.offsets (mark_of x))
    (board_now peers marks w e x reached h found) in
    hears_outcome peers marks _ w (Asked (Answer e)) (lawful_now w reached) fine
    (subst (λ (v : World). Stays w v) (sym same) (stays_kept w u (keep_answered w x)
    (receivers_answered w x)))
    (ap (with_changed e (with_answer b.start b.offsets)) h.kept
    ∙ (changed_marks 0 w.exchanges e w.opened x z (with_answer b.start b.offsets) (rises_now w reached) found
    (found_number w e x found) it
    ∙ ap (map mark_of) (sym (ap (λ (v : World). v.opened) same ∙ answered_opened w x)))) h

-- the reply of an Answer: an Ack if the exchange is plain, else a BlockAck
reply_is : (plain : Bool) (b : Score) (wide : Bool) → answer_reply_of plain b wide ≡ (if plain then Ack else
    Ba (b.start % 4096) (bitmap_word b 0) (bitmap_word b 1) (bitmap_word b 2) (bitmap_word b 3) wide)
reply_is true b wide = refl
reply_is false b wide = refl

answer_says : (w : World) (x : Exchange) → (answer_outcome w x).reply ≡ (if x.plain then Ack else
    Ba ((score (receiver w x.station x.tid)).start % 4096)
    (bitmap_word (score (receiver w x.station x.tid)) 0)
    (bitmap_word (score (receiver w x.station x.tid)) 1) (bitmap_word (score (receiver w x.station x.tid)) 2)
    (bitmap_word (score (receiver w x.station x.tid)) 3) (is_wide w x.station x.tid))
unfolding answer_outcome
answer_says w x = reply_is x.plain (score (receiver w x.station x.tid)) (is_wide w x.station x.tid)

pub answer_wide : (peers : List PeerValue) (marks : List Mark) (w : World) (e : ℕ) (x : Exchange) →
    IsReached w → Hears peers marks w →
    exchange w e ≡ Some x → nat_lt 64 (agreement_of peers x.station x.tid).board.size
    ≡ is_wide w x.station x.tid
answer_wide peers marks w e x reached h found =
    ap (λ (k : Board). nat_lt 64 k.size) (board_now peers marks w e x reached h found)
    ∙ ap (nat_lt 64) ((lawful_now w reached).agreed x.station x.tid).size

says : Board → Bool → ReplyNote
says b wide = Ba b.start (bits_word 0 b.offsets) (bits_word 1 b.offsets) (bits_word 2 b.offsets)
    (bits_word 3 b.offsets) wide

pub answer_reply : (peers : List PeerValue) (marks : List Mark) (w : World) (e : ℕ) (x : Exchange) →
    IsReached w → Hears peers marks w →
    exchange w e ≡ Some x → refusal w (Asked (Answer e)) ≡ None →
    (step w (Asked (Answer e))).reply ≡ (if x.plain then Ack else
    Ba (agreement_of peers x.station x.tid).board.start
    (bits_word 0 (agreement_of peers x.station x.tid).board.offsets)
    (bits_word 1 (agreement_of peers x.station x.tid).board.offsets)
    (bits_word 2 (agreement_of peers x.station x.tid).board.offsets)
    (bits_word 3 (agreement_of peers x.station x.tid).board.offsets)
    (nat_lt 64 (agreement_of peers x.station x.tid).board.size))
unfolding outcome_of outcome_where_open says
answer_reply peers marks w e x reached h found fine =
    let b : Board = (agreement_of peers x.station x.tid).board in
    reply_done w (Asked (Answer e)) fine
    ∙ (ap (λ (o : Option Exchange). (outcome_where_open w o (λ y. answer_outcome w y)).reply) found
    ∙ (answer_says w x
    ∙ ap (λ (ba : ReplyNote). if x.plain then Ack else ba)
    (ap (says (board_of (receiver w x.station x.tid))) (sym (answer_wide peers marks w e x reached h found))
    ∙ ap (λ (k : Board). says k (nat_lt 64 b.size)) (sym (board_now peers marks w e x reached h found)))))
