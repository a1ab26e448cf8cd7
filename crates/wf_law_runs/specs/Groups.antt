-- Defines the laws of group frames: statements about the worlds after each entry of a history, and about its
-- replies. They hold for each BSS, whose number is b. IEEE 802.11-2012 has the sequence numbers in 9.3.2.10,
-- the DTIM count and the bit that announces group frames in 8.4.2.7, the DTIM beacons in 10.2.1.4 and the
-- More Data bit in 8.2.4.1.8.
use Rattle.std.specs.Prelude.{◌≡◌, ℕ, suc, ◌+◌, ◌%◌, ◌==◌, ◌<◌, ◌≤◌, Bool, true, false, ◌&&◌, List, [], ◌∷◌, Option, Some, None, is_some, if◌then◌else◌, length, take, slice_get}
use Rattle.wf_frame.specs.declared.settings.Config.{Config}
use Rattle.wf_frame.specs.declared.notes.Ask.TheVariants.{Group}
use Rattle.wf_frame.specs.declared.notes.GroupReply.{GroupReply}
use Rattle.wf_frame.specs.declared.notes.GroupReply.TheVariants as answer
use Rattle.wf_frame.specs.declared.notes.Note.{Note}
use Rattle.wf_frame.specs.declared.notes.Note.TheVariants.{Asked}
use Rattle.wf_frame.specs.declared.notes.ReplyNote.{ReplyNote}
use Rattle.wf_frame.specs.declared.notes.ReplyNote.TheVariants as reply
use Rattle.wf_def_lists.specs.Table.{at, upto}
use Rattle.wf_def_world.specs.Group.{dtim_period, held_count, may_go}
use Rattle.wf_def_world.specs.World.{World, opening, group_of, is_any_asleep}
use Rattle.wf_def_world.specs.Step.{step}
use Rattle.wf_def_world.specs.Run.{Entry, replies}
use Rattle.wf_def_world.specs.Stretches.{world_at}

-- ---- apart from all else

-- whether a call is about group frames
abbrev pub is_about_group : Note → Bool
is_about_group (Asked (Group g)) = true
is_about_group note = false

-- whether a call is about the group frames of BSS b
abbrev pub is_about_bss : ℕ → Note → Bool
is_about_bss b (Asked (Group g)) = g.bss == b
is_about_bss b note = false

-- A call about group frames changes nothing but their state, so no share, no rotation and no session. Every
-- call that is not about those of a BSS leaves their state as it is.
pub record IsApart (w : World) (note : Note) : Type 0 where
  pub rest : is_about_group note ≡ true →
      (step w note).world ≡ record w { groups = (step w note).world.groups }
  pub group : (b : ℕ) → is_about_bss b note ≡ false → group_of (step w note).world b ≡ group_of w b

-- The law: this holds for each call in each world.
abbrev pub GroupApartLaw : Type 0
GroupApartLaw = (w : World) (note : Note) → IsApart w note

-- ---- counts

-- Each group frame of BSS b that was accepted was sent, is on the air or is queued. No more are queued than
-- have room, and the DTIM count is below the period.
pub record GroupAddsUp (w : World) (b : ℕ) : Type 0 where
  pub sum : (group_of w b).accepted ≡ (group_of w b).sent + held_count (group_of w b)
  pub room : length (group_of w b).queued ≤ w.config.buffered
  pub count : (group_of w b).count < dtim_period w.config.period

-- The law: `GroupAddsUp` holds after each entry of a history.
abbrev pub GroupCountLaw : Config → List Entry → Type 0
GroupCountLaw config history = (b m : ℕ) → GroupAddsUp (world_at config history m) b

-- ---- the answers about a BSS

-- the reply to entry m of a history, counted from 0; None past its end
abbrev pub reply_at_entry : Config → List Entry → ℕ → Option ReplyNote
reply_at_entry config history m = slice_get (replies (opening config) history) m

-- the answer about the group frames of BSS b in the reply to a call; None if the call is about something
-- else, or is refused
abbrev pub answer_about : ℕ → Note → ReplyNote → Option GroupReply
answer_about b (Asked (Group g)) (reply.Group r) = if g.bss == b then Some r else None
answer_about b note r = None

-- the same for each entry, given the replies
abbrev pub answers_about : ℕ → List Entry → List ReplyNote → List (Option GroupReply)
answers_about b (e ∷ es) (r ∷ rs) = answer_about b e.1 r ∷ answers_about b es rs
answers_about b es rs = []

-- the answers of a history about BSS b, each at the place of its entry
abbrev pub group_answers : Config → List Entry → ℕ → List (Option GroupReply)
group_answers config history b = answers_about b history (replies (opening config) history)

-- the answer about BSS b to entry m, counted from 0
abbrev pub group_answer_at : Config → List Entry → ℕ → ℕ → Option GroupReply
group_answer_at config history b m = at None (group_answers config history b) m

-- ---- order

-- the ids of the group frames that answers accept
abbrev pub group_accepts : List (Option GroupReply) → List ℕ
group_accepts [] = []
group_accepts (Some (answer.Queued id) ∷ rs) = id ∷ group_accepts rs
group_accepts (r ∷ rs) = group_accepts rs

-- the ids of the group frames that answers send
abbrev pub group_sends : List (Option GroupReply) → List ℕ
group_sends [] = []
group_sends (Some (answer.Send id number air more) ∷ rs) = id ∷ group_sends rs
group_sends (r ∷ rs) = group_sends rs

-- the ids of the group frames whose transmissions end
abbrev pub group_ends : List (Option GroupReply) → List ℕ
group_ends [] = []
group_ends (Some (answer.Done id) ∷ rs) = id ∷ group_ends rs
group_ends (r ∷ rs) = group_ends rs

-- how many sequence numbers answers take: one for each beacon and for each group frame that is sent
abbrev pub numbers_taken : List (Option GroupReply) → ℕ
numbers_taken [] = 0
numbers_taken (Some (answer.Send id number air more) ∷ rs) = 1 + numbers_taken rs
numbers_taken (Some (answer.Beacon count follows) ∷ rs) = 1 + numbers_taken rs
numbers_taken (r ∷ rs) = numbers_taken rs

-- The group frames of BSS b are accepted, sent and ended in the order of their ids 0, 1, 2 .., so each is
-- sent at most once. Each one that was sent has ended, or is the one on the air. Their sequence numbers count
-- on with each beacon and with each group frame of the BSS.
pub record GroupsInOrder (config : Config) (history : List Entry) (b : ℕ) : Type 0 where
  pub accepts : group_accepts (group_answers config history b)
      ≡ upto (group_of (world_at config history (length history)) b).accepted
  pub sends : group_sends (group_answers config history b)
      ≡ upto (length (group_sends (group_answers config history b)))
  pub counted : length (group_sends (group_answers config history b))
      ≡ (group_of (world_at config history (length history)) b).sent
      + (if is_some (group_of (world_at config history (length history)) b).flying then 1 else 0)
  pub ends : group_ends (group_answers config history b)
      ≡ upto (group_of (world_at config history (length history)) b).sent
  pub numbers : (m id number air : ℕ) (more : Bool) →
      group_answer_at config history b m ≡ Some (answer.Send id number air more) →
      number ≡ numbers_taken (take m (group_answers config history b)) % 4096

-- The law: `GroupsInOrder` holds for each BSS.
abbrev pub GroupOrderLaw : Config → List Entry → Type 0
GroupOrderLaw config history = (b : ℕ) → GroupsInOrder config history b

-- ---- DTIM beacons

-- whether an answer says that a beacon goes out
abbrev pub is_beacon : Option GroupReply → Bool
is_beacon (Some (answer.Beacon count follows)) = true
is_beacon other = false

-- The group frame of BSS b that entry m sends was accepted by an entry before the latest beacon of the BSS
-- before m. That was a DTIM beacon, and announced group frames.
pub record IsAnnounced (config : Config) (history : List Entry) (b m id : ℕ) : Type 0 where
  pub accepted_by : ℕ
  pub beacon_by : ℕ
  pub accepted : group_answer_at config history b accepted_by ≡ Some (answer.Queued id)
  pub beacon : group_answer_at config history b beacon_by ≡ Some (answer.Beacon 0 true)
  pub before : accepted_by < beacon_by
  pub after : beacon_by < m
  pub latest : (k : ℕ) → beacon_by < k → k < m → is_beacon (group_answer_at config history b k) ≡ false

-- The law: each group frame that is sent while a station of its BSS sleeps was announced.
abbrev pub DtimLaw : Config → List Entry → Type 0
DtimLaw config history =
    (b m id number air : ℕ) (more : Bool) →
    group_answer_at config history b m ≡ Some (answer.Send id number air more) →
    is_any_asleep (world_at config history m) b ≡ true → IsAnnounced config history b m id

-- The law: a beacon announces group frames if, and only if, one may go after it while a station sleeps.
abbrev pub AnnouncedLaw : Config → List Entry → Type 0
AnnouncedLaw config history =
    (b m count : ℕ) (follows : Bool) →
    group_answer_at config history b m ≡ Some (answer.Beacon count follows) →
    follows ≡ may_go true (group_of (world_at config history (suc m)) b)

-- The law: a group frame has the More Data bit if, and only if, a station of its BSS sleeps and another frame
-- of the BSS may go next.
abbrev pub GroupMoreLaw : Config → List Entry → Type 0
GroupMoreLaw config history =
    (b m id number air : ℕ) (more : Bool) →
    group_answer_at config history b m ≡ Some (answer.Send id number air more) →
    more ≡ (is_any_asleep (world_at config history m) b
    && may_go true (group_of (world_at config history (suc m)) b))
