-- Defines the laws of released frames, from the replies to arrivals and to the ends of agreements.
use Rattle.std.specs.Prelude.{◌≡◌, ◌↔◌, ◌<◌, ℕ, ◌==◌, nat_lt, take, Bool, true, false, ◌&&◌, List, [], ◌∷◌, ◌++◌, Option, Some, None, if◌then◌else◌, filter}
use Rattle.wf_frame.specs.declared.settings.Config.{Config}
use Rattle.wf_frame.specs.declared.notes.Ask.TheVariants.{Join, Offload, Plain, Arrive, Cease}
use Rattle.wf_frame.specs.declared.notes.Note.{Note}
use Rattle.wf_frame.specs.declared.notes.Note.TheVariants.{Asked}
use Rattle.wf_frame.specs.declared.notes.ReplyNote.{ReplyNote}
use Rattle.wf_frame.specs.declared.notes.ReplyNote.TheVariants.{Joined, Released, Ceased}
use Rattle.wf_def_lists.specs.Table.{has}
use Rattle.wf_def_agreement.specs.Receiver.{Receiver, release_start}
use Rattle.wf_def_agreement.specs.Session.{slot}
use Rattle.wf_def_world.specs.World.{World, Exchange, session, receiver, is_live, is_offloaded, frame, exchange, opening}
use Rattle.wf_def_world.specs.Exchanges.{ids_of}
use Rattle.wf_def_world.specs.Step.{Outcome, step}
use Rattle.wf_def_world.specs.Run.{Entry}
use Rattle.wf_def_world.specs.Stretches.{world_at}
use Rattle.wf_def_lists.specs.Lists.{IsRising, IsOnce}
use Rattle.wf_law_runs.specs.Queues.{IsFor}

-- Returns whether a call asks that station s joins.
abbrev pub is_join_of : ℕ → Note → Bool
is_join_of s (Asked (Join i window start exponent weight)) = i == s
is_join_of s (Asked (Offload i exponent weight)) = i == s
is_join_of s (Asked (Plain i start exponent weight)) = i == s
is_join_of s note = false

-- Returns whether an exchange is open and is for TID t of station s.
abbrev pub is_at : ℕ → ℕ → Option Exchange → Bool
is_at s t None = false
is_at s t (Some x) = (x.station == s) && (x.tid == t)

-- Returns whether a call is an arrival at TID t of station s.
abbrev pub is_arrival_for : World → ℕ → ℕ → Note → Bool
is_arrival_for w s t (Asked (Arrive e index)) = is_at s t (exchange w e)
is_arrival_for w s t note = false

-- Returns whether a call ends the agreement of TID t of station s.
abbrev pub is_cease_of : ℕ → ℕ → Note → Bool
is_cease_of s t (Asked (Cease i j)) = (i == s) && (j == t)
is_cease_of s t note = false

-- Returns the ids that were released at TID t of station s since the station's join, after a call and its
-- reply. `before` are those before the call.
abbrev pub passed_by : World → ℕ → ℕ → Note → List ℕ → ReplyNote → List ℕ
passed_by w s t note before Joined = if is_join_of s note then [] else before
passed_by w s t note before (Released ids) = if is_arrival_for w s t note then before ++ ids else before
passed_by w s t note before (Ceased dropped ids) = if is_cease_of s t note then before ++ ids else before
passed_by w s t note before reply = before

-- Returns the ids that were released at TID t of station s since the station's join, after the entries of a
-- history. `before` are those before the entries.
unfoldable pub passed_from : World → List ℕ → List Entry → ℕ → ℕ → List ℕ
passed_from w before [] s t = before
passed_from w before (e ∷ es) s t =
    let o : Outcome = step w e.1 in passed_from o.world (passed_by w s t e.1 before o.reply) es s t

-- Returns the ids that were released at TID t of station s in a history since the station's join.
abbrev pub passed : Config → List Entry → ℕ → ℕ → List ℕ
passed config history s t = passed_from (opening config) [] history s t

-- Returns the numbers that have arrived and are below the release start.
abbrev pub numbers_passed : Receiver → List ℕ
numbers_passed r = filter (λ n. nat_lt n (release_start r)) r.arrived

-- ---- the whole run

-- Returns the ids that a reply releases.
abbrev pub named_by : ReplyNote → List ℕ
named_by (Released ids) = ids
named_by (Ceased dropped ids) = ids
named_by reply = []

-- Returns all ids that the replies of a history release, in their order, after the ids `before`.
unfoldable pub named_from : World → List ℕ → List Entry → List ℕ
named_from w before [] = before
named_from w before (e ∷ es) =
    let o : Outcome = step w e.1 in named_from o.world (before ++ named_by o.reply) es

-- The law of single release: no id is released twice in a run.
abbrev pub OnceLaw : Config → List Entry → Type 0
OnceLaw config history = IsOnce (named_from (opening config) [] history)

-- The releases of one session. `passed`: the replies since the join release the ids of its arrived numbers
-- below the release start, in strictly increasing order of the numbers (`rising`). `own`: each of these
-- frames was enqueued for this station and TID. `exactly`: the id of an arrived number was released in this
-- run if and only if the number is below the release start.
pub record PassesInOrder (config : Config) (entries : List Entry) (w : World) (s t : ℕ) : Type 0 where
  pub rising : IsRising 0 (numbers_passed (receiver w s t))
  pub own : (id : ℕ) → has (passed config entries s t) id ≡ true → IsFor s t (frame w id).note
  pub passed : passed config entries s t ≡ ids_of (session w s t) (numbers_passed (receiver w s t))
  pub exactly : (n : ℕ) → has (receiver w s t).arrived n ≡ true →
      (has (named_from (opening config) [] entries) (slot (session w s t) n).id ≡ true) ↔
      (n < release_start (receiver w s t))

-- The law of releases: `PassesInOrder` holds after each entry, for each TID of a station that is live then
-- and not offloaded. A session ends when its station leaves, and it releases nothing later. What the receiver
-- of an offloaded station releases is not known, so no reply names it.
abbrev pub ReleaseLaw : Config → List Entry → Type 0
ReleaseLaw config history = (m s t : ℕ) → is_live (world_at config history m) s ≡ true →
    is_offloaded (world_at config history m) s ≡ false →
    PassesInOrder config (take m history) (world_at config history m) s t
