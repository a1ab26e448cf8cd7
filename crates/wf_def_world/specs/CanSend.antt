-- Defines when a TID can send and when a station is ready in a class. A TID can send a BlockAckReq that
-- is due; otherwise a number that waits in its transmit window, or a frame that can get a number there
-- (IEEE 802.11-2012, 9.21.7.7).
use Rattle.std.specs.Prelude.{ℕ, ◌==◌, nat_lt, pos, int_le, Bool, true, false, not, ◌&&◌, ◌||◌, List, [], ◌∷◌, Option, Some, None, if◌then◌else◌, length}
use Rattle.std.specs.List.{list_any}
use Rattle.wf_frame.specs.declared.classes.Class.{Class}
use Rattle.wf_def_rotation.specs.Rotation.{Rotation, has_key, with_key_listed}
use Rattle.wf_def_agreement.specs.Session.{waiting_numbers, request_due, has_room}
use Rattle.wf_def_world.specs.World.{World, Station, Content, Frames, Request, station, session, is_held_back, is_live, rotation, standing, owed, with_rotation}
use Rattle.wf_frame.specs.Classes.{lower_tid, upper_tid, same_class, all_classes}
use Rattle.wf_def_world.specs.Service.{is_served}
use Rattle.wf_def_world.specs.FlowQueues.{frames_queued}

-- whether an exchange sends a BlockAckReq
abbrev pub is_request : Content → Bool
is_request (Frames mpdus) = false
is_request (Request start) = true

-- whether an open exchange sends a BlockAckReq for TID t of station s
abbrev pub request_open : World → ℕ → ℕ → Bool
request_open w s t =
    list_any (λ x. (x.station == s) && ((x.tid == t) && is_request x.content)) w.opened

-- whether a number of a TID waits to be sent
abbrev pub has_waiting : World → ℕ → ℕ → Bool
has_waiting w s t = nat_lt 0 (length (waiting_numbers (session w s t)))

-- whether a TID has a queued frame, and may give it a number: it has room in its transmit window, and is not
-- held back
abbrev pub can_give : World → ℕ → ℕ → Bool
can_give w s t =
    nat_lt 0 (frames_queued w s t) && (has_room (session w s t) && not (is_held_back w s t))

-- whether a TID can send: a request that is due is sent before all frames, and only one at a time
abbrev pub can_send : World → ℕ → ℕ → Bool
can_send w s t =
    if request_due (session w s t) then not (request_open w s t)
    else has_waiting w s t || can_give w s t

-- whether a station's credit, if it has one, is for class c
abbrev pub has_credit : Option Class → Class → Bool
has_credit None c = false
has_credit (Some d) c = same_class d c

-- whether one of the station's two TIDs of a class can send
abbrev pub can_send_in : World → ℕ → Class → Bool
can_send_in w s c = can_send w s (lower_tid c) || can_send w s (upper_tid c)

-- whether the airtime in flight to a station in a class is below the setting `aql`, which is no limit if it
-- is 0
abbrev pub is_below_aql : World → ℕ → Class → Bool
is_below_aql w s c = (w.config.aql == 0) || nat_lt (owed s c w.opened) w.config.aql

-- whether a station receives in a class now: it is awake, or has a credit for the class or a service period
abbrev pub is_reachable : Station → Class → Bool
is_reachable x c = not x.asleep || (has_credit x.credit c || is_served x c)

-- whether a station may receive in a class: it is not stopped, it receives there now, and its airtime in
-- flight is below the limit
abbrev pub may_receive : World → ℕ → Class → Bool
may_receive w s c = not (station w s).stopped && (is_reachable (station w s) c && is_below_aql w s c)

-- whether a station is ready in a class, so that a pull of the class may pick it
abbrev pub is_ready : World → Class → ℕ → Bool
is_ready w c s = is_live w s && (can_send_in w s c && may_receive w s c)

-- whether a station has nothing left to use in a class, with the setting `pending`
abbrev pub is_debtor : World → Class → ℕ → Bool
is_debtor w c s = (w.config.pending == 1) && (is_live w s && int_le (standing w s c) (pos 0))

-- whether a station belongs on a list of a class: it is ready, or it has debts that age there
abbrev pub is_to_list : World → Class → ℕ → Bool
is_to_list w c s = is_ready w c s || is_debtor w c s

-- the station is listed in a class if it belongs on a list there and is on none
unfoldable pub with_listing_in : World → ℕ → Class → World
with_listing_in w s c =
    let r : Rotation = rotation w c in
    if is_to_list w c s && not (has_key r s)
    then with_rotation w c (with_key_listed (is_ready w c s) r s)
    else w

-- the same for each of these classes
unfoldable pub with_listings_in : World → ℕ → List Class → World
with_listings_in w s [] = w
with_listings_in w s (c ∷ cs) = with_listings_in (with_listing_in w s c) s cs

-- the same for all classes, for the station that a call concerns, if any
unfoldable pub with_listings_of : World → Option ℕ → World
with_listings_of w None = w
with_listings_of w (Some s) = with_listings_in w s all_classes
