-- Computes one history for the laws of sent and of released flows: a flow of station 1 waits in the overflow
-- queue while station 0 lists the only flow queue, and goes into the flow queue once station 0 has left. Its
-- frames are in order with `keep_order` alone.
use Rattle.std.proofs.Common.{◌≡◌, refl, false, List, [], ◌∷◌, ◌++◌, map, None}
use Rattle.wf_frame.specs.declared.settings.Config.{Config}
use Rattle.wf_frame.specs.Settings.{standard}
use Rattle.wf_frame.specs.declared.classes.Class.TheVariants.{Be}
use Rattle.wf_frame.specs.declared.notes.Ask.TheVariants.{Join, Leave, Pull, Arrive, Done}
use Rattle.wf_frame.specs.declared.notes.Note.TheVariants.{Enqueue, Asked}
use Rattle.wf_def_world.specs.Run.{Entry, by}
use Rattle.wf_def_world.specs.Computed.{the_machine}
use Rattle.wf_law_runs.specs.Releases.{named_from}
use Rattle.wf_law_runs.specs.Flows.{released_of, sent_from, first_sends}
use Rattle.wf_frame.specs.Calls.{no_limits}

abbrev config : Config
config = record standard { flows = 1 }

abbrev keeping : Config
keeping = record standard { flows = 1; keep_order = 1 }

abbrev history : List Entry
history = map (by 0) (
    Asked (Join 0 64 0 3 1) ∷
    Asked (Join 1 64 0 3 1) ∷
    Enqueue 0 0 5 300 ∷
    Enqueue 1 0 7 300 ∷
    Enqueue 1 0 7 300 ∷
    Enqueue 1 0 7 300 ∷
    Asked (Pull Be no_limits) ∷
    Asked (Done 0 false None) ∷
    Asked (Leave 0) ∷
    Enqueue 1 0 7 300 ∷
    Enqueue 1 0 7 300 ∷
    Asked (Pull Be no_limits) ∷
    Asked (Arrive 1 0) ∷
    Asked (Arrive 1 1) ∷
    Asked (Arrive 1 2) ∷
    Asked (Arrive 1 3) ∷
    Asked (Arrive 1 4) ∷ [])

overtaken : released_of config history 1 0 7 ≡ 1 ∷ 4 ∷ 2 ∷ 5 ∷ 3 ∷ []
unfolding the_machine named_from
overtaken = refl

kept : released_of keeping history 1 0 7 ≡ 1 ∷ 2 ∷ 3 ∷ 4 ∷ 5 ∷ []
unfolding the_machine named_from
kept = refl

sent_overtaken : first_sends config history 1 0 7 ≡ 1 ∷ 4 ∷ 2 ∷ 5 ∷ 3 ∷ []
unfolding the_machine sent_from
sent_overtaken = refl

-- The frames are sent again after the exchange was not heard. Each is listed at the exchange that sent it
-- first.
abbrev again : List Entry
again = history ++ map (by 0) (Asked (Done 1 false None) ∷ Asked (Pull Be no_limits) ∷ [])

sent_in_order : first_sends keeping again 1 0 7 ≡ 1 ∷ 2 ∷ 3 ∷ 4 ∷ 5 ∷ []
unfolding the_machine sent_from
sent_in_order = refl
