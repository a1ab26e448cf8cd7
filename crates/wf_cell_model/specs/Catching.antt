-- Defines how the receive half of a station catches up with the window of a TID that has no agreement, and
-- how it begins again when an agreement begins or ends.
use Rattle.std.specs.Prelude.{ℕ, ◌%◌, List, if◌then◌else◌}
use Rattle.wf_def_agreement.specs.Session.{start_of}
use Rattle.wf_def_world.specs.World.{World, session, is_agreed}
use Rattle.wf_recv_peer.specs.Agreements.{PeerValue, new_agreement, with_agreement}
use Rattle.wf_cell_model.specs.Arriving.{peer_requested}
use Rattle.wf_cell_model.specs.Hearing.{peer_of, with_peer}

-- the start of the window of TID t of station s (WinStartO), modulo 4096
abbrev pub twelve_bit_start : World → ℕ → ℕ → ℕ
twelve_bit_start w s t = start_of (session w s t) % 4096

-- The receive halves after the window of TID t of station s moved to its start in w, if the TID has no
-- agreement. The device of an offloaded station announces the start of the window to its peer; a receiver of
-- single frames takes each number without those below it.
abbrev pub peers_caught_up : World → ℕ → ℕ → List PeerValue → List PeerValue
peers_caught_up w s t peers =
    if is_agreed w s t then peers
    else with_peer s (peer_requested t (twelve_bit_start w s t) (peer_of peers s)) peers

-- The receive halves after an agreement of TID t of station s began or ended: the TID begins again at the
-- start of its window in w, with this window. Nothing of it is stored.
abbrev pub peers_renewed : World → ℕ → ℕ → ℕ → List PeerValue → List PeerValue
peers_renewed w s t size peers =
    with_peer s (with_agreement t (new_agreement (twelve_bit_start w s t) size) (peer_of peers s)) peers
