-- Proves the clauses of a new half from the values of its parts.
use Rattle.std.proofs.Common.{◌≡◌, refl, ap, sym, ◌∙◌, subst, arith, ℕ, ◌*◌, ◌<◌, List, [], length, Option, None, replicate}
use Rattle.std.proofs.lemmas.List.{length-replicate, get_or-replicate}
use Rattle.wf_frame.specs.declared.settings.Config.{Config}
use Rattle.wf_frame.specs.Frames.{FrameValue, new_frame}
use Rattle.wf_frame.specs.Settings.{IsInRange}
use Rattle.wf_def_world.specs.Group.{bss_count}
use Rattle.wf_def_world.specs.World.{opening}
use Rattle.wf_send_parts.specs.Tally.{Counts, no_counts}
use Rattle.wf_send_parts.specs.Group.{GroupValue, no_group_frames, group_at}
use Rattle.wf_queue_flows.specs.Flows.{FlowsValue, empty_flows}
use Rattle.wf_sched.specs.ClassRotas.{SchedValue, new_scheduler as empty_sched}
use Rattle.wf_send_parts.specs.Window.{WindowValue}
use Rattle.wf_send_parts.specs.Windows.{new_window}
use Rattle.wf_send_parts.specs.declared.exchanges.opened.Open.{Open}
use Rattle.wf_send_parts.specs.declared.stations.members.Member.{Member}
use Rattle.wf_send_parts.specs.declared.stations.sleepers.Sleeper.{Sleeper}
use Rattle.wf_send_parts.specs.Sleepers.{awake}
use Rattle.wf_send_half_model.specs.Half.{TransmitValue, opening_half}
use Rattle.wf_send_half_model.specs.Standing.{StandsFor}
use Rattle.wf_send_half_model.proofs.Opening.{new_stands}
use Rattle.wf_send_parts.specs.declared.stations.modes.Mode.{Mode}
use Rattle.wf_send_parts.specs.declared.stations.modes.Mode.TheVariants.{Plain}
use Rattle.wf_send_half.specs.Half.{HasSizes}

-- any frame, for the ids that are not accepted yet
abbrev pub a_frame : FrameValue
a_frame = new_frame 0 0 0 []

opening_room : (n buffered b : ℕ) → b < length (replicate n (no_group_frames buffered)) →
    (group_at (replicate n (no_group_frames buffered)) b).capacity ≡ buffered
opening_room n buffered b low = ap (λ (g : GroupValue). g.capacity)
    (get_or-replicate n b (no_group_frames buffered) (no_group_frames 0)
    (omega (arith, low, length-replicate n (no_group_frames buffered))))

opening_sizes : (c : Config) → IsInRange c → HasSizes (opening_half c)
opening_sizes c range = record {
  in_range = range;
  flows = refl;
  sched = refl;
  windows = length-replicate (8 * c.stations) new_window;
  modes = length-replicate (8 * c.stations) Plain;
  members = length-replicate {A = Option Member} c.stations None;
  sleepers = length-replicate c.stations awake;
  groups = length-replicate (bss_count c.bsses) (no_group_frames c.buffered);
  room = record { each = opening_room (bss_count c.bsses) c.buffered };
}

module _ (c : Config) (flows : FlowsValue) (sched : SchedValue) (windows : List WindowValue)
    (modes : List Mode) (members : List (Option Member)) (sleepers : List Sleeper) (opened : List Open)
    (tally : Counts) (groups : List GroupValue)
    (range : IsInRange c)
    (a : flows ≡ empty_flows c) (b : sched ≡ empty_sched c.stations c.quantum)
    (d : windows ≡ replicate (8 * c.stations) new_window) (j : modes ≡ replicate (8 * c.stations) Plain)
    (e : members ≡ replicate c.stations None)
    (f : sleepers ≡ replicate c.stations awake) (g : opened ≡ []) (i : tally ≡ no_counts)
    (k : groups ≡ replicate (bss_count c.bsses) (no_group_frames c.buffered)) where
  abbrev made : TransmitValue
  made = record {
    config = c;
    clock = 0;
    exchanges = 0;
    inside = 0;
    flows = flows;
    sched = sched;
    windows = windows;
    modes = modes;
    members = members;
    sleepers = sleepers;
    opened = opened;
    tally = tally;
    groups = groups;
  }

  made_is : made ≡ opening_half c
  made_is =
      ap (λ (x : FlowsValue). record made { flows = x }) a
      ∙ ap (λ (x : SchedValue). record made { flows = empty_flows c; sched = x }) b
      ∙ ap (λ (x : List WindowValue). record made {
        flows = empty_flows c;
        sched =
            empty_sched c.stations c.quantum;
        windows = x;
      }) d
      ∙ ap (λ (x : List Mode). record (opening_half c) {
        modes = x;
        members = members;
        sleepers = sleepers;
        opened = opened;
        tally = tally;
        groups = groups;
      }) j
      ∙ ap (λ (x : List (Option Member)). record (opening_half c) {
        members = x;
        sleepers = sleepers;
        opened =
            opened;
        tally = tally;
        groups = groups;
      }) e
      ∙ ap (λ (x : List Sleeper). record (opening_half c) {
        sleepers = x;
        opened = opened;
        tally = tally;
        groups = groups;
      }) f
      ∙ ap (λ (x : List Open). record (opening_half c) { opened = x; tally = tally; groups = groups }) g
      ∙ ap (λ (x : Counts). record (opening_half c) { tally = x; groups = groups }) i
      ∙ ap (λ (x : List GroupValue). record (opening_half c) { groups = x }) k

  pub sizes : HasSizes made
  sizes = subst HasSizes (sym made_is) (opening_sizes c range)

  pub stands : (bodies : ℕ → FrameValue) → StandsFor made (opening c) bodies
  stands bodies = subst (λ (v : TransmitValue). StandsFor v (opening c) bodies) (sym made_is)
      (new_stands c bodies range)
