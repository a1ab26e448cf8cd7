-- Proves that a new half represents the opening world, part by part.
use Rattle.std.proofs.Common.{◌≡◌, refl, ap, sym, subst, arith, ℕ, ◌+◌, ◌*◌, [], Option, None, replicate, inl, inr}
use Rattle.std.specs.Prelude.{slice_index_or}
use Rattle.std.proofs.lemmas.Bool.{cases_lt}
use Rattle.std.proofs.lemmas.List.{get_or-replicate, get_or_past, length-replicate}
use Rattle.std.proofs.lemmas.List.Elements.{All-nil, All-same}
use Rattle.wf_frame.specs.declared.settings.Config.{Config}
use Rattle.wf_frame.specs.Frames.{FrameValue}
use Rattle.wf_frame.specs.Settings.{IsInRange}
use Rattle.wf_def_world.specs.Group.{bss_count, no_group}
use Rattle.wf_def_world.specs.World.{opening}
use Rattle.wf_def_world.specs.Run.{world_after}
use Rattle.wf_queue_flows.specs.Backlog.{frames_at}
use Rattle.wf_queue_flows.specs.Flows.{empty_flows}
use Rattle.wf_queue_flows_refines.specs.Frames.{IsBody, IsBodySettled}
use Rattle.wf_queue_flows_refines.proofs.Opening.{read_replicate, no_frames, stands_opening}
use Rattle.wf_sched_refines.proofs.Readings.{opening_stands}
use Rattle.wf_send_parts.specs.Group.{no_group_frames, group_state, group_at}
use Rattle.wf_send_parts.specs.Window.{WindowValue}
use Rattle.wf_send_parts.specs.Windows.{new_window, no_window}
use Rattle.wf_send_parts.specs.declared.stations.members.Member.{Member}
use Rattle.wf_send_parts.specs.Members.{member}
use Rattle.wf_send_parts.specs.Sleepers.{awake}
use Rattle.wf_send_parts.specs.declared.stations.modes.Mode.{Mode}
use Rattle.wf_send_parts.specs.declared.stations.modes.Mode.TheVariants.{Plain}
use Rattle.wf_send_half_model.specs.Half.{opening_half}
use Rattle.wf_send_half_model.specs.Standing.{StandsFor, HasWindows, AreBoth, IsMember}

nobody : (n s : ℕ) → AreBoth IsMember (member (replicate n None) s) None
nobody n s = subst (λ (m : Option Member). AreBoth IsMember m None)
    (sym (read_replicate {X = Option Member} n s None)) tt

module _ (c : Config) (bodies : ℕ → FrameValue) where
  no_places : (k : ℕ) → (slice_index_or (replicate (8 * c.stations) new_window) k no_window).places ≡ []
  no_places k = elim (cases_lt k (8 * c.stations)) [
    | inl low ↦ ap (λ (x : WindowValue). x.places)
        (get_or-replicate (8 * c.stations) k new_window no_window low)
    | inr past ↦ ap (λ (x : WindowValue). x.places)
        (get_or_past (replicate (8 * c.stations) new_window) k no_window
        (omega (arith, past, length-replicate (8 * c.stations) new_window)))
  ]

  new_windows : HasWindows (replicate (8 * c.stations) new_window) (opening c) bodies
  new_windows = record {
    sized = length-replicate (8 * c.stations) new_window;
    room = record {
      each = λ i low. ap (λ (x : WindowValue). x.capacity)
          (get_or-replicate (8 * c.stations) i new_window no_window
          (omega (arith, low, length-replicate (8 * c.stations) new_window)));
    };
    all = record {
      stands = λ s t is low. absurd (cc is);
      empty = λ s t off low. no_places (8 * s + t);
    };
  }

no_groups : (n buffered b : ℕ) → group_state (group_at (replicate n (no_group_frames buffered)) b) ≡ no_group
no_groups n buffered b = elim (cases_lt b n) [
  | inl low ↦ ap group_state (get_or-replicate n b (no_group_frames buffered) (no_group_frames 0) low)
  | inr past ↦ ap group_state (get_or_past (replicate n (no_group_frames buffered)) b (no_group_frames 0)
      (omega (arith, past, length-replicate n (no_group_frames buffered))))
]

pub new_stands : (c : Config) (bodies : ℕ → FrameValue) → IsInRange c →
    StandsFor (opening_half c) (opening c) bodies
unfolding world_after
new_stands c bodies range = record {
  parts = record {
    windows = new_windows c bodies;
    others = record {
      config = refl;
      clock = refl;
      exchanges = refl;
      opened = refl;
      flows = stands_opening c range;
      turns = opening_stands c;
      stations = record {
        sized = (length-replicate {A = Option Member} c.stations None, length-replicate c.stations awake);
        live = nobody c.stations;
        rests = λ s is. absurd (cc is);
      };
      modes = record {
        sized = length-replicate {A = Mode} (8 * c.stations) Plain;
        each = λ s t is low. absurd (cc is);
      };
      inside = refl;
      tally = refl;
      groups = record {
        sized = length-replicate (bss_count c.bsses) (no_group_frames c.buffered);
        each = no_groups (bss_count c.bsses) c.buffered;
      };
      frames = record {
        queued = λ q. All-same (IsBody bodies) (frames_at (empty_flows c).backlog q) [] (no_frames c q)
            (All-nil (IsBody bodies));
        finished = All-nil (IsBodySettled bodies);
      };
      notes = λ id low. absurd (omega arith);
    };
  };
  reached = record { in_range = range; history = []; lengths = (tt, tt); after = refl };
}
