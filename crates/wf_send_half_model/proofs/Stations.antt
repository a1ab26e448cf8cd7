-- Proves that the members and sleepers still represent the stations after one of them changes on both sides.
use Rattle.std.proofs.Common.{◌≡◌, refl, ap, sym, ◌∙◌, subst, arith, ℕ, ◌+◌, ◌<◌, Bool, false, List, length, set, get_or, Option, Some, None, IfSome, option_map, length-set}
use Rattle.std.proofs.lemmas.List.{get_or-set_same, get_or-set_other, set-get_or}
use Rattle.wf_frame.specs.declared.classes.Class.{Class}
use Rattle.wf_frame.specs.Classes.{class_number}
use Rattle.wf_frame.specs.Frames.{FrameValue}
use Rattle.wf_def_air.specs.Airtime.{Rate}
use Rattle.wf_def_world.specs.World.{World, Station, on_station}
use Rattle.wf_law_runs.proofs.Deficits.Books.{upd, updc}
use Rattle.wf_sched.specs.ClassRotas.{SchedValue}
use Rattle.wf_sched.proofs.Views.{class_below}
use Rattle.wf_sched_refines.specs.Standing.{SchedulerStandsFor as TurnsStandFor, LeavesRotas}
use Rattle.wf_sched_refines.proofs.Stands.{each_other, each_other_class}
use Rattle.wf_queue_flows_refines.proofs.Leaves.{stands_same, station_alone}
use Rattle.wf_send_parts.specs.declared.stations.members.Member.{Member}
use Rattle.wf_send_parts.specs.Members.{member, on_member, with_rate, with_ampdu, with_upper, charged_in, with_charge, received_in, with_receipt}
use Rattle.wf_send_parts.specs.declared.stations.sleepers.Sleeper.{Sleeper}
use Rattle.wf_send_parts.specs.Sleepers.{sleeper, with_sleeper, awake}
use Rattle.wf_send_half_model.specs.Half.{TransmitValue}
use Rattle.wf_send_half_model.specs.Standing.{AreBoth, Parts}
use Rattle.wf_send_half_model.specs.Views.{StationView, view_of, Roster, roster}
use Rattle.wf_send_half_model.proofs.Views.{agreements_station, with_view, roster_on_station, ledger_station}
use Rattle.wf_send_half_model.proofs.Stands.{WindowsStand, ModesStand, IsOfView, IsSleeperOf, StationsStand, GroupsStand, LedgerStands, Pieces, to_pieces, of_pieces}

-- ---- lists

-- the member and the sleeper of station s and its view are replaced
pub station_replaced : (members : List (Option Member)) (sleepers : List Sleeper) (count : ℕ)
    (stations : ℕ → Option StationView) (s : ℕ) (m : Option Member) (y : Sleeper) (o : Option StationView) →
    StationsStand members sleepers count stations → s < count → AreBoth IsOfView m o →
    IfSome o (IsSleeperOf y) → StationsStand (set members s m) (set sleepers s y) count (upd stations s o)
station_replaced members sleepers count stations s m y o h low is sleeps = record {
  members_sized = length-set members s m ∙ h.members_sized;
  sleepers_sized = length-set sleepers s y ∙ h.sleepers_sized;
  live = each_other (λ i p. AreBoth IsOfView (member (set members s m) i) p) stations s o
      (λ i other. subst (λ (n : Option Member). AreBoth IsOfView n (stations i))
      (sym (get_or-set_other members s i m None other)) (h.live i))
      (subst (λ (n : Option Member). AreBoth IsOfView n o)
      (sym (get_or-set_same members s m None (omega (arith, h.members_sized)))) is);
  rests = each_other (λ i p. IfSome p (IsSleeperOf (sleeper (set sleepers s y) i))) stations s o
      (λ i other. subst (λ (z : Sleeper). IfSome (stations i) (IsSleeperOf z))
      (sym (get_or-set_other sleepers s i y awake other)) (h.rests i))
      (subst (λ (z : Sleeper). IfSome o (IsSleeperOf z))
      (sym (get_or-set_same sleepers s y awake (omega (arith, h.sleepers_sized)))) sleeps);
}

both_mapped : (f : Member → Member) (g : StationView → StationView) →
    ((m : Member) (x : StationView) → IsOfView m x → IsOfView (f m) (g x)) →
    (m : Option Member) (o : Option StationView) → AreBoth IsOfView m o →
    AreBoth IsOfView (option_map f m) (option_map g o)
both_mapped f g k None None h = h
both_mapped f g k None (Some x) h = h
both_mapped f g k (Some m) None h = h
both_mapped f g k (Some m) (Some x) h = k m x h

sleeps_mapped : (y z : Sleeper) (g : StationView → StationView) →
    ((x : StationView) → IsSleeperOf y x → IsSleeperOf z (g x)) → (o : Option StationView) →
    IfSome o (IsSleeperOf y) → IfSome (option_map g o) (IsSleeperOf z)
sleeps_mapped y z g k None h = tt
sleeps_mapped y z g k (Some x) h = k x h

-- only the member changes
pub member_changed : (members : List (Option Member)) (sleepers : List Sleeper) (count : ℕ)
    (stations : ℕ → Option StationView) (s : ℕ) (f : Member → Member) (g : StationView → StationView) →
    StationsStand members sleepers count stations → s < count →
    ((m : Member) (x : StationView) → IsOfView m x → IsOfView (f m) (g x)) →
    ((x : StationView) → (g x).sleeper ≡ x.sleeper) →
    StationsStand (on_member members s f) sleepers count (upd stations s (option_map g (stations s)))
member_changed members sleepers count stations s f g h low keeps rests =
    subst (λ (ys : List Sleeper). StationsStand (on_member members s f) ys count
    (upd stations s (option_map g (stations s)))) (set-get_or sleepers s awake)
    (station_replaced members sleepers count stations s (option_map f (member members s)) (sleeper sleepers s)
    (option_map g (stations s)) h low
    (both_mapped f g keeps (member members s) (stations s) (h.live s))
    (sleeps_mapped (sleeper sleepers s) (sleeper sleepers s) g (λ x k. k ∙ sym (rests x)) (stations s)
    (h.rests s)))

none_mapped : (m : Option Member) → option_map (λ (z : Member). z) m ≡ m
none_mapped None = refl
none_mapped (Some m) = refl

-- a member does not depend on power save and stops
resting : (y : Sleeper) (m : Member) (x : StationView) → IsOfView m x → IsOfView m (record x { sleeper = y })
resting y m x h = record {
  four = h.four;
  rate = h.rate;
  exponent = h.exponent;
  ampdu = h.ampdu;
  offloaded = h.offloaded;
  upper = h.upper;
  charged = h.charged;
  received = h.received;
}

-- a view whose sleeper changes by g
abbrev pub on_sleeper : (Sleeper → Sleeper) → StationView → StationView
on_sleeper g x = record x { sleeper = g x.sleeper }

-- only the sleeper changes, by g
sleeper_changed : (members : List (Option Member)) (sleepers : List Sleeper) (count : ℕ)
    (stations : ℕ → Option StationView) (s : ℕ) (g : Sleeper → Sleeper) →
    StationsStand members sleepers count stations → s < count →
    StationsStand members (with_sleeper sleepers s (g (sleeper sleepers s))) count
    (upd stations s (option_map (on_sleeper g) (stations s)))
sleeper_changed members sleepers count stations s g h low =
    let f : StationView → StationView = on_sleeper g in
    let z : Sleeper = g (sleeper sleepers s) in
    subst (λ (ms : List (Option Member)). StationsStand ms (with_sleeper sleepers s z) count
    (upd stations s (option_map f (stations s)))) (set-get_or members s None)
    (station_replaced members sleepers count stations s (member members s) z (option_map f (stations s)) h low
    (subst (λ (m : Option Member). AreBoth IsOfView m (option_map f (stations s)))
    (none_mapped (member members s)) (both_mapped (λ m. m) f (λ m x. resting (g x.sleeper) m x)
    (member members s) (stations s) (h.live s)))
    (sleeps_mapped (sleeper sleepers s) z f (λ x e. ap g e) (stations s) (h.rests s)))

-- ---- a member's values by class

by_class : {X : Type 0} (xs : List X) (d : X) (x : X) (c : Class) (f : Class → X) → length xs ≡ 4 →
    ((k : Class) → get_or xs (class_number k) d ≡ f k) → (k : Class) →
    get_or (set xs (class_number c) x) (class_number k) d ≡ updc f c x k
by_class xs d x c f four h = each_other_class
    (λ k z. get_or (set xs (class_number c) x) (class_number k) d ≡ z) f c x
    (λ k other. get_or-set_other xs (class_number c) (class_number k) x d other ∙ h k)
    (get_or-set_same xs (class_number c) x d (omega (arith, class_below c, four)))

pub rated : (rate : Rate) (m : Member) (x : StationView) → IsOfView m x →
    IsOfView (with_rate rate m) (record x { rate = rate })
rated rate m x h = record {
  four = record { upper = h.four.upper; charged = h.four.charged; received = h.four.received };
  rate = refl;
  exponent = h.exponent;
  ampdu = h.ampdu;
  offloaded = h.offloaded;
  upper = h.upper;
  charged = h.charged;
  received = h.received;
}

pub stated : (octets : ℕ) (m : Member) (x : StationView) → IsOfView m x →
    IsOfView (with_ampdu octets m) (record x { ampdu = Some octets })
stated octets m x h = record {
  four = record { upper = h.four.upper; charged = h.four.charged; received = h.four.received };
  rate = h.rate;
  exponent = h.exponent;
  ampdu = refl;
  offloaded = h.offloaded;
  upper = h.upper;
  charged = h.charged;
  received = h.received;
}

pub turned : (c : Class) (upper : Bool) (m : Member) (x : StationView) → IsOfView m x →
    IsOfView (with_upper c upper m) (record x { upper = updc x.upper c upper })
turned c upper m x h = record {
  four = record {
    upper = length-set m.upper (class_number c) upper ∙ h.four.upper;
    charged = h.four.charged;
    received = h.four.received;
  };
  rate = h.rate;
  exponent = h.exponent;
  ampdu = h.ampdu;
  offloaded = h.offloaded;
  upper = by_class m.upper false upper c x.upper h.four.upper h.upper;
  charged = h.charged;
  received = h.received;
}

pub charged : (c : Class) (air : ℕ) (m : Member) (x : StationView) → IsOfView m x →
    IsOfView (with_charge c air m) (record x { charged = updc x.charged c (x.charged c + air) })
charged c air m x h = record {
  four = record {
    upper = h.four.upper;
    charged =
        length-set m.charged (class_number c) (charged_in m c + air) ∙ h.four.charged;
    received =
        h.four.received;
  };
  rate = h.rate;
  exponent = h.exponent;
  ampdu = h.ampdu;
  offloaded = h.offloaded;
  upper = h.upper;
  charged = λ k. by_class m.charged 0 (charged_in m c + air) c x.charged h.four.charged h.charged k
      ∙ ap (λ (n : ℕ). updc x.charged c (n + air) k) (h.charged c);
  received = h.received;
}

pub receipted : (c : Class) (air : ℕ) (m : Member) (x : StationView) → IsOfView m x →
    IsOfView (with_receipt c air m) (record x { received = updc x.received c (x.received c + air) })
receipted c air m x h = record {
  four = record {
    upper = h.four.upper;
    charged = h.four.charged;
    received =
        length-set m.received (class_number c) (received_in m c + air) ∙ h.four.received;
  };
  rate = h.rate;
  exponent = h.exponent;
  ampdu = h.ampdu;
  offloaded = h.offloaded;
  upper = h.upper;
  charged = h.charged;
  received = λ k. by_class m.received 0 (received_in m c + air) c x.received h.four.received h.received k
      ∙ ap (λ (n : ℕ). updc x.received c (n + air) k) (h.received c);
}

-- ---- a change of one station of the world

-- a station that keeps its TIDs changes, and the member, the sleeper and the turns change with it
pub station_parts : (v : TransmitValue) (w : World) (bodies : ℕ → FrameValue) (s : ℕ) (f : Station → Station)
    (g : StationView → StationView) (members : List (Option Member)) (sleepers : List Sleeper)
    (turns : SchedValue) →
    ((x : Station) → (f x).tids ≡ x.tids) → ((x : Station) → view_of (f x) ≡ g (view_of x)) →
    TurnsStandFor turns (on_station w s f) →
    (StationsStand v.members v.sleepers w.config.stations (roster w).stations →
    StationsStand members sleepers w.config.stations
    (upd (roster w).stations s (option_map g ((roster w).stations s)))) →
    Parts v w bodies → Parts (record v { sched = turns; members = members; sleepers = sleepers })
    (on_station w s f) bodies
station_parts v w bodies s f g members sleepers turns tids seen stands changes h =
    let p : Pieces v w bodies = to_pieces v w bodies h in
    let e : with_view (roster w) s (option_map g ((roster w).stations s)) ≡ roster (on_station w s f) =
    sym (roster_on_station w s f g seen) in
    of_pieces (record v { sched = turns; members = members; sleepers = sleepers }) (on_station w s f) bodies
    (record {
      config = p.config ∙ ap (λ (r : Roster). r.config) e;
      clock = p.clock ∙ ap (λ (r : Roster). r.clock) e;
      exchanges = p.exchanges ∙ ap (λ (r : Roster). r.exchanges) e;
      opened = p.opened ∙ ap (λ (r : Roster). r.opened) e;
      groups = subst (λ (r : Roster). GroupsStand v.groups r.config r.groups) e p.groups;
      stations = subst (λ (r : Roster). StationsStand members sleepers r.config.stations r.stations) e
          (changes p.stations);
      windows = subst (WindowsStand v.windows bodies) (sym (agreements_station w s f tids)) p.windows;
      modes = subst (ModesStand v.modes) (sym (agreements_station w s f tids)) p.modes;
      flows = stands_same v.flows w (on_station w s f) (station_alone w s f tids) p.flows;
      turns = stands;
      ledger = subst (LedgerStands v.inside v.tally bodies) (sym (ledger_station w s f)) p.ledger;
      frames = p.frames;
    })

-- the sleeper of a station changes by g, and the station of the world by f
pub sleeper_parts : (v : TransmitValue) (w : World) (bodies : ℕ → FrameValue) (s : ℕ) (f : Station → Station)
    (g : Sleeper → Sleeper) → s < w.config.stations → ((x : Station) → (f x).tids ≡ x.tids) →
    ((x : Station) → view_of (f x) ≡ on_sleeper g (view_of x)) →
    LeavesRotas w (on_station w s f) → Parts v w bodies →
    Parts (record v { sleepers = with_sleeper v.sleepers s (g (sleeper v.sleepers s)) }) (on_station w s f)
    bodies
sleeper_parts v w bodies s f g low tids seen leaves h =
    station_parts v w bodies s f (on_sleeper g) v.members
    (with_sleeper v.sleepers s (g (sleeper v.sleepers s))) v.sched tids seen (leaves v.sched h.others.turns)
    (λ k. sleeper_changed v.members v.sleepers w.config.stations (roster w).stations s g k low) h
