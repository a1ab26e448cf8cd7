-- Proves that the parts represent the world in which an exchange is closed and its station is charged for it.
use Rattle.std.proofs.Common.{◌≡◌, refl, ap, sym, ◌∙◌, subst, ℕ, ◌+◌, ◌<◌, ◌==◌, Bool, true, false, not, if◌then◌else◌, List, [], ◌∷◌, map, Option, Some, inl, inr, eq-eqb}
use Rattle.std.specs.Prelude.{filter, find}
use Rattle.std.proofs.lemmas.Bool.{cases_eq, ne_eqb}
use Rattle.wf_frame.specs.declared.settings.Config.{Config}
use Rattle.wf_frame.specs.declared.classes.Class.{Class}
use Rattle.wf_frame.specs.Frames.{FrameValue}
use Rattle.wf_def_world.specs.World.{World, Share, Exchange, exchange, on_share, without_exchange}
use Rattle.wf_def_world.specs.Exchanges.{after_charge, paid, charge_of}
use Rattle.wf_law_runs.proofs.Deficits.Books.{updc, updc_idle}
use Rattle.wf_law_runs.specs.Windows.{OpenRises}
use Rattle.wf_sched_refines.specs.Standing.{SchedulerStandsFor as TurnsStandFor, with_deficit_charged as with_turns_charged, with_pending_paid_back, share_in}
use Rattle.wf_sched_refines.proofs.Charges.{charge_stands}
use Rattle.wf_sched_refines.proofs.Exchanges.{closed_stands}
use Rattle.wf_send_parts.specs.declared.exchanges.opened.Open.{Open}
use Rattle.wf_send_parts.specs.Members.{on_member, with_charge}
use Rattle.wf_send_half_model.specs.Half.{TransmitValue}
use Rattle.wf_send_half_model.specs.Standing.{open_of, Parts}
use Rattle.wf_send_half_model.specs.Ending.{without_pending_charge}
use Rattle.wf_send_half_model.specs.Views.{view_of, roster}
use Rattle.wf_send_half_model.proofs.Views.{reshared, view_reshared}
use Rattle.wf_send_half_model.proofs.Stands.{Pieces, to_pieces, of_pieces}
use Rattle.wf_send_half_model.proofs.Stations.{member_changed, charged, station_parts}

others_open : (xs : List Exchange) (e : ℕ) → filter (λ y. not (y.number == e)) (map open_of xs)
    ≡ map open_of (filter (λ y. not (y.number == e)) xs)
others_open [] e = refl
others_open (x ∷ xs) e = go (not (x.number == e)) (others_open xs e)
  where
    go : (b : Bool) → filter (λ (y : Open). not (y.number == e)) (map open_of xs)
        ≡ map open_of (filter (λ (y : Exchange). not (y.number == e)) xs) →
        (if b then open_of x ∷ filter (λ (y : Open). not (y.number == e)) (map open_of xs)
        else filter (λ (y : Open). not (y.number == e)) (map open_of xs))
        ≡ map open_of (if b then x ∷ filter (λ (y : Exchange). not (y.number == e)) xs
        else filter (λ (y : Exchange). not (y.number == e)) xs)
    go true h = ap (λ (t : List Open). open_of x ∷ t) h
    go false h = h

-- an exchange that is found by a number has it
pub number_found : (xs : List Exchange) (e : ℕ) (x : Exchange) → find (λ y. y.number == e) xs ≡ Some x →
    x.number ≡ e
number_found [] e x found = absurd (cc found)
number_found (y ∷ ys) e x found = elim (cases_eq y.number e) [
  | inl here ↦
      let first : (if y.number == e then Some y else find (λ (k : Exchange). k.number == e) ys) ≡ Some y =
      ap (λ (b : Bool). if b then Some y else find (λ (k : Exchange). k.number == e) ys)
      (eq-eqb y.number e here) in
      let it : y ≡ x = cc (first, found) in
      ap (λ (k : Exchange). k.number) (sym it) ∙ here
  | inr other ↦ number_found ys e x (sym (ap (λ (b : Bool). if b then Some y
      else find (λ (k : Exchange). k.number == e) ys) (ne_eqb y.number e other)) ∙ found)
]

pub found_again : (w : World) (e : ℕ) (x : Exchange) → exchange w e ≡ Some x → exchange w x.number ≡ Some x
found_again w e x known = ap (exchange w) (number_found w.opened e x known) ∙ known

-- the half with an exchange closed, before its station is charged
abbrev pub after_closing : TransmitValue → Open → TransmitValue
after_closing v x = record v {
  opened = filter (λ y. not (y.number == x.number)) v.opened;
  sched = without_pending_charge v x;
}

pub close_parts : (v : TransmitValue) (w : World) (bodies : ℕ → FrameValue) (x : Exchange) →
    exchange w x.number ≡ Some x → OpenRises 0 w.exchanges w.opened → Parts v w bodies →
    Parts (after_closing v (open_of x)) (without_exchange w x.number) bodies
unfolding without_exchange
close_parts v w bodies x known rises h =
    let p : Pieces v w bodies = to_pieces v w bodies h in
    let e : ℕ = x.number in
    of_pieces (after_closing v (open_of x)) (without_exchange w e) bodies
    (record {
      config = p.config;
      clock = p.clock;
      exchanges = p.exchanges;
      opened = ap (λ (xs : List Open). filter (λ (y : Open). not (y.number == e)) xs) p.opened
          ∙ others_open w.opened e;
      groups = p.groups;
      stations = p.stations;
      windows = p.windows;
      modes = record { sized = p.modes.sized; each = p.modes.each };
      flows = p.flows;
      turns = subst (λ (k : Config). TurnsStandFor
          (with_pending_paid_back k v.sched x.station x.class x.charge) (without_exchange w e))
          (sym p.config) (closed_stands v.sched w x e known rises p.turns);
      ledger = p.ledger;
      frames = p.frames;
    })

pub charge_parts : (v : TransmitValue) (w : World) (bodies : ℕ → FrameValue) (x : Exchange) (air : Option ℕ) →
    x.station < w.config.stations → Parts v w bodies →
    Parts (record v {
      sched = with_turns_charged v.sched x.station x.class (charge_of air x);
      members =
          on_member v.members x.station (with_charge x.class (charge_of air x));
    }) (after_charge w x air) bodies
unfolding after_charge on_share
charge_parts v w bodies x air low h =
    let n : ℕ = charge_of air x in
    let f : Share → Share = paid n in
    let c : Class = x.class in
    station_parts v w bodies x.station (λ y. reshared y c f)
    (λ y. record y { charged = updc y.charged c (y.charged c + n) })
    (on_member v.members x.station (with_charge c n)) v.sleepers
    (with_turns_charged v.sched x.station c n)
    (λ y. refl)
    (λ y. view_reshared y c f
    ∙ ap (λ (g : Class → Bool). record (view_of y) {
      upper = g;
      charged =
          updc (view_of y).charged c ((share_in y c).charged + n);
      received =
          updc (view_of y).received c (share_in y c).received;
    })
    (updc_idle (view_of y).upper c (share_in y c).upper refl)
    ∙ ap (λ (g : Class → ℕ). record (view_of y) {
      charged =
          updc (view_of y).charged c ((share_in y c).charged + n);
      received = g;
    })
    (updc_idle (view_of y).received c (share_in y c).received refl))
    (charge_stands v.sched w x air h.others.turns)
    (λ k. member_changed v.members v.sleepers w.config.stations (roster w).stations x.station
    (with_charge c n) (λ y. record y { charged = updc y.charged c (y.charged c + n) }) k low
    (charged c n) (λ y. refl)) h
