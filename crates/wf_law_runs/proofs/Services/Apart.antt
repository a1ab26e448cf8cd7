-- Proves that the calls about service periods change no share, no session, no queue and no rotation.
use Rattle.std.proofs.Common.{◌≡◌, refl, ap, ◌∙◌, ℕ, Option, Some, None, unwrap_or, option_map}
use Rattle.wf_frame.specs.declared.notes.ServiceAsk.{ServiceAsk}
use Rattle.wf_frame.specs.Classes.{class_number}
use Rattle.wf_def_lists.specs.Table.{at}
use Rattle.wf_def_world.specs.World.{World, Station, no_share, no_tid, no_station, station, on_station, with_station}
use Rattle.wf_def_world.specs.Service.{station_served, after_service}
use Rattle.wf_def_world.specs.Step.{service_outcome}
use Rattle.wf_law_rules.proofs.Lemmas.Tables.{each_put}
use Rattle.wf_law_runs.specs.Services.{ServiceApartLaw}

-- A part of a station that the calls about service periods do not change.
reads_same : {X : Type 0} (f : Station → X) (w : World) (ask : ServiceAsk) (s : ℕ) →
    ((x : Station) → f (after_service ask x) ≡ f x) →
    f (station (service_outcome w ask).world s) ≡ f (station w s)
unfolding on_station with_station
reads_same f w ask s same =
    let i : ℕ = station_served ask in
    each_put (λ j o. j ≡ s → f (unwrap_or o no_station) ≡ f (station w s)) None w.stations i
    (option_map (after_service ask) (at None w.stations i)) (λ j is. ap (λ (k : ℕ). f (station w k)) is)
    (λ is. go (at None w.stations i) ∙ ap (λ (k : ℕ). f (station w k)) is) s refl
  where
    go : (o : Option Station) → f (unwrap_or (option_map (after_service ask) o) no_station)
        ≡ f (unwrap_or o no_station)
    go None = refl
    go (Some x) = same x

rest_same : (w : World) (ask : ServiceAsk) →
    (service_outcome w ask).world ≡ record w { stations = (service_outcome w ask).world.stations }
unfolding on_station with_station
rest_same w ask = refl

pub apart_law : ServiceApartLaw
apart_law w ask = record {
  rest = rest_same w ask;
  shares = λ s c. reads_same (λ x. at no_share x.shares (class_number c)) w ask s (λ x. refl);
  tids = λ s t. reads_same (λ x. at no_tid x.tids t) w ask s (λ x. refl);
}
