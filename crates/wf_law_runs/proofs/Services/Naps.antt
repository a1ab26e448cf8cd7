-- Proves that few calls change the part of a station that its service periods depend on: whether it sleeps,
-- its delivery-enabled classes, its limit and its open service period.
use Rattle.std.proofs.Common.{◌≡◌, refl, sym, ◌∙◌, ap, ℕ, false, Option, Some, None, is_some, option_map, unwrap_or}
use Rattle.wf_frame.specs.declared.notes.Ask.TheVariants.{Join, Leave, Rate, Pull, Sleep, Wake, Poll, Ampdu, Offload, Weight, Plain, Service, Bss}
use Rattle.wf_frame.specs.declared.notes.Note.{Note}
use Rattle.wf_frame.specs.declared.notes.Note.TheVariants.{Asked}
use Rattle.wf_frame.specs.declared.notes.Refusal.{Refusal}
use Rattle.wf_def_lists.specs.Table.{at}
use Rattle.wf_def_world.specs.World.{World, Station, no_station, station, is_live, on_station, with_station}
use Rattle.wf_def_world.specs.Service.{station_served}
use Rattle.wf_def_world.specs.CanSend.{with_listings_of}
use Rattle.wf_def_world.specs.Refusals.{refusals}
use Rattle.wf_def_world.specs.Step.{step, after_refusal}
use Rattle.wf_law_rules.proofs.Lemmas.Tables.{at_put_same}
use Rattle.wf_law_runs.proofs.Common.Traits.{Trait, trait, Keeps, Changes, kept_refused, kept_listed, kept_step}
use Rattle.wf_law_runs.proofs.Windows.Opened.{NoRow}

-- The part of a station, as a station that has nothing else.
abbrev pub nap : Station → Station
nap x = record no_station { asleep = x.asleep; delivery = x.delivery; most = x.most; service = x.service }

abbrev pub nap_at : World → ℕ → Station
nap_at w s = nap (station w s)

-- ---- a station whose part does not change

abbrev pub napped : Option Trait → Station
napped None = no_station
napped (Some x) =
    record no_station { asleep = x.asleep; delivery = x.delivery; most = x.most; service = x.service }

napped_is : (o : Option Station) → napped (option_map trait o) ≡ nap (unwrap_or o no_station)
napped_is None = refl
napped_is (Some x) = refl

-- Station s has this part.
abbrev pub Naps : ℕ → Station → ℕ → Option Trait → Type 0
Naps s z i o = i ≡ s → napped o ≡ z

pub is_napped : (w : World) (s : ℕ) (z : Station) → Keeps (Naps s z) w → nap_at w s ≡ z
is_napped w s z h = sym (napped_is (at None w.stations s)) ∙ h s refl

pub naps : (w : World) (s : ℕ) (z : Station) → nap_at w s ≡ z → Keeps (Naps s z) w
naps w s z e i is = napped_is (at None w.stations i) ∙ (ap (nap_at w) is ∙ e)

pub nap_listed : (o : Option ℕ) (w : World) (s : ℕ) → nap_at (with_listings_of w o) s ≡ nap_at w s
nap_listed o w s = is_napped (with_listings_of w o) s (nap_at w s)
    (kept_listed (Naps s (nap_at w s)) o w (naps w s (nap_at w s) refl))

pub nap_refused : (note : Note) (r : Refusal) (w : World) (s : ℕ) →
    nap_at (after_refusal w note r) s ≡ nap_at w s
nap_refused note r w s = is_napped (after_refusal w note r) s (nap_at w s)
    (kept_refused (Naps s (nap_at w s)) note r w (naps w s (nap_at w s) refl))

-- ---- calls about something else

not_live : (w : World) (s : ℕ) → is_live w s ≡ false → nap_at w s ≡ no_station
not_live w s e = go (at None w.stations s) e
  where
    go : (o : Option Station) → is_some o ≡ false → nap (unwrap_or o no_station) ≡ no_station
    go None e = refl
    go (Some x) e = absurd (cc e)

-- The call does not change the part of station s.
abbrev pub IsApartFrom : ℕ → Note → Type 0
IsApartFrom s (Asked (Leave i)) = i ≡ s → ⊥
IsApartFrom s (Asked (Sleep i)) = i ≡ s → ⊥
IsApartFrom s (Asked (Wake i)) = i ≡ s → ⊥
IsApartFrom s (Asked (Service ask)) = station_served ask ≡ s → ⊥
IsApartFrom s (Asked (Pull c limits)) = ⊥
IsApartFrom s note = Unit {0}

changes : (note : Note) (w : World) (s : ℕ) → IsApartFrom s note → NoRow (refusals w note) →
    Changes (Naps s (nap_at w s)) note w
changes (Asked (Join i window start exponent weight)) w s apart rows =
    λ is. sym (not_live w i rows.1.1.1.1.1.0) ∙ ap (nap_at w) is
changes (Asked (Offload i exponent weight)) w s apart rows =
    λ is. sym (not_live w i rows.1.1.1.0) ∙ ap (nap_at w) is
changes (Asked (Plain i start exponent weight)) w s apart rows =
    λ is. sym (not_live w i rows.1.1.1.1.0) ∙ ap (nap_at w) is
changes (Asked (Weight i weight)) w s apart rows = λ x e k. k
changes (Asked (Leave i)) w s apart rows = λ is. absurd (apart is)
changes (Asked (Rate i rate)) w s apart rows = λ x e k. k
changes (Asked (Sleep i)) w s apart rows = λ x e k is. absurd (apart is)
changes (Asked (Wake i)) w s apart rows = λ x e k is. absurd (apart is)
changes (Asked (Poll i)) w s apart rows = λ x e k. k
changes (Asked (Ampdu i octets)) w s apart rows = λ x e k. k
changes (Asked (Service ask)) w s apart rows = λ x e k is. absurd (apart is)
changes (Asked (Bss i b)) w s apart rows = λ x e k. k
changes (Asked (Pull c limits)) w s apart rows = absurd apart
changes _ w s apart rows = tt

pub nap_apart : (note : Note) (w : World) (s : ℕ) → IsApartFrom s note →
    nap_at (step w note).world s ≡ nap_at w s
nap_apart note w s apart = is_napped (step w note).world s (nap_at w s)
    (kept_step (Naps s (nap_at w s)) w note (changes note w s apart) (naps w s (nap_at w s) refl))

-- ---- a change of the part

-- A change of a station changes its part by g. A station that is not live stays so.
pub nap_on : (w : World) (s : ℕ) (f g : Station → Station) → ((x : Station) → nap (f x) ≡ g (nap x)) →
    (is_live w s ≡ false → g no_station ≡ no_station) → nap_at (on_station w s f) s ≡ g (nap_at w s)
unfolding on_station with_station
nap_on w s f g same none =
    ap (λ (o : Option Station). nap (unwrap_or o no_station))
    (at_put_same None w.stations s (option_map f (at None w.stations s)))
    ∙ go (at None w.stations s) none
  where
    go : (o : Option Station) → (is_some o ≡ false → g no_station ≡ no_station) →
        nap (unwrap_or (option_map f o) no_station) ≡ g (nap (unwrap_or o no_station))
    go None none = sym (none refl)
    go (Some x) none = same x

-- A station that leaves has nothing.
pub nap_gone : (w : World) (s : ℕ) → nap_at (with_station w s None) s ≡ no_station
unfolding with_station
nap_gone w s = ap (λ (o : Option Station). nap (unwrap_or o no_station)) (at_put_same None w.stations s None)
