-- Proves that the transmissions of a path with the placeholder addresses are those that a definition with
-- fixed addresses gives.
use Rattle.std.proofs.Common.{◌≡◌, refl, ap, ap₂, ◌∙◌, arith, ℕ, ◌+◌, List, [], ◌∷◌, ◌++◌, map, get_or, replicate, inl, inr, Option, Some, None, unwrap_or}
use Rattle.std.specs.Prelude.{option_and_then, slice_get}
use Rattle.std.specs.List.{range_with_len}
use Rattle.std.specs.Option.{option_map_or}
use Rattle.std.proofs.lemmas.Bool.{cases_lt}
use Rattle.std.proofs.lemmas.List.{get_or-replicate, get_or_past, length-replicate}
use Rattle.std.proofs.lemmas.List.FromFn.{get_or-map-range_with_len, length-map-range_with_len}
use Rattle.wf_frame.specs.Frames.{FrameValue}
use Rattle.wf_octets.specs.BlockLayout.{head_octets, request, narrow_fragment}
use Rattle.wf_octets.specs.declared.block.frames.Bar.{Bar}
use Rattle.wf_octets.specs.Addresses.{base, address_of_station}
use Rattle.wf_octets.specs.HeaderLayout.{header_as_octets}
use Rattle.wf_octets.specs.declared.header.header.Header.{Header}
use Rattle.wf_def_world.specs.World.{World, Exchange, Mpdu, Content, Frames, Request, station, exchange}
use Rattle.wf_path.specs.Addresses.{Addresses, made_up, made_up_aids, address_in, bss_in, aid_in, aid_of_station, station_numbers, bss_numbers}
use Rattle.wf_path.specs.Transmissions.{header_of, data_octets, bar_of, octets_of_content, frames_on_air, transmission_octets, octets_sent}
use Rattle.wf_path.specs.Writing.{room_fault, write_fault}
use Rattle.wf_path.specs.declared.faults.PathFault.TheVariants.{NoExchange}

pub made_up_address : (s : ℕ) → address_in made_up s ≡ address_of_station s
unfolding made_up
made_up_address s = elim (cases_lt s station_numbers) [
  | inl low ↦ get_or-map-range_with_len address_of_station 0 station_numbers s s (address_of_station s) low
      (omega arith)
  | inr past ↦ get_or_past (map address_of_station (range_with_len 0 station_numbers)) s (address_of_station
      s)
      (omega (arith, past, length-map-range_with_len address_of_station 0 station_numbers))
]

-- each BSS of the placeholder addresses has the access point's address
pub made_up_bss : (b : ℕ) → bss_in made_up b ≡ base
unfolding made_up
made_up_bss b = elim (cases_lt b bss_numbers) [
  | inl low ↦ ap (λ (o : Option (List ℕ)). unwrap_or o base)
      (get_or-replicate bss_numbers b None None low)
  | inr past ↦ ap (λ (o : Option (List ℕ)). unwrap_or o base)
      (get_or_past (replicate bss_numbers None) b None
      (omega (arith, past, length-replicate {A = Option (List ℕ)} bss_numbers None)))
]

-- the identifiers of the placeholder addresses equal those of a new path
pub made_up_has_aids : made_up.aids ≡ made_up_aids
unfolding made_up
made_up_has_aids = refl

-- a station of a new path has the identifier of its number
pub made_up_aid : (a : Addresses) → a.aids ≡ made_up_aids → (s : ℕ) → aid_in a s ≡ s + 1
unfolding made_up_aids
made_up_aid a made s = ap (λ (l : List ℕ). get_or l s (s + 1)) made ∙ elim (cases_lt s station_numbers) [
  | inl low ↦ get_or-map-range_with_len aid_of_station 0 station_numbers s s (s + 1) low (omega arith)
  | inr past ↦ get_or_past (map aid_of_station (range_with_len 0 station_numbers)) s (s + 1)
      (omega (arith, past, length-map-range_with_len aid_of_station 0 station_numbers))
]

-- the placeholder addresses, in a form that computes
abbrev pub plain : Addresses
plain = record { base = base; stations = []; bsses = []; aids = [] }

-- ---- transmissions from and to these addresses

module _ (w : World) (bodies : ℕ → FrameValue) where
  header_plain : (x : Exchange) (m : Mpdu) → header_of made_up w bodies x m ≡ header_of plain w bodies x m
  header_plain x m = ap₂ (λ (ra ta : List ℕ). let h : Header = record (header_of plain w bodies x m) {
    a1 = ra;
    a2 = ta;
  } in h) (made_up_address x.station) (made_up_bss (station w x.station).bss)

  all_plain : (x : Exchange) (ms : List Mpdu) →
      map (data_octets made_up w bodies x) ms ≡ map (data_octets plain w bodies x) ms
  all_plain x [] = refl
  all_plain x (m ∷ ms) = ap₂ (λ (o : List ℕ) (os : List (List ℕ)). o ∷ os)
      (ap (λ (h : Header). header_as_octets h ++ (bodies m.id).body) (header_plain x m)) (all_plain x ms)

  bar_plain : (x : Exchange) (start : ℕ) → bar_of made_up w x start ≡ bar_of plain w x start
  bar_plain x start = ap₂ (λ (ra ta : List ℕ). let b : Bar = record (bar_of plain w x start) {
    ra = ra;
    ta = ta;
  } in b) (made_up_address x.station) (made_up_bss (station w x.station).bss)

  content_plain : (x : Exchange) (c : Content) →
      octets_of_content made_up w bodies x c ≡ octets_of_content plain w bodies x c
  content_plain x (Frames mpdus) = all_plain x mpdus
  content_plain x (Request start) = ap (λ (b : Bar). head_octets request narrow_fragment b ∷ [])
      (bar_plain x start)

  pub frames_plain : (x : Exchange) → frames_on_air made_up w bodies x ≡ frames_on_air plain w bodies x
  frames_plain x = content_plain x x.content

  pub transmission_plain : (x : Exchange) (k : ℕ) →
      transmission_octets made_up w bodies x k ≡ transmission_octets plain w bodies x k
  transmission_plain x k = ap (λ (all : List (List ℕ)). slice_get all k) (frames_plain x)

  pub sent_plain : (e k : ℕ) → octets_sent made_up w bodies e k ≡ octets_sent plain w bodies e k
  sent_plain e k = of (exchange w e)
    where
      of : (o : Option Exchange) → option_and_then (λ x. transmission_octets made_up w bodies x k) o
          ≡ option_and_then (λ x. transmission_octets plain w bodies x k) o
      of None = refl
      of (Some x) = transmission_plain x k

  pub write_fault_plain : (e k room : ℕ) →
      write_fault made_up w bodies e k room ≡ write_fault plain w bodies e k room
  write_fault_plain e k room = of (exchange w e)
    where
      of : (o : Option Exchange) → option_map_or
          (λ x. room_fault room (transmission_octets made_up w bodies x k)) o (Some NoExchange)
          ≡ option_map_or (λ x. room_fault room (transmission_octets plain w bodies x k)) o (Some NoExchange)
      of None = refl
      of (Some x) = ap (room_fault room) (transmission_plain x k)
