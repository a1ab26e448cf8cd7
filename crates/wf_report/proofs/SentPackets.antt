-- Proves the packets of an exchange, which are written one by one.
use Rattle.std.proofs.Common.{◌≡◌, refl, ap, sym, ◌∙◌, subst, ℕ, zero, suc, ◌+◌, ◌<◌, ◌≤◌, List, [], ◌∷◌, ◌++◌, length, map, take, drop, Option, Some, None, arith, length-append, append_assoc, append-nil}
use Rattle.std.specs.Prelude.{slice_get, option_map, option_and_then}
use Rattle.std.specs.Io.KnownBytes.{append_known}
use Rattle.std.proofs.lemmas.List.{take_all, take-append-drop}
use Rattle.wf_frame.specs.Frames.{FrameValue}
use Rattle.wf_octets.specs.HeaderLayout.{header_as_octets as header_octets}
use Rattle.wf_io.specs.Capture.{packet_octets}
use Rattle.wf_io.specs.Fronts.{HoldsFront}
use Rattle.wf_io.proofs.FrontLaws.{front_partly, front_first, front_next, two_written}
use Rattle.wf_def_world.specs.World.{World, Mpdu, Exchange, Content, Frames, Request, exchange}
use Rattle.wf_def_world.specs.Exchanges.{transmissions}
use Rattle.wf_path.specs.declared.reading.Sent.{Sent as Told}
use Rattle.wf_path.specs.Addresses.{made_up}
use Rattle.wf_path.specs.Transmissions.{sent_of, octets_sent, transmission_octets, bar_octets, data_octets, header_of, octets_of_content}
use Rattle.wf_send_half_model.specs.Half.{TransmitValue}
use Rattle.wf_send_half_model.specs.Standing.{StandsFor}
use Rattle.wf_report.specs.Packets.{frames_sent, packets_at, octets_of_packets}
use Rattle.wf_report.specs.Captures.{samples}
use Rattle.wf_report.specs.Samples.{IsSample, HasTransmission}
use Rattle.wf_report.proofs.Sampled.{sent_same}

-- ---- one by one

take_next : {A : Type 0} (xs : List A) (k : ℕ) (x : A) → slice_get xs k ≡ Some x →
    take (suc k) xs ≡ take k xs ++ x ∷ []
take_next [] k x is = absurd (cc is)
take_next (y ∷ ys) zero x is = let same : y ≡ x = cc is in ap (λ z. z ∷ []) same
take_next (y ∷ ys) (suc k) x is = ap (λ l. y ∷ l) (take_next ys k x is)

packets_append : (at : ℕ) (one two : List (List ℕ)) →
    octets_of_packets (packets_at at (one ++ two)) ≡ octets_of_packets (packets_at at one)
    ++ octets_of_packets (packets_at at two)
packets_append at [] two = refl
packets_append at (f ∷ one) two =
    ap (λ l. packet_octets at f ++ l) (packets_append at one two)
    ∙ sym (append_assoc (packet_octets at f) (octets_of_packets (packets_at at one))
    (octets_of_packets (packets_at at two)))

one_packet : (at : ℕ) (f : List ℕ) → octets_of_packets (packets_at at (f ∷ [])) ≡ packet_octets at f
one_packet at f = append-nil (packet_octets at f)

-- The frame with an index is the transmission with this index.
sent_by_index : (w : World) (bodies : ℕ → FrameValue) (e k : ℕ) →
    slice_get (frames_sent w bodies e) k ≡ octets_sent made_up w bodies e k
sent_by_index w bodies e k = of (exchange w e) refl
  where
    of : (o : Option Exchange) → exchange w e ≡ o →
        slice_get (frames_sent w bodies e) k ≡ octets_sent made_up w bodies e k
    of None none = rw none refl
    of (Some x) known = rw known refl

pub octets_same : (v : TransmitValue) (w : World) (bodies : ℕ → FrameValue) → StandsFor v w bodies →
    ((id : ℕ) → IsSample (bodies id)) → (e k : ℕ) →
    octets_sent made_up w bodies e k ≡ octets_sent made_up w (samples w) e k
octets_same v w bodies stands all e k =
    sym (sent_by_index w bodies e k) ∙ ap (λ l. slice_get l k) (sent_same v w bodies stands all e)
    ∙ sent_by_index w (samples w) e k

-- One more packet.
pub packet_more : (w : World) (bodies : ℕ → FrameValue) (e k at : ℕ) (f : List ℕ) →
    octets_sent made_up w bodies e k ≡ Some f →
    octets_of_packets (packets_at at (take (k + 1) (frames_sent w bodies e)))
    ≡ octets_of_packets (packets_at at (take k (frames_sent w bodies e))) ++ packet_octets at f
packet_more w bodies e k at f sent =
    let frames : List (List ℕ) = frames_sent w bodies e in
    let next : k + 1 ≡ suc k = omega arith in
    let more : take (k + 1) frames ≡ take k frames ++ f ∷ [] =
    ap (λ n. take n frames) next ∙ take_next frames k f (sent_by_index w bodies e k ∙ sent) in
    ap (λ l. octets_of_packets (packets_at at l)) more ∙ packets_append at (take k frames) (f ∷ [])
    ∙ ap (λ l. octets_of_packets (packets_at at (take k frames)) ++ l) (one_packet at f)

-- The packets up to an index are a prefix of all packets.
pub packets_front : (w : World) (bodies : ℕ → FrameValue) (e k at : ℕ) →
    octets_of_packets (packets_at at (frames_sent w bodies e))
    ≡ octets_of_packets (packets_at at (take k (frames_sent w bodies e)))
    ++ octets_of_packets (packets_at at (drop k (frames_sent w bodies e)))
packets_front w bodies e k at =
    let frames : List (List ℕ) = frames_sent w bodies e in
    ap (λ l. octets_of_packets (packets_at at l)) (sym (take-append-drop k frames))
    ∙ packets_append at (take k frames) (drop k frames)

-- ---- the number of packets

count_of : (w : World) (bodies : ℕ → FrameValue) (x : Exchange) (c : Content) →
    length (octets_of_content made_up w bodies x c) ≡ transmissions c
count_of w bodies x (Frames mpdus) = lengths mpdus
  where
    lengths : (ms : List Mpdu) → length (map (data_octets made_up w bodies x) ms) ≡ length ms
    lengths [] = refl
    lengths (m ∷ ms) = ap suc (lengths ms)
count_of w bodies x (Request start) = refl

pub all_taken : (w : World) (bodies : ℕ → FrameValue) (e : ℕ) (told : Told) →
    Some told ≡ option_map sent_of (exchange w e) →
    take told.count (frames_sent w bodies e) ≡ frames_sent w bodies e
all_taken w bodies e told is = of (exchange w e) refl
  where
    of : (o : Option Exchange) → exchange w e ≡ o →
        take told.count (frames_sent w bodies e) ≡ frames_sent w bodies e
    of None none = absurd (let bad : Some told ≡ None = is ∙ ap (option_map sent_of) none in cc)
    of (Some x) known =
        let same : Some told ≡ Some (sent_of x) = is ∙ ap (option_map sent_of) known in
        let count : told.count ≡ transmissions x.content = let eq : told ≡ sent_of x = cc in
        ap (λ (t : Told). t.count) eq in
        take_all told.count (frames_sent w bodies e) (rw known
        (omega (arith, count, count_of w bodies x x.content)))

pub none_sent : (w : World) (bodies : ℕ → FrameValue) (e : ℕ) → None ≡ option_map sent_of (exchange w e) →
    frames_sent w bodies e ≡ []
none_sent w bodies e is = of (exchange w e) refl
  where
    of : (o : Option Exchange) → exchange w e ≡ o → frames_sent w bodies e ≡ []
    of None none = rw none refl
    of (Some x) known = absurd (let bad : None ≡ Some (sent_of x) = is ∙ ap (option_map sent_of) known in cc)

-- An exchange that the path returns is open.
pub is_open : (w : World) (e : ℕ) (told : Told) → Some told ≡ option_map sent_of (exchange w e) →
    (x : Exchange) × (exchange w e ≡ Some x) × (told ≡ sent_of x)
is_open w e told is = of (exchange w e) refl
  where
    of : (o : Option Exchange) → exchange w e ≡ o → (x : Exchange) × (exchange w e ≡ Some x) ×
        (told ≡ sent_of x)
    of None none = absurd (let bad : Some told ≡ None = is ∙ ap (option_map sent_of) none in cc)
    of (Some x) known = let same : Some told ≡ Some (sent_of x) = is ∙ ap (option_map sent_of) known in
        (x, known, cc)

-- It has the transmissions that the path returns.
pub is_sending : (w : World) (e k : ℕ) (told : Told) → Some told ≡ option_map sent_of (exchange w e) →
    k < told.count → HasTransmission w e k
is_sending w e k told is few =
    let o = is_open w e told is in
    record { sending = o.0; known = o.1; within = omega (arith, few, ap (λ (t : Told). t.count) o.2) }

-- Each transmission has at least one octet.
pub some_octets : (w : World) (bodies : ℕ → FrameValue) (e k : ℕ) (f : List ℕ) →
    octets_sent made_up w bodies e k ≡ Some f → 0 < length f
some_octets w bodies e k f sent = of (exchange w e) refl
  where
    data_long : (x : Exchange) (ms : List Mpdu) (k : ℕ) →
        slice_get (map (data_octets made_up w bodies x) ms) k ≡ Some f → 0 < length f
    data_long x [] k is = absurd (cc is)
    data_long x (m ∷ ms) zero is =
        let same : data_octets made_up w bodies x m ≡ f = cc is in
        omega (
          arith,
          ap length same,
          length-append (header_octets (header_of made_up w bodies x m)) (bodies m.id).body,
        )
    data_long x (m ∷ ms) (suc k) is = data_long x ms k is

    content_long : (x : Exchange) (c : Content) (k : ℕ) →
        slice_get (octets_of_content made_up w bodies x c) k ≡ Some f → 0 < length f
    content_long x (Frames mpdus) k is = data_long x mpdus k is
    content_long x (Request start) zero is = let same : bar_octets made_up w x start ≡ f = cc is in
        omega (arith, ap length same)
    content_long x (Request start) (suc k) is = absurd (cc is)

    of : (o : Option Exchange) → exchange w e ≡ o → 0 < length f
    of None none = absurd (let bad : None ≡ Some f =
        sym (ap (option_and_then (λ y. transmission_octets made_up w bodies y k)) none) ∙ sent in cc)
    of (Some x) known = content_long x x.content k
        (sym (ap (option_and_then (λ y. transmission_octets made_up w bodies y k)) known) ∙ sent)

-- ---- the octets that a sink holds

drop_next : {A : Type 0} (xs : List A) (k : ℕ) (x : A) → slice_get xs k ≡ Some x →
    drop k xs ≡ x ∷ drop (suc k) xs
drop_next [] k x is = absurd (cc is)
drop_next (y ∷ ys) zero x is = let same : y ≡ x = cc is in ap (λ z. z ∷ ys) same
drop_next (y ∷ ys) (suc k) x is = drop_next ys k x is

module _ (held now new : Option (List ℕ)) (w : World) (bodies : ℕ → FrameValue) (e k at : ℕ) (f : List ℕ)
    (sent : octets_sent made_up w bodies e k ≡ Some f) (clock : at ≡ w.clock)
    (so_far : now ≡ append_known held (octets_of_packets
    (packets_at w.clock (take k (frames_sent w bodies e))))) where
  -- One more packet was written.
  pub more_sent : new ≡ append_known now (packet_octets at f) →
      new ≡ append_known held (octets_of_packets (packets_at w.clock (take (k + 1) (frames_sent w bodies e))))
  more_sent wrote =
      two_written held now new (octets_of_packets (packets_at w.clock (take k (frames_sent w bodies e))))
      (packet_octets w.clock f) so_far (wrote ∙ ap (λ n. append_known now (packet_octets n f)) clock)
      ∙ ap (append_known held) (sym (packet_more w bodies e k w.clock f sent))

  -- A prefix of one more packet was written.
  pub some_sent : (n : ℕ) × (n ≤ length (packet_octets at f)) ×
      (new ≡ append_known now (take n (packet_octets at f))) →
      HoldsFront held new (octets_of_packets (packets_at w.clock (frames_sent w bodies e)))
  some_sent wrote =
      let frames : List (List ℕ) = frames_sent w bodies e in
      let others : List ℕ = octets_of_packets (packets_at w.clock (drop (suc k) frames)) in
      let behind : octets_of_packets (packets_at w.clock (drop k frames)) ≡ packet_octets w.clock f ++ others
      = ap (λ l. octets_of_packets (packets_at w.clock l))
      (drop_next frames k f (sent_by_index w bodies e k ∙ sent)) in
      let all : octets_of_packets (packets_at w.clock frames)
      ≡ octets_of_packets (packets_at w.clock (take k frames)) ++ (packet_octets w.clock f ++ others)
      = packets_front w bodies e k w.clock ∙ ap (λ l. octets_of_packets (packets_at w.clock (take k frames))
      ++ l) behind in
      let partly : HoldsFront now new (packet_octets w.clock f) =
      subst (λ n. HoldsFront now new (packet_octets n f)) clock
      (front_partly (packet_octets at f) now new wrote) in
      subst (HoldsFront held new) (sym all)
      (front_next held now new (octets_of_packets (packets_at w.clock (take k frames)))
      (packet_octets w.clock f ++ others) so_far
      (front_first now new (packet_octets w.clock f) others partly))

-- All packets were written.
pub whole_sent : (held new : Option (List ℕ)) (w : World) (bodies : ℕ → FrameValue) (e : ℕ) (told : Told) →
    Some told ≡ option_map sent_of (exchange w e) →
    new ≡ append_known held (octets_of_packets (packets_at w.clock
    (take told.count (frames_sent w bodies e)))) →
    new ≡ append_known held (octets_of_packets (packets_at w.clock (frames_sent w bodies e)))
whole_sent held new w bodies e told is wrote =
    wrote ∙ ap (λ l. append_known held (octets_of_packets (packets_at w.clock l)))
    (all_taken w bodies e told is)

append_none : (held : Option (List ℕ)) → held ≡ append_known held []
append_none None = refl
append_none (Some xs) = ap Some (sym (append-nil xs))

-- Nothing was written, since the exchange is not open.
pub nothing_sent : (held : Option (List ℕ)) (w : World) (bodies : ℕ → FrameValue) (e : ℕ) →
    None ≡ option_map sent_of (exchange w e) →
    held ≡ append_known held (octets_of_packets (packets_at w.clock (frames_sent w bodies e)))
nothing_sent held w bodies e is = append_none held
    ∙ ap (λ l. append_known held (octets_of_packets (packets_at w.clock l))) (sym (none_sent w bodies e is))
