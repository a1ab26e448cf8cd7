-- Defines which rates there are, how long a transmission takes, and the charge of an exchange, with the
-- pauses of 5 GHz. Data is sent with HT, mixed format (IEEE 802.11-2012, clause 20), with VHT to one station
-- (802.11-2016, clause 21) or with HE to one station (802.11ax-2021, clause 27); if the setting `legacy`
-- allows it, also with OFDM (802.11-2012, clause 18) or with DSSS and its long preamble (clause 17). Control
-- frames are sent with OFDM at 6, 12 or 24 Mbit/s, or with DSSS at 1 or 2. Times are in whole microseconds,
-- or in tenths of a microsecond if the name says so.
use Rattle.std.specs.Prelude.{◌≡◌, ℕ, ◌+◌, ◌-◌, ◌*◌, ◌/◌, ◌%◌, ◌==◌, nat_lt, nat_le, Bool, true, false, not, ◌&&◌, ◌||◌, List, [], ◌∷◌, if◌then◌else◌, slice_index}
use Rattle.wf_def_lists.specs.Table.{ceil_div, has}
use Rattle.wf_def_lists.specs.Bounds.{greatest_mcs}

-- ---- rates

-- A rate: its MCS, the width of the channel in MHz, the guard interval, and the number of spatial streams.
-- The guard interval of HT and VHT is short (400 ns) or long (800 ns); that of HE is in nanoseconds. The
-- MCS of HT determines the number of streams. A rate of OFDM is its Mbit/s, and one of DSSS its half Mbit/s.
pub data Rate : Type 0 where
  Ht : (mcs mhz : ℕ) (short : Bool) → Rate
  Vht : (mcs mhz : ℕ) (short : Bool) (streams : ℕ) → Rate
  He : (mcs mhz guard streams : ℕ) → Rate
  Ofdm : (mbps : ℕ) → Rate
  Dsss : (half_mbps : ℕ) → Rate

-- The most robust rate: HT MCS 0, 20 MHz, long guard interval.
abbrev pub lowest_rate : Rate
lowest_rate = Ht 0 20 false

-- The greatest MCS of VHT (21.5).
abbrev pub greatest_vht_mcs : ℕ
greatest_vht_mcs = 9

-- The greatest MCS of HE (27.5).
abbrev pub greatest_he_mcs : ℕ
greatest_he_mcs = 11

-- The greatest number of spatial streams of VHT and HE to one station.
abbrev pub greatest_streams : ℕ
greatest_streams = 8

-- Returns whether a channel of VHT or HE may have this width in MHz.
abbrev pub is_wide_width : ℕ → Bool
is_wide_width mhz = has (20 ∷ 40 ∷ 80 ∷ 160 ∷ []) mhz

-- Returns the numbers of streams for which VHT has no rate with this MCS and width (21.5).
abbrev pub streams_left_out : ℕ → ℕ → List ℕ
streams_left_out mcs mhz =
    if (mcs == 9) && (mhz == 20) then 1 ∷ 2 ∷ 4 ∷ 5 ∷ 7 ∷ 8 ∷ []
    else (if (mcs == 6) && (mhz == 80) then 3 ∷ 7 ∷ []
    else (if (mcs == 9) && (mhz == 80) then 6 ∷ []
    else (if (mcs == 9) && (mhz == 160) then 3 ∷ [] else [])))

-- Returns whether n is a possible number of spatial streams: 1 to 8.
abbrev pub are_streams : ℕ → Bool
are_streams n = nat_le 1 n && nat_le n greatest_streams

-- The rates of OFDM in Mbit/s (18.3.2.3).
abbrev pub ofdm_rates : List ℕ
ofdm_rates = 6 ∷ 9 ∷ 12 ∷ 18 ∷ 24 ∷ 36 ∷ 48 ∷ 54 ∷ []

-- The rates of DSSS in half Mbit/s: 1, 2, 5.5 and 11 Mbit/s (17.2.3.3).
abbrev pub dsss_rates : List ℕ
dsss_rates = 2 ∷ 4 ∷ 11 ∷ 22 ∷ []

-- Returns whether the rate is in the standard's tables (20.6, 21.5, 27.5, 18.3.2.3, 17.2.3.3).
abbrev pub is_rate : Rate → Bool
is_rate (Ht mcs mhz short) = nat_le mcs greatest_mcs && has (20 ∷ 40 ∷ []) mhz
is_rate (Vht mcs mhz short n) = nat_le mcs greatest_vht_mcs
    && (is_wide_width mhz && (are_streams n && not (has (streams_left_out mcs mhz) n)))
is_rate (He mcs mhz guard n) = nat_le mcs greatest_he_mcs
    && (is_wide_width mhz && (are_streams n && has (800 ∷ 1600 ∷ 3200 ∷ []) guard))
is_rate (Ofdm mbps) = has ofdm_rates mbps
is_rate (Dsss half) = has dsss_rates half

-- The rate is in the standard's tables.
abbrev pub IsRate : Rate → Type 0
IsRate r = is_rate r ≡ true

-- Returns the least value of the setting `legacy` with which a station may have this rate: 0 for HT, VHT and
-- HE, 1 for OFDM and 2 for DSSS.
abbrev pub legacy_of : Rate → ℕ
legacy_of (Ht mcs mhz short) = 0
legacy_of (Vht mcs mhz short n) = 0
legacy_of (He mcs mhz guard n) = 0
legacy_of (Ofdm mbps) = 1
legacy_of (Dsss half) = 2

-- Returns whether a station may have this rate, by the setting `legacy`.
abbrev pub is_allowed : ℕ → Rate → Bool
is_allowed legacy r = nat_le (legacy_of r) legacy

-- The setting `legacy` allows the rate.
abbrev pub IsAllowed : ℕ → Rate → Type 0
IsAllowed legacy r = is_allowed legacy r ≡ true

-- Returns whether data at this rate is one frame without a delimiter, which an Ack answers: OFDM and DSSS
-- have neither aggregates nor BlockAcks here.
abbrev pub is_single : Rate → Bool
is_single r = nat_lt 0 (legacy_of r)

-- Returns the number of spatial streams. HT has one for MCS 0 to 7 and two for MCS 8 to 15 (20.6).
abbrev pub streams : Rate → ℕ
streams (Ht mcs mhz short) = 1 + mcs / 8
streams (Vht mcs mhz short n) = n
streams (He mcs mhz guard n) = n
streams (Ofdm mbps) = 1
streams (Dsss half) = 1

-- Returns the index of the modulation and coding of each stream: the MCS, modulo 8 for HT. OFDM and DSSS have
-- none, and the index 0 is not read.
abbrev pub modulation : Rate → ℕ
modulation (Ht mcs mhz short) = mcs % 8
modulation (Vht mcs mhz short n) = mcs
modulation (He mcs mhz guard n) = mcs
modulation (Ofdm mbps) = 0
modulation (Dsss half) = 0

-- The data bits of twelve carriers, by modulation and coding: 12 times the bits of a carrier times the code
-- rate, from 1 bit at 1/2 to 10 bits at 5/6 (20.6, 21.5, 27.5).
abbrev pub bits_of_twelve : List ℕ
bits_of_twelve = 6 ∷ 12 ∷ 18 ∷ 24 ∷ 36 ∷ 48 ∷ 54 ∷ 60 ∷ 72 ∷ 80 ∷ 90 ∷ 100 ∷ []

-- Returns the number of data carriers of HT and VHT, spaced 312.5 kHz, for a width in MHz (clauses 20 and
-- 21).
abbrev pub carriers_of_312 : ℕ → ℕ
carriers_of_312 mhz = if mhz == 40 then 108 else (if mhz == 80 then 234 else (if mhz == 160 then 468 else 52))

-- Returns the number of data carriers of HE, spaced 78.125 kHz, for a width in MHz (clause 27).
abbrev pub carriers_of_78 : ℕ → ℕ
carriers_of_78 mhz =
    if mhz == 40 then 468 else (if mhz == 80 then 980 else (if mhz == 160 then 1960 else 234))

-- Returns the number of data carriers of a rate. OFDM has 48 (18.3.2.3), and DSSS is one carrier.
abbrev pub carriers : Rate → ℕ
carriers (Ht mcs mhz short) = carriers_of_312 mhz
carriers (Vht mcs mhz short n) = carriers_of_312 mhz
carriers (He mcs mhz guard n) = carriers_of_78 mhz
carriers (Ofdm mbps) = 48
carriers (Dsss half) = 1

-- Returns the data bits in a symbol of a rate with an MCS, rounded down.
abbrev pub coded_bits : Rate → ℕ
coded_bits r = carriers r * streams r * slice_index bits_of_twelve (modulation r) / 12

-- Returns the data bits in a symbol of OFDM, at a rate in Mbit/s: a symbol takes 4 microseconds (18.3.2.3).
abbrev pub ofdm_bits : ℕ → ℕ
ofdm_bits mbps = 4 * mbps

-- Returns the data bits in a symbol, rounded down. DSSS: the halves of a bit in a microsecond.
abbrev pub bits : Rate → ℕ
bits (Ht mcs mhz short) = coded_bits (Ht mcs mhz short)
bits (Vht mcs mhz short n) = coded_bits (Vht mcs mhz short n)
bits (He mcs mhz guard n) = coded_bits (He mcs mhz guard n)
bits (Ofdm mbps) = ofdm_bits mbps
bits (Dsss half) = half

-- Returns the time of a symbol in tenths of a microsecond. HT and VHT: 4 microseconds with the long guard
-- interval, 3.6 with the short one. HE: 12.8 microseconds and the guard interval. OFDM: 4 microseconds. DSSS
-- is counted in microseconds.
abbrev pub symbol_tenths : Rate → ℕ
symbol_tenths (Ht mcs mhz short) = if short then 36 else 40
symbol_tenths (Vht mcs mhz short n) = if short then 36 else 40
symbol_tenths (He mcs mhz guard n) = 128 + guard / 100
symbol_tenths (Ofdm mbps) = 40
symbol_tenths (Dsss half) = 10

-- Returns the data rate in kbit/s, rounded down.
abbrev pub kbps : Rate → ℕ
kbps (Ht mcs mhz short) = 10000 * bits (Ht mcs mhz short) / symbol_tenths (Ht mcs mhz short)
kbps (Vht mcs mhz short n) = 10000 * bits (Vht mcs mhz short n) / symbol_tenths (Vht mcs mhz short n)
kbps (He mcs mhz guard n) = 10000 * bits (He mcs mhz guard n) / symbol_tenths (He mcs mhz guard n)
kbps (Ofdm mbps) = 1000 * mbps
kbps (Dsss half) = 500 * half

-- ---- data

-- The length of the SERVICE field in bits (18.4.3, 20.4.3).
abbrev pub service_bits : ℕ
service_bits = 16

-- The tail of each encoder in bits (18.4.3, 20.4.3).
abbrev pub tail_bits : ℕ
tail_bits = 6

-- The SERVICE field and the tail of one encoder, in bits.
abbrev pub service_and_tail_bits : ℕ
service_and_tail_bits = service_bits + tail_bits

-- The most data bits that one VHT encoder takes in a symbol (21.5).
abbrev pub encoder_bits : ℕ
encoder_bits = 2160

-- Returns whether a VHT rate has the width `width`, the number of streams `streams` and the MCS `at`.
abbrev is_vht_at : (mcs mhz n width streams : ℕ) → ℕ → Bool
is_vht_at mcs mhz n width streams at = (mhz == width) && ((n == streams) && (mcs == at))

-- Returns the number of encoders of a VHT rate, from the data bits in its symbol (21.5). It is the least
-- number that takes the bits, except at thirteen rates, at which each encoder needs whole blocks of its
-- code in a symbol.
abbrev pub vht_encoders : (mcs mhz n : ℕ) → ℕ → ℕ
vht_encoders mcs mhz n per_symbol =
    if is_vht_at mcs mhz n 80 7 2 then 3
    else (if is_vht_at mcs mhz n 80 7 7 || (is_vht_at mcs mhz n 80 7 8 || (is_vht_at mcs mhz n 80 8 7
    || (is_vht_at mcs mhz n 160 4 7 || is_vht_at mcs mhz n 160 7 4))) then 6
    else (if is_vht_at mcs mhz n 160 5 8 || (is_vht_at mcs mhz n 160 6 7
    || is_vht_at mcs mhz n 160 8 5) then 8
    else (if is_vht_at mcs mhz n 160 7 7 then 9
    else (if is_vht_at mcs mhz n 160 7 8 || (is_vht_at mcs mhz n 160 7 9
    || is_vht_at mcs mhz n 160 8 8) then 12
    else ceil_div per_symbol encoder_bits))))

-- Returns the number of encoders of a rate. HT, HE and OFDM have one, DSSS has none.
abbrev pub encoders : Rate → ℕ
encoders (Ht mcs mhz short) = 1
encoders (Vht mcs mhz short n) = vht_encoders mcs mhz n (bits (Vht mcs mhz short n))
encoders (He mcs mhz guard n) = 1
encoders (Ofdm mbps) = 1
encoders (Dsss half) = 0

-- Returns the bits of an octet. DSSS: the halves of its bits.
abbrev pub octet_bits : Rate → ℕ
octet_bits (Ht mcs mhz short) = 8
octet_bits (Vht mcs mhz short n) = 8
octet_bits (He mcs mhz guard n) = 8
octet_bits (Ofdm mbps) = 8
octet_bits (Dsss half) = 16

-- Returns the bits of the SERVICE field, which DSSS has in its preamble.
abbrev pub payload_service : Rate → ℕ
payload_service (Ht mcs mhz short) = service_bits
payload_service (Vht mcs mhz short n) = service_bits
payload_service (He mcs mhz guard n) = service_bits
payload_service (Ofdm mbps) = service_bits
payload_service (Dsss half) = 0

-- Returns the bits that a payload has in addition to its octets: the SERVICE field and the tails.
abbrev pub service_and_tails : Rate → ℕ
service_and_tails r = payload_service r + tail_bits * encoders r

-- Returns the number of symbols of this many octets, with the SERVICE field and the tails. The last symbol
-- counts whole (20.4.3, 21.4.3, 27.4.3, 18.4.3). DSSS: the number of microseconds, the last of which counts
-- whole (17.3.4).
abbrev pub symbols : Rate → ℕ → ℕ
symbols r octets = ceil_div (octet_bits r * octets + service_and_tails r) (bits r)

-- Returns the time of the preamble without its long training fields, in tenths of a microsecond. HT mixed:
-- L-STF 8 microseconds, L-LTF 8, L-SIG 4, HT-SIG 8 and HT-STF 4 (20.3.7). VHT: the same with VHT-SIG-A and
-- VHT-STF, and VHT-SIG-B 4 after the training fields (21.3.2). HE: L-STF 8, L-LTF 8, L-SIG 4, RL-SIG 4,
-- HE-SIG-A 8 and HE-STF 4 (clause 27). OFDM: its preamble 16 and SIGNAL 4 (18.4.3). DSSS: its long preamble
-- 144 and header 48 (17.2.2.2).
abbrev pub preamble_head_tenths : Rate → ℕ
preamble_head_tenths (Ht mcs mhz short) = 320
preamble_head_tenths (Vht mcs mhz short n) = 360
preamble_head_tenths (He mcs mhz guard n) = 360
preamble_head_tenths (Ofdm mbps) = 200
preamble_head_tenths (Dsss half) = 1920

-- The number of long training fields for 1, 2 .. 8 streams (clauses 20, 21 and 27).
abbrev pub training_fields : List ℕ
training_fields = 1 ∷ 2 ∷ 4 ∷ 4 ∷ 6 ∷ 6 ∷ 8 ∷ 8 ∷ []

-- Returns the time of a long training field in tenths of a microsecond. HT and VHT: 4 microseconds. HE: the
-- guard interval and 6.4 microseconds, or 12.8 if the guard interval is 3200 ns. OFDM and DSSS have none.
abbrev pub training_tenths : Rate → ℕ
training_tenths (Ht mcs mhz short) = 40
training_tenths (Vht mcs mhz short n) = 40
training_tenths (He mcs mhz guard n) = (if guard == 3200 then 128 else 64) + guard / 100
training_tenths (Ofdm mbps) = 0
training_tenths (Dsss half) = 0

-- Returns the time of the preamble in tenths of a microsecond.
abbrev pub preamble_tenths : Rate → ℕ
preamble_tenths r = preamble_head_tenths r
    + training_tenths r * slice_index training_fields (streams r - 1)

-- Rounds a time in tenths of a microsecond up to a multiple of 4 microseconds.
abbrev pub whole_symbols : ℕ → ℕ
whole_symbols tenths = 40 * ceil_div tenths 40

-- Returns the time of the payload of this many octets, in tenths of a microsecond (TXTIME: 20.4.3, 21.4.3,
-- 27.4.3, 18.4.3, 17.3.4). HT and VHT round it up to whole symbols of the long guard interval.
abbrev pub payload_tenths : Rate → ℕ → ℕ
payload_tenths (Ht mcs mhz short) octets = whole_symbols
    (symbol_tenths (Ht mcs mhz short) * symbols (Ht mcs mhz short) octets)
payload_tenths (Vht mcs mhz short n) octets = whole_symbols
    (symbol_tenths (Vht mcs mhz short n) * symbols (Vht mcs mhz short n) octets)
payload_tenths (He mcs mhz guard n) octets =
    symbol_tenths (He mcs mhz guard n) * symbols (He mcs mhz guard n) octets
payload_tenths (Ofdm mbps) octets = symbol_tenths (Ofdm mbps) * symbols (Ofdm mbps) octets
payload_tenths (Dsss half) octets = symbol_tenths (Dsss half) * symbols (Dsss half) octets

-- Returns the time of an aggregate of this many octets, preamble and payload, in microseconds, rounded up.
abbrev pub data_time : Rate → ℕ → ℕ
data_time r octets = ceil_div (preamble_tenths r + payload_tenths r octets) 10

-- ---- control frames

-- The time of the OFDM preamble and the SIGNAL field, in microseconds: 16 and 4 (18.4.3).
abbrev pub control_preamble_time : ℕ
control_preamble_time = 20

-- The time of an OFDM symbol in microseconds (18.4.3).
abbrev pub control_symbol_time : ℕ
control_symbol_time = 4

-- The time of the long preamble and the header of DSSS, in microseconds: 144 and 48 (17.2.2.2).
abbrev pub dsss_preamble_time : ℕ
dsss_preamble_time = 192

-- The rates of DSSS for control frames in Mbit/s.
abbrev pub slow_dsss_mbps : ℕ
slow_dsss_mbps = 1

abbrev pub fast_dsss_mbps : ℕ
fast_dsss_mbps = 2

-- The mandatory rates of OFDM in Mbit/s: the lowest, the one between, and the highest (18.4.3).
abbrev pub slow_mbps : ℕ
slow_mbps = 6

abbrev pub middle_mbps : ℕ
middle_mbps = 12

abbrev pub fast_mbps : ℕ
fast_mbps = 24

-- Returns whether data at this rate is sent with DSSS.
abbrev pub is_dsss : Rate → Bool
is_dsss r = nat_lt 1 (legacy_of r)

-- Returns the rate of DSSS in Mbit/s at which control frames answer data of DSSS: 1 if the data's is 1,
-- otherwise 2.
abbrev pub dsss_mbps : Rate → ℕ
dsss_mbps r = if nat_le (1000 * fast_dsss_mbps) (kbps r) then fast_dsss_mbps else slow_dsss_mbps

-- Returns the rate in Mbit/s at which control frames go to and from a station with this rate of data. If the
-- setting `answers` is 1 it is the highest mandatory rate that is not above that of the data, as for a
-- response (9.7.6.5.2): of OFDM, or of DSSS if the data is sent with it. Otherwise it is the highest one of
-- OFDM.
abbrev pub control_mbps : ℕ → Rate → ℕ
control_mbps answers r =
    if answers == 0 then fast_mbps
    else (if is_dsss r then dsss_mbps r
    else (if nat_le (1000 * fast_mbps) (kbps r) then fast_mbps
    else (if nat_le (1000 * middle_mbps) (kbps r) then middle_mbps else slow_mbps)))

-- Returns the lowest rate of control frames in Mbit/s, by the setting `answers`, if they are sent with OFDM.
abbrev pub slowest_control : ℕ → ℕ
slowest_control answers = if answers == 0 then fast_mbps else slow_mbps

-- Returns the time of a control frame of this many octets with DSSS at a rate in Mbit/s, in microseconds. The
-- last microsecond counts whole (17.3.4).
abbrev pub dsss_control_time : ℕ → ℕ → ℕ
dsss_control_time mbps octets = dsss_preamble_time + ceil_div (8 * octets) mbps

-- Returns the time of a control frame of this many octets with OFDM at a rate in Mbit/s, in microseconds. The
-- last symbol counts whole (18.4.3).
abbrev pub ofdm_control_time : ℕ → ℕ → ℕ
ofdm_control_time mbps octets = control_preamble_time + control_symbol_time * ceil_div
    (8 * octets + service_and_tail_bits) (ofdm_bits mbps)

-- Returns the time of a control frame of this many octets at a rate in Mbit/s, in microseconds: with DSSS at
-- 1 or 2 Mbit/s, otherwise with OFDM.
abbrev pub control_time : ℕ → ℕ → ℕ
control_time mbps octets =
    if nat_le mbps fast_dsss_mbps then dsss_control_time mbps octets else ofdm_control_time mbps octets

-- The length of a frame check sequence in octets (8.2.4.8).
abbrev pub check_octets : ℕ
check_octets = 4

-- The length of a BlockAckReq in octets, without its check sequence (8.3.1.8).
abbrev pub request_octets : ℕ
request_octets = 20

-- Returns the length of a BlockAck in octets, without its check sequence: with a bitmap of 8 octets
-- (8.3.1.9), or of 32 octets for a wide session (802.11ax-2021, 9.3.1.8.2).
abbrev pub block_ack_octets : Bool → ℕ
block_ack_octets wide = if wide then 52 else 28

-- The length of an Ack in octets, without its check sequence (8.3.1.4).
abbrev pub ack_octets : ℕ
ack_octets = 10

-- Returns the time of an Ack at a rate in Mbit/s, in microseconds.
abbrev pub ack_time : ℕ → ℕ
ack_time mbps = control_time mbps (ack_octets + check_octets)

-- Returns the time of a BlockAckReq at a rate in Mbit/s, in microseconds.
abbrev pub request_time : ℕ → ℕ
request_time mbps = control_time mbps (request_octets + check_octets)

-- Returns the time of a BlockAck at a rate in Mbit/s, in microseconds.
abbrev pub answer_time : ℕ → Bool → ℕ
answer_time mbps wide = control_time mbps (block_ack_octets wide + check_octets)

-- ---- charges

-- SIFS, the pause between a frame and its answer, in microseconds at 5 GHz (18.4.4).
abbrev pub sifs : ℕ
sifs = 16

-- Returns the time of the pause and the longest answer in microseconds, by the settings `answers` and
-- `legacy`: a BlockAck, or an Ack with DSSS. No exchange is charged more than this in addition to its data or
-- request.
abbrev pub longest_answer : ℕ → ℕ → ℕ
longest_answer answers legacy =
    sifs + (if (answers == 0) || nat_le legacy 1 then answer_time (slowest_control answers) true
    else ack_time slow_dsss_mbps)

-- Returns the charge of a data exchange in microseconds, by the setting `answers`: its data, the pause and
-- the BlockAck.
abbrev pub data_charge : ℕ → Rate → ℕ → Bool → ℕ
data_charge answers r octets wide = data_time r octets + sifs + answer_time (control_mbps answers r) wide

-- Returns the charge of a frame that an Ack answers in microseconds, by the setting `answers`: its data of
-- this many octets, the pause and the Ack.
abbrev pub plain_charge : ℕ → Rate → ℕ → ℕ
plain_charge answers r octets = data_time r octets + sifs + ack_time (control_mbps answers r)

-- Returns the charge of an exchange of a BlockAckReq to a station with this rate of data in microseconds, by
-- the setting `answers`: the request, the pause and the BlockAck.
abbrev pub request_charge : ℕ → Rate → Bool → ℕ
request_charge answers r wide =
    request_time (control_mbps answers r) + sifs + answer_time (control_mbps answers r) wide
