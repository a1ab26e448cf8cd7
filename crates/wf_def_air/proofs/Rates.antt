-- Proves worked rates and durations by computation. Each row was worked out from the standards' tables.
use Rattle.std.proofs.Common.{◌≡◌, refl, true, false}
use Rattle.wf_def_air.specs.Airtime.{Ht, Vht, He, Ofdm, Dsss, is_rate, is_allowed, bits, kbps, data_time}

-- ---- which rates there are

pub nine_on_twenty_for_one : is_rate (Vht 9 20 true 1) ≡ false
nine_on_twenty_for_one = refl

pub nine_on_twenty_for_three : is_rate (Vht 9 20 true 3) ≡ true
nine_on_twenty_for_three = refl

pub six_on_eighty_for_seven : is_rate (Vht 6 80 false 7) ≡ false
six_on_eighty_for_seven = refl

pub no_short_interval_of_he : is_rate (He 11 160 400 4) ≡ false
no_short_interval_of_he = refl

pub no_eighty_of_ht : is_rate (Ht 0 80 false) ≡ false
no_eighty_of_ht = refl

-- ---- bits of a symbol, and kbit/s

pub three_times_a_fraction : bits (Vht 9 20 false 3) ≡ 1040
three_times_a_fraction = refl

pub a_fraction_falls_away : bits (He 9 80 800 2) ≡ 13066
a_fraction_falls_away = refl

pub fastest_of_vht : kbps (Vht 9 160 true 8) ≡ 6933333
fastest_of_vht = refl

pub fastest_of_he : kbps (He 11 160 800 8) ≡ 9607794
fastest_of_he = refl

pub slowest_of_he : kbps (He 0 20 3200 1) ≡ 7312
slowest_of_he = refl

-- ---- durations in microseconds

pub longest_single_of_ht : data_time (Ht 0 20 false) 2338 ≡ 2920
longest_single_of_ht = refl

pub longest_single_of_vht : data_time (Vht 0 20 false 1) 2338 ≡ 2924
longest_single_of_vht = refl

pub longest_single_of_he : data_time (He 0 20 3200 1) 2338 ≡ 2628
longest_single_of_he = refl

pub two_streams_of_eighty : data_time (Vht 9 80 true 2) 1538 ≡ 60
two_streams_of_eighty = refl

-- With six encoders, the tails are the last bits of a symbol.
pub six_tails_fill_it : data_time (Vht 7 160 true 4) 1163 ≡ 56
six_tails_fill_it = refl

pub six_tails_pass_it : data_time (Vht 7 160 true 4) 1164 ≡ 60
six_tails_pass_it = refl

pub one_symbol_of_he : data_time (He 11 80 800 2) 1538 ≡ 64
one_symbol_of_he = refl

pub rounded_up_of_he : data_time (He 11 160 800 4) 65535 ≡ 188
rounded_up_of_he = refl

pub fewer_bits_of_he : data_time (He 11 80 800 1) 6122 ≡ 139
fewer_bits_of_he = refl

-- ---- rates without HT

pub seven_is_no_rate : is_rate (Ofdm 7) ≡ false
seven_is_no_rate = refl

pub three_half_is_no_rate : is_rate (Dsss 3) ≡ false
three_half_is_no_rate = refl

pub ofdm_not_allowed : is_allowed 0 (Ofdm 54) ≡ false
ofdm_not_allowed = refl

pub ofdm_allowed : is_allowed 1 (Ofdm 54) ≡ true
ofdm_allowed = refl

pub dsss_not_allowed : is_allowed 1 (Dsss 22) ≡ false
dsss_not_allowed = refl

pub he_allowed : is_allowed 0 (He 0 20 800 1) ≡ true
he_allowed = refl

pub bits_of_six : bits (Ofdm 6) ≡ 24
bits_of_six = refl

pub bits_of_fifty_four : bits (Ofdm 54) ≡ 216
bits_of_fifty_four = refl

pub kbps_of_nine : kbps (Ofdm 9) ≡ 9000
kbps_of_nine = refl

pub kbps_of_eleven_halves : kbps (Dsss 11) ≡ 5500
kbps_of_eleven_halves = refl

-- A frame of 2304 octets has 2334, and with the greatest encryption and a delimiter 2370.
pub longest_at_six : data_time (Ofdm 6) 2370 ≡ 3184
longest_at_six = refl

pub longest_at_fifty_four : data_time (Ofdm 54) 2334 ≡ 368
longest_at_fifty_four = refl

pub longest_at_one : data_time (Dsss 2) 2370 ≡ 19152
longest_at_one = refl

pub longest_at_eleven : data_time (Dsss 22) 2334 ≡ 1890
longest_at_eleven = refl

-- 18,672 bits at 5.5 Mbit/s take 3394.9 microseconds, and the last counts whole.
pub rounded_up_of_dsss : data_time (Dsss 11) 2334 ≡ 3587
rounded_up_of_dsss = refl
