-- Proves the times of control frames and the charges of exchanges, in microseconds, by computation.
use Rattle.std.proofs.Common.{◌≡◌, refl, arith, ℕ, ◌+◌, true, false}
use Rattle.wf_def_air.specs.Airtime.{Rate, Ofdm, Dsss, slow_dsss_mbps, fast_dsss_mbps, slow_mbps, middle_mbps, fast_mbps, ack_time, request_time, answer_time, longest_answer, data_time, data_charge, plain_charge, request_charge}

pub request_takes : request_time fast_mbps ≡ 32
request_takes = refl

pub middle_request_takes : request_time middle_mbps ≡ 40
middle_request_takes = refl

pub slow_request_takes : request_time slow_mbps ≡ 56
slow_request_takes = refl

pub answer_takes : answer_time fast_mbps false ≡ 32
answer_takes = refl

pub middle_answer_takes : answer_time middle_mbps false ≡ 44
middle_answer_takes = refl

pub slow_answer_takes : answer_time slow_mbps false ≡ 68
slow_answer_takes = refl

pub wide_answer_takes : answer_time fast_mbps true ≡ 40
wide_answer_takes = refl

pub middle_wide_answer_takes : answer_time middle_mbps true ≡ 60
middle_wide_answer_takes = refl

pub slow_wide_answer_takes : answer_time slow_mbps true ≡ 100
slow_wide_answer_takes = refl

pub longest_answer_takes : longest_answer 0 0 ≡ 56
longest_answer_takes = refl

pub longest_slow_answer_takes : longest_answer 1 0 ≡ 116
longest_slow_answer_takes = refl

pub longest_answer_of_dsss_takes : longest_answer 1 2 ≡ 320
longest_answer_of_dsss_takes = refl

pub slow_ack_takes : ack_time slow_mbps ≡ 44
slow_ack_takes = refl

pub ack_of_dsss_takes : ack_time fast_dsss_mbps ≡ 248
ack_of_dsss_takes = refl

pub slow_ack_of_dsss_takes : ack_time slow_dsss_mbps ≡ 304
slow_ack_of_dsss_takes = refl

-- with the setting `answers` 0 the answer takes the same time at each rate of data
pub request_is_charged : (r : Rate) → request_charge 0 r false ≡ 80
request_is_charged r = refl

pub wide_request_is_charged : (r : Rate) → request_charge 0 r true ≡ 88
wide_request_is_charged r = refl

pub data_is_charged : (r : Rate) (octets : ℕ) → data_charge 0 r octets false ≡ data_time r octets + 48
data_is_charged r octets = omega arith

pub wide_data_is_charged : (r : Rate) (octets : ℕ) → data_charge 0 r octets true ≡ data_time r octets + 56
wide_data_is_charged r octets = omega arith

-- ---- rates without HT: a body of 1500 octets is a frame of 1530

pub six_is_charged : plain_charge 0 (Ofdm 6) 1530 ≡ 2108
six_is_charged = refl

pub six_is_charged_with_answers : plain_charge 1 (Ofdm 6) 1530 ≡ 2124
six_is_charged_with_answers = refl

pub nine_is_answered_at_six : plain_charge 1 (Ofdm 9) 1530 ≡ 1444
nine_is_answered_at_six = refl

pub fifty_four_is_charged : plain_charge 1 (Ofdm 54) 1530 ≡ 292
fifty_four_is_charged = refl

pub one_is_charged : plain_charge 0 (Dsss 2) 1530 ≡ 12476
one_is_charged = refl

pub one_is_charged_with_answers : plain_charge 1 (Dsss 2) 1530 ≡ 12752
one_is_charged_with_answers = refl

pub eleven_is_answered_at_two : plain_charge 1 (Dsss 22) 1530 ≡ 1569
eleven_is_answered_at_two = refl
