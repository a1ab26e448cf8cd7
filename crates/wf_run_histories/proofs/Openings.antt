-- Proves the shape and the length of the opening calls, by induction on the number of stations.
use Rattle.std.proofs.Common.{◌≡◌, ℕ, zero, suc, ◌+◌, ◌*◌, List, ◌++◌, length, refl, ap, sym, append_assoc, append-nil, length-append, arith}
use Rattle.wf_def_world.specs.Run.{Entry, Past}
use Rattle.wf_run_histories.specs.Opening.{station_calls, opening_calls, with_entries}

-- Entries may be appended in two parts.
pub both_stretches : (p : Past) (one two : List Entry) →
    with_entries two (with_entries one p) ≡ with_entries (one ++ two) p
both_stretches p one two = ap (λ (h : List Entry). record p { history = h }) (append_assoc p.history one two)

pub no_stretch : (p : Past) → with_entries (opening_calls 0) p ≡ p
unfolding opening_calls
no_stretch p = ap (λ (h : List Entry). record p { history = h }) (append-nil p.history)

-- Each station makes two calls.
pub opening_length : (n : ℕ) → length (opening_calls n) ≡ 2 * n
unfolding opening_calls
opening_length zero = refl
opening_length (suc n) =
    let before = opening_length n in
    let more = length-append (opening_calls n) (station_calls n) in
    omega (arith, before, more)

-- One more station.
pub next_station : (n : ℕ) → opening_calls n ++ station_calls n ≡ opening_calls (n + 1)
unfolding opening_calls
next_station n = let next : n + 1 ≡ suc n = omega arith in sym (ap opening_calls next)
