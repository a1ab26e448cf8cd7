-- Defines the standard stations, which `soak` and `live` join.
use Rattle.std.specs.Prelude.{ℕ, ◌%◌, false}
use Rattle.wf_frame.specs.declared.notes.Ask.{Ask}
use Rattle.wf_frame.specs.declared.notes.Ask.TheVariants.{Join, Rate}
use Rattle.wf_frame.specs.declared.notes.AskedRate.TheVariants.{Ht}

-- Station s joins, with a window of 64 numbers from `start` on, the exponent 3 and the weight 1.
abbrev pub standard_join : ℕ → ℕ → Ask
standard_join s start = Join s 64 start 3 1

-- The rate of station s is set, at 20 MHz with the long guard interval.
abbrev pub standard_rate : ℕ → Ask
standard_rate s = Rate s (Ht (s % 8) 20 false)
