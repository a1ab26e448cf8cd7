-- Defines the parts of a summary.
use Rattle.std.specs.Prelude.{ℕ, List, [], ◌∷◌, ◌++◌, if◌then◌else◌, codes, decimal, length, map}
use Rattle.std.specs.List.{concat}
use Rattle.wf_def_lists.specs.Table.{upto}
use Rattle.wf_def_world.specs.Group.{bss_count}
use Rattle.wf_def_world.specs.World.{World, is_live, live_stations}
use Rattle.wf_frame.specs.Words.{line}
use Rattle.wf_def_world.specs.Text.{share_lines, tally_words, bss_lines}

-- The first four lines of a summary, those of one station, those of all stations, and those of all BSSs.
abbrev pub counts_of_summary : World → ℕ → List ℕ
counts_of_summary w calls =
    line (codes "calls" ∷ decimal calls ∷ []) ++ line (codes "now" ∷ decimal w.clock ∷ [])
    ++ line (tally_words w)
    ++ line (codes "exchanges" ∷ decimal w.exchanges ∷ codes "open" ∷ decimal (length w.opened) ∷ [])

abbrev pub lines_of : World → ℕ → List ℕ
lines_of w s = if is_live w s then share_lines w s else []

abbrev pub shares_of : World → List ℕ
shares_of w = concat (map (share_lines w) (live_stations w))

abbrev pub lines_of_bsses : World → List ℕ
lines_of_bsses w = concat (map (bss_lines w) (upto (bss_count w.config.bsses)))
