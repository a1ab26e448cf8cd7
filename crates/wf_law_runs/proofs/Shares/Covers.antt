-- Proves the bound on the quanta of a station that waits between two moments, from that over entries.
use Rattle.std.proofs.Common.{◌≡◌, ap, sym, ◌∙◌, subst, arith, ℕ, ◌+◌, ◌-◌, ◌*◌, ◌≤◌, pos, ◌+ℤ◌, ◌≤ℤ◌, List, take, drop, inl, inr}
use Rattle.wf_frame.specs.declared.settings.Config.{Config}
use Rattle.wf_frame.specs.declared.classes.Class.{Class}
use Rattle.wf_def_world.specs.World.{World, share, station}
use Rattle.wf_def_world.specs.Run.{Entry}
use Rattle.wf_def_world.specs.Stretches.{world_at}
use Rattle.wf_law_runs.specs.Deficits.{got_between}
use Rattle.wf_law_runs.specs.Shares.{received_between, deficit_then, quantum_then}
use Rattle.wf_law_runs.proofs.Shares.Moments.{later_is}
use Rattle.wf_law_runs.proofs.Shares.Grants.{IsGranted}
use Rattle.wf_law_runs.proofs.Shares.Rounds.{Covers}

pub covers_later : (config : Config) (h : List Entry) (s : ℕ) (c : Class) (a b m : ℕ) → a ≤ b →
    (station (world_at config h b) s).weight ≡ (station (world_at config h a) s).weight →
    IsGranted config m c s (world_at config h a) (take (b - a) (drop a h)) →
    Covers (quantum_then config h b s) (got_between config h s c a b) (received_between config h s c a b) m
    (deficit_then config h a s c)
covers_later config h s c a b m order weight (inl none) = inl (
    let same : (share (world_at config h b) s c).quanta ≡ (share (world_at config h a) s c).quanta =
    ap (λ (v : World). (share v s c).quanta) (later_is config h a b order) ∙ none in omega arith)
covers_later config h s c a b m order weight (inr some) = inr (subst (λ (g : ℕ).
    (pos (config.quantum * g * got_between config h s c a b) +ℤ deficit_then config h a s c) ≤ℤ
    pos (config.quantum * g + received_between config h s c a b + m)) (sym weight)
    (subst (λ (v : World). (pos (config.quantum * (station (world_at config h a) s).weight *
    ((share v s c).quanta - (share (world_at config h a) s c).quanta)) +ℤ deficit_then config h a s c) ≤ℤ
    pos (config.quantum * (station (world_at config h a) s).weight + received_between config h s c a b + m))
    (sym (later_is config h a b order)) some))
