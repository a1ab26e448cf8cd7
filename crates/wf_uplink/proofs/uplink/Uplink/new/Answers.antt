-- A new uplink is the new world, which satisfies the invariant.
use Rattle.std.proofs.Common.{rules, ◌≡◌, ◌*◌, ◌∙◌, List, replicate, Option, None, ap, ap₂, sym, subst}
use Rattle.wf_def_air.specs.Airtime.{Rate}
use Rattle.wf_uplink.specs.Reordering.{Reordering, unopened}
use Rattle.wf_uplink.specs.Sides.{SideValue}
use Rattle.wf_uplink.specs.Soundness.{IsSound, IsWatched, world_of}
use Rattle.wf_uplink.specs.World.{World, tids_of_station, new_world}
use Rattle.wf_uplink.proofs.Worlds.{new_sound}
use Rattle.wf_uplink.proofs.Watching.{new_watched}
use Rattle.wf_uplink.proofs.uplink.Uplink.new.Goals as goal

pub invariant_of-result : goal.invariant_of-result
invariant_of-result c =
    let rates_are : c.in_ok-rates.rates.items ≡ replicate {A = Option Rate} c.args.stations None =
    search rules in
    let is : world_of 0 c.in_ok-rates.rates.items c.in_ok-sequencers.sequencers.items
    c.in_ok-sides.sides.items 0 0 0 0 ≡ new_world c.args.stations =
    ap₂ (λ (rates : List (Option Rate)) (rs : List Reordering).
    world_of 0 rates rs c.in_ok-sides.sides.items 0 0 0 0) rates_are c.in_ok-sequencers.ensures
    ∙ ap (λ (ss : List SideValue). world_of 0 (replicate c.args.stations None)
    (replicate (tids_of_station * c.args.stations) unopened) ss 0 0 0 0) c.in_ok-sides.ensures in (
      subst IsSound (sym is) (new_sound c.args.stations),
      subst (λ (w : World). IsWatched w c.in_ok-waits.waits) (sym is)
          (subst (IsWatched (new_world c.args.stations)) (sym c.in_ok-waits.ensures)
          (new_watched c.args.stations c.requires.1)),
    )
