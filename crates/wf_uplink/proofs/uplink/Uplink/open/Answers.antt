-- The call leads to the world of the definition, which satisfies the invariant.
use Rattle.std.proofs.Common.{◌≡◌, ◌<◌, List, ◌++◌, length, take, drop, Option, None, Some, get_or, set, ◌∙◌, ap, ap₂, sym, subst, arith}
use Rattle.std.proofs.lemmas.List.{get_or_default}
use Rattle.wf_def_air.specs.Airtime.{Rate, lowest_rate}
use Rattle.wf_recv_peer.specs.Board.{empty_board}
use Rattle.wf_uplink.specs.Reordering.{Reordering}
use Rattle.wf_uplink.specs.Sides.{SideValue, Agreed}
use Rattle.wf_uplink.specs.Soundness.{IsSound, IsWatched, world_of}
use Rattle.wf_uplink.specs.World.{World, begun, sided, rate_of}
use Rattle.wf_uplink.proofs.Worlds.{IsOpening, opened_sound, begun_length, sided_length, none_of}
use Rattle.wf_uplink.proofs.Watching.{opened_watched}
use Rattle.wf_uplink.proofs.Heard.{back_whole}
use Rattle.wf_uplink.proofs.uplink.Uplink.open.Goals as goal

pub invariant_of-self : goal.invariant_of-self
invariant_of-self c =
    let u = c.self.inside in
    let w : World =
    world_of u.clock u.rates.items u.sequencers.items u.sides.items u.frames u.up u.back u.missing in
    let new_is : c.begin.new.sequencers ≡ begun 8 c.args.station c.args.window c.args.start
    u.sequencers.items =
    c.begin.ensures ∙ ap (begun 8 c.args.station c.args.window c.args.start) c.deref_mut.ensures.value in
    let size = ap length new_is ∙ begun_length 8 c.args.station c.args.window c.args.start u.sequencers.items
    in
    let list_is = back_whole u.sequencers.len c.begin.new.sequencers u.sequencers.items size u.sequencers.ok.0
    ∙ new_is in
    let first : SideValue = Agreed (empty_board c.args.start c.args.window) in
    let new_sides : c.agree.new.sides ≡ sided 8 c.args.station first u.sides.items =
    c.agree.ensures ∙ ap (sided 8 c.args.station first) c.deref_mut-2.ensures.value in
    let sides_are = back_whole u.sides.len c.agree.new.sides u.sides.items
    (ap length new_sides ∙ sided_length 8 c.args.station first u.sides.items) u.sides.ok.0 ∙ new_sides in
    let is = ap₂ (λ (rates : List (Option Rate)) (rs : List Reordering).
    world_of u.clock rates rs (take u.sides.len (c.agree.new.sides
    ++ drop (length c.agree.new.sides) u.sides.items)) u.frames u.up u.back u.missing)
    (ap₂ (λ n (rate : Rate). set u.rates.items n (Some rate)) c.from-number.ensures c.lowest.ensures) list_is
    ∙ ap (λ (ss : List SideValue). world_of u.clock (set u.rates.items c.args.station (Some lowest_rate))
    (begun 8 c.args.station c.args.window c.args.start u.sequencers.items) ss u.frames u.up u.back u.missing)
    sides_are
    in
    let inside : c.from-number.result < length u.rates.items =
    grind (arith, c.if-number-len.false, c.len.ensures, u.rates.ok.0) in
    let shut : rate_of w c.args.station ≡ None =
    ap (λ n. get_or u.rates.items n None) (sym c.from-number.ensures)
    ∙ get_or_default u.rates.items c.from-number.result None c.index.result.now inside
    ∙ sym c.index.ensures
    ∙ none_of c.index.result.now (sym c.is_some.ensures ∙ c.if-is_some.false) in
    let x : IsOpening c.args.station c.args.window c.args.start w = record {
      within = subst (λ n. n < length u.rates.items) c.from-number.ensures inside;
      some = omega (arith, c.if-window-lt1.false);
      low = omega (arith, c.if-start-gt-GREATEST_START.false);
      shut = shut;
    } in (
      subst IsSound (sym is) (opened_sound c.args.station c.args.window c.args.start w c.self.invariant.0 x),
      subst (λ (v : World). IsWatched v u.waits) (sym is)
          (opened_watched c.args.station c.args.window c.args.start w u.waits c.self.invariant.0
          c.self.invariant.1 x),
    )
