-- Each branch of the dequeue is the branch of the definition, by the look at the first frame.
use Rattle.std.proofs.Common.{◌≡◌, true, ◌∷◌, ◌≤◌, ◌∙◌, ap, sym, subst, map, arith, length}
use Rattle.std.proofs.lemmas.List.{length-map}
use Rattle.wf_queue_flows.specs.CodelParams.{params_of}
use Rattle.wf_queue_flows.specs.CodelState.{codel_state_of}
use Rattle.wf_def_codel.specs.Codel.{Codel, drops_dropping}
use Rattle.wf_law_rules.proofs.Lemmas.Stepped.{drops-on, drops-off, state-on, state-off}
use Rattle.wf_queue_flows.proofs.CodelBegins.{takes-none, state-kept, takes-one, state-started, state-empty, drops-inside, gives-some, takes-empty, dequeue-seen, counted-after, IsCounted}
use Rattle.wf_queue_flows.proofs.codel.Codel.dequeue.Goals as goal

-- ---- the lane is empty

pub returns-in_default-clause-taken : goal.returns-in_default-clause-taken
returns-in_default-clause-taken g c = rw (
  c.in_default.ensures.first.0,
  c.in_default.ensures.first.1,
  c.in_default.ensures.thrown,
) (takes-empty _ _ _)

pub returns-in_default-clause-state : goal.returns-in_default-clause-state
returns-in_default-clause-state g c = rw (← c.self.view_is, c.in_default.ensures.first.0)
    (state-empty (params_of c.args.params) c.args.now (codel_state_of c.self.inside))

pub returns-in_default-clause-seen : goal.returns-in_default-clause-seen
returns-in_default-clause-seen g c = dequeue-seen g.L.Lane.look g.L.Lane.tossed
    (params_of c.args.params) c.args.now c.args.self.now (g.L.Lane.rest c.args.lane.now) _ _ _ _ _
    (returns-in_default-clause-taken g c) (returns-in_default-clause-state g c)

-- ---- it is dropping

pub returns-then-self-clause-taken : goal.returns-then-self-clause-taken
returns-then-self-clause-taken g c =
    let on : c.args.self.now.dropping ≡ true = sym (ap (λ s. s.dropping) c.self.view_is)
    ∙ c.if-self.true in
    rw (
      c.in-Some.ensures.first,
      ← c.in-Some.ensures.thrown,
      drops-on (params_of c.args.params) c.args.now c.args.self.now
          (map g.L.Lane.look (c.in-Some.first ∷ g.L.Lane.rest c.pop.new.self)) on,
    ) c.keep_dropping.ensures.taken

pub returns-then-self-clause-state : goal.returns-then-self-clause-state
returns-then-self-clause-state g c =
    let on : c.args.self.now.dropping ≡ true = sym (ap (λ s. s.dropping) c.self.view_is)
    ∙ c.if-self.true in
    c.keep_dropping.ensures.state ∙ sym (rw c.in-Some.ensures.first
    (state-on (params_of c.args.params) c.args.now c.args.self.now
    (map g.L.Lane.look (c.in-Some.first ∷ g.L.Lane.rest c.pop.new.self)) on))

pub returns-then-self-clause-none : goal.returns-then-self-clause-none
returns-then-self-clause-none g c =
    let inside : drops_dropping (params_of c.args.params) c.args.now c.args.self.now c.args.self.now.drop_next
    (map g.L.Lane.look (c.in-Some.first ∷ g.L.Lane.rest c.pop.new.self))
    ≤ length (g.L.Lane.rest c.pop.new.self) =
    omega (
      arith,
      drops-inside (map g.L.Lane.look (g.L.Lane.rest c.pop.new.self))
          (params_of c.args.params) c.args.now c.args.self.now c.args.self.now.drop_next
          (g.L.Lane.look c.in-Some.first),
      length-map (g.L.Lane.rest c.pop.new.self) g.L.Lane.look,
    ) in (
      λ none. absurd (gives-some _ _ _ _ _ _ _ _ c.keep_dropping.ensures.taken inside none),
      λ empty. cc (c.in-Some.ensures.first),
    )

pub returns-then-self-clause-seen : goal.returns-then-self-clause-seen
returns-then-self-clause-seen g c = dequeue-seen g.L.Lane.look g.L.Lane.tossed
    (params_of c.args.params) c.args.now c.args.self.now (g.L.Lane.rest c.args.lane.now) _ _ _ _ _
    (returns-then-self-clause-taken g c) (returns-then-self-clause-state g c)

pub returns-then-self-clause-counted : goal.returns-then-self-clause-counted
returns-then-self-clause-counted g c = rw (returns-then-self-clause-state g c)
    (counted-after (params_of c.args.params) c.args.now c.args.self.now
    (map g.L.Lane.look (g.L.Lane.rest c.args.lane.now))
    (subst (λ (s : Codel). IsCounted s) c.self.view_is c.self.invariant))

-- ---- it is not dropping, and the first look is not ok

pub returns-then-not-ok-clause-taken : goal.returns-then-not-ok-clause-taken
returns-then-not-ok-clause-taken g c =
    rw (
      ← c.self.view_is,
      c.in-Some.ensures.first,
      ← c.in-Some.ensures.thrown,
      drops-off (params_of c.args.params) c.args.now (codel_state_of c.self.inside)
          (map g.L.Lane.look (c.in-Some.first ∷ g.L.Lane.rest c.pop.new.self)) c.if-self.false,
    ) (takes-none g.L.Lane.look g.L.Lane.tossed (params_of c.args.params) c.args.now
    (codel_state_of c.self.inside) _ c.in-Some.first _ c.in-Some.sight.stamp c.in-Some.sight.left
    c.look-above.result.0 c.look-above.result.1
    c.in-Some.ensures.stamp c.in-Some.ensures.left c.look-above.ensures.above c.look-above.ensures.ok
    c.if-not-ok.true)

pub returns-then-not-ok-clause-state : goal.returns-then-not-ok-clause-state
returns-then-not-ok-clause-state g c =
    rw (← c.self.view_is, c.in-Some.ensures.first)
    (state-kept g.L.Lane.look g.L.Lane.tossed (params_of c.args.params) c.args.now
    (codel_state_of c.self.inside) (g.L.Lane.thrown c.pop.new.self) c.in-Some.first
    (g.L.Lane.rest c.pop.new.self) c.in-Some.sight.stamp
    c.in-Some.sight.left c.look-above.result.0 c.look-above.result.1
    c.in-Some.ensures.stamp c.in-Some.ensures.left c.look-above.ensures.above c.look-above.ensures.ok
    c.if-not-ok.true
    ∙ sym (state-off (params_of c.args.params) c.args.now (codel_state_of c.self.inside)
    (map g.L.Lane.look (c.in-Some.first ∷ g.L.Lane.rest c.pop.new.self)) c.if-self.false))

pub returns-then-not-ok-clause-seen : goal.returns-then-not-ok-clause-seen
returns-then-not-ok-clause-seen g c = dequeue-seen g.L.Lane.look g.L.Lane.tossed
    (params_of c.args.params) c.args.now c.args.self.now (g.L.Lane.rest c.args.lane.now) _ _ _ _ _
    (returns-then-not-ok-clause-taken g c) (returns-then-not-ok-clause-state g c)

-- ---- it begins to drop

pub returns-in-Some-pop-clause-taken : goal.returns-in-Some-pop-clause-taken
returns-in-Some-pop-clause-taken g c =
    rw (
      ← c.self.view_is,
      c.in-Some.ensures.first,
      ← c.in-Some.ensures.thrown,
      drops-off (params_of c.args.params) c.args.now (codel_state_of c.self.inside)
          (map g.L.Lane.look (c.in-Some.first ∷ g.L.Lane.rest c.pop.new.self)) c.if-self.false,
    ) (takes-one g.L.Lane.look g.L.Lane.tossed (params_of c.args.params) c.args.now
    (codel_state_of c.self.inside) _ c.in-Some.first _ c.in-Some.sight.stamp c.in-Some.sight.left
    c.look-above.result.0 c.look-above.result.1
    c.in-Some.ensures.stamp c.in-Some.ensures.left c.look-above.ensures.above c.look-above.ensures.ok _ _ _
    c.if-not-ok.false
    (sym c.discard.ensures.rest ∙ c.in-Some-pop.ensures.first)
    (c.in-Some-pop.ensures.thrown ∙ c.discard.ensures.thrown))

pub returns-in-Some-pop-clause-state : goal.returns-in-Some-pop-clause-state
returns-in-Some-pop-clause-state g c =
    rw (← c.self.view_is, c.in-Some.ensures.first) (c.start-in-Some-pop.ensures
    ∙ state-started g.L.Lane.look g.L.Lane.tossed (params_of c.args.params) c.args.now
    (codel_state_of c.self.inside) (g.L.Lane.thrown c.pop.new.self) c.in-Some.first
    (g.L.Lane.rest c.pop.new.self) c.in-Some.sight.stamp c.in-Some.sight.left c.look-above.result.0
    c.look-above.result.1
    c.in-Some.ensures.stamp c.in-Some.ensures.left c.look-above.ensures.above c.look-above.ensures.ok
    c.in-Some-pop.second _
    c.in-Some-pop.sight.stamp c.in-Some-pop.sight.left _ c.if-not-ok.false
    (sym c.discard.ensures.rest ∙ c.in-Some-pop.ensures.first) c.in-Some-pop.ensures.stamp
    c.in-Some-pop.ensures.left
    c.look-above-in-Some-pop.ensures.above
    ∙ sym (state-off (params_of c.args.params) c.args.now (codel_state_of c.self.inside)
    (map g.L.Lane.look (c.in-Some.first ∷ g.L.Lane.rest c.pop.new.self)) c.if-self.false))

pub returns-in-Some-pop-clause-seen : goal.returns-in-Some-pop-clause-seen
returns-in-Some-pop-clause-seen g c = dequeue-seen g.L.Lane.look g.L.Lane.tossed
    (params_of c.args.params) c.args.now c.args.self.now (g.L.Lane.rest c.args.lane.now) _ _ _ _ _
    (returns-in-Some-pop-clause-taken g c) (returns-in-Some-pop-clause-state g c)
