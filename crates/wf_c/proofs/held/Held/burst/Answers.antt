-- Proves the loop of a burst of a path: after each call its states have one more, and the counts are still
-- small; and why the burst ends before a call.
use Rattle.std.proofs.Common.{◌≡◌, ◌∙◌, refl, sym, subst, inl, get_or, w32, to_z, of_z}
use Rattle.std.specs.Prelude.{Some, pos}
use Rattle.wf_c.specs.Bursts.{IsMade, IsMadeAt, StopsPathAt}
use Rattle.wf_c.specs.CallNumbers.{blank_call, call_noted}
use Rattle.wf_c.specs.CellCalls.{bad_call}
use Rattle.wf_c.specs.Numbers.{numbers_of}
use Rattle.wf_c.specs.declared.burst.NoCall.TheVariants.{BadCall}
use Rattle.wf_c.specs.declared.held.Held.{Held}
use Rattle.wf_c.proofs.Bursting.{none_made, call_at, code_read, of_shown, one_more_call, rest_stays, stops_at, stops_path}
use Rattle.wf_c.proofs.Rising.{small_before, below_after}
use Rattle.wf_c.proofs.held.Held.burst.Goals as goal

pub loop-i-init : goal.loop-i-init
loop-i-init c = (
  none_made IsMadeAt c.args.self.now c.args.calls.now c.args.replies.now,
  ((λ i low. refl), (refl, c.requires.low)),
)

pub make-requires : goal.make-requires
make-requires c = record {
  small = small_before c.loop-i.self.path.half c.loop-i.i _ c.requires.few c.loop-i-test.true
      c.loop-i.invariant.1.1.1;
}

pub returns-in_default-clause-ends : goal.returns-in_default-clause-ends
returns-in_default-clause-ends c =
    stops_at (λ why d. StopsPathAt why d c.loop-i.self) c.args.calls.now c.loop-i.i (pos bad_call)
    (get_or c.args.calls.now c.loop-i.i blank_call) BadCall
    (call_at c.args.calls.now c.loop-i.i c.loop-i-test.true)
    (inl (sym c.call_noted.ensures ∙ c.in_default.is)) refl

pub returns-in-Err-clause-ends : goal.returns-in-Err-clause-ends
returns-in-Err-clause-ends c =
    let call = get_or c.args.calls.now c.loop-i.i blank_call in
    stops_at (λ why d. StopsPathAt why d c.make.new.self) c.args.calls.now c.loop-i.i
    (to_z w32 (of_z w32 c.code.result)) call c.in-Err.why
    (call_at c.args.calls.now c.loop-i.i c.loop-i-test.true)
    (subst (λ (k : Held). StopsPathAt c.in-Err.why call k) (sym c.in-Err.ensures.unchanged)
    (stops_path c.in-Err.why call c.in-Some.note c.loop-i.self (sym c.call_noted.ensures ∙ c.in-Some.is)
    c.in-Err.ensures.stopped)) (code_read c.in-Err.why c.code.result c.code.ensures)

pub loop-i-preserved : goal.loop-i-preserved
loop-i-preserved c =
    let call = get_or c.args.calls.now c.loop-i.i blank_call in
    let noted_is : call_noted call ≡ Some c.in-Some.note = sym c.call_noted.ensures ∙ c.in-Some.is in (
      one_more_call IsMadeAt c.args.self.now c.loop-i.self c.make.new.self c.args.calls.now c.loop-i.replies
          c.put_answer.new.replies c.loop-i.i call (numbers_of c.make.new.self.answer.brief)
          c.loop-i.invariant.0
          (call_at c.args.calls.now c.loop-i.i c.loop-i-test.true) c.put_answer.ensures.put
          c.put_answer.ensures.before
          (of_shown (λ note. IsMade note c.loop-i.self c.make.new.self
          (numbers_of c.make.new.self.answer.brief)) (call_noted call)
          c.in-Some.note noted_is c.in-Ok.ensures.made),
      (
        rest_stays c.args.replies.now c.loop-i.replies c.put_answer.new.replies c.loop-i.i
            c.loop-i.invariant.1.0 c.put_answer.ensures.after,
        (
          c.put_answer.ensures.size ∙ c.loop-i.invariant.1.1.0,
          below_after c.loop-i.self.path.half c.make.new.self.path.half c.loop-i.i c.in-Ok.ensures.rises
              c.loop-i.invariant.1.1.1,
        ),
      ),
    )
