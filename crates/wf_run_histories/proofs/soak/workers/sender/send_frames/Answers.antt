-- Proves that the loop enqueues the frames of the definition, one per step.
use Rattle.std.proofs.Common.{ℕ, ◌∷◌, ◌++◌, [], ap, arith, rules}
use Rattle.rand_pcg.specs.Lcg.{Lcg}
use Rattle.wf_frame.specs.declared.notes.Note.{Note}
use Rattle.wf_run_histories.proofs.Walks.{makes_one, makes_same}
use Rattle.wf_run_histories.proofs.Words.{sent_more, sent_all}
use Rattle.wf_run_histories.proofs.soak.workers.sender.send_frames.Goals as goal

pub loop-preserved : goal.loop-preserved
loop-preserved g c =
    let i = c.loop.invariant in record {
      inside = search rules;
      left = omega (arith, i.left, c.in-Ok.ensures.made.fewer);
      sent = (
        _,
        makes_same (makes_one i.sent.1 c.in-Ok.ensures.made)
            (ap (λ (n : Note). i.sent.0 ++ n ∷ []) c.in_ok-parcel.ensures),
        sent_more c.args.sender c.loop.counter c.args.frames i.sent.0 _ c.loop.words c.next_word.new.self
            c.next_word.result (search rules) i.sent.2
            (ap (λ (p : ℕ × Lcg). p.0) c.next_word.ensures) (ap (λ (p : ℕ × Lcg). p.1) c.next_word.ensures),
      );
    }

pub returns-clause-sent : goal.returns-clause-sent
returns-clause-sent g c = let i = c.loop.invariant in
    makes_same i.sent.1 (sent_all c.args.sender c.loop.counter c.args.frames i.sent.0 _ c.loop.words
    c.args.words.now (search rules) i.sent.2)
