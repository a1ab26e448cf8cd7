-- Proves what `Path::call` promises from the clauses of the half's calls. By cases of the job: a frame, a
-- pull, a call whose answer has no lists, or a reap.
use Rattle.std.proofs.Common.{◌≡◌, ◌∙◌, ap, sym, subst, rules}
use Rattle.wf_frame.specs.Answers.{reply_of, reply_with}
use Rattle.wf_frame.specs.declared.notes.ReplyNote.{ReplyNote}
use Rattle.wf_frame.specs.declared.notes.ReplyNote.TheVariants.{Accepted, Refused}
use Rattle.wf_send_half_model.specs.Standing.{Meets}
use Rattle.wf_send_half_model.specs.Half.{group_in}
use Rattle.wf_path.specs.declared.job.Job.{Job}
use Rattle.wf_path.specs.declared.job.Job.TheVariants.{Give, Call}
use Rattle.wf_frame.specs.declared.notes.Ask.TheVariants.{Pull, Reap}
use Rattle.wf_path.specs.Jobs.{as_ask, job_of, note_of, bss_asked, bodies_after, with_released}
use Rattle.wf_path.specs.Group.{FliesAsSaid}
use Rattle.wf_path.specs.Paths.{IsAnswered, RiseLittle}
use Rattle.wf_path.proofs.CallAnswers.{refused_so}
use Rattle.wf_path.proofs.Given.{accepted_meets, accepted_rises, refused_meets, reaped_meets, reaped_rises, reaped_back, reaped_refused}
use Rattle.wf_path.proofs.GroupFlights.{reaped_flies}
use Rattle.wf_path.proofs.Pulls.{pull_answered}
use Rattle.wf_path.proofs.Jobs.{none_back, asked_meets, unheard_after}
use Rattle.wf_path.proofs.Rises.{no_rise}
use Rattle.wf_path.proofs.Values.{half_is, addresses_are, with_half}
use Rattle.wf_path.proofs.path.Path.call.Goals as goal
use Rattle.wf_path.proofs.path.Path.call.Goals.{in-Ok, in-Err}

pub returns-in-Call : goal.returns-in-Call
returns-in-Call c =
    let answered = c.ask-answer.ensures c.args.answer.now.pairs in
    record {
      meets = λ w bodies h. asked_meets c.args.self.now.half c.ask-answer.new.self.half c.args.job
          (as_ask c.in-Call.ask) (ap job_of c.in-Call.is) c.ask-answer.result c.args.answer.now.pairs
          c.clear.new.self w bodies
          (answered.meets w bodies c.clear.new.self h);
      parcel = λ w bodies h. none_back bodies c.args.job c.in-Call.ask c.in-Call.is _;
      refused = answered.refused c.clear.new.self;
      pending = answered.pending c.clear.new.self;
      unheard = unheard_after c.args.self.now.half c.args.job;
      group_flight = subst (λ (j : Job). FliesAsSaid
          (group_in c.ask-answer.new.self.half (bss_asked (note_of j)))
          (reply_with c.ask-answer.result c.args.answer.now.pairs c.clear.new.self))
          (sym (ap job_of c.in-Call.is)) (answered.flight c.clear.new.self);
      addresses = answered.addresses;
      path = answered.path;
      rises = answered.rises;
    }

pub returns-in-Pull : goal.returns-in-Pull
returns-in-Pull c =
    let is : job_of c.args.job ≡ Call (Pull c.in-Pull.class c.in-Pull.limits) = ap job_of c.in-Pull.is in
    let answered : IsAnswered c.args.self.now (Pull c.in-Pull.class c.in-Pull.limits)
    (with_half c.self-in-Pull.inside.addresses c.pull-answer.new.self) c.pull-answer.result
    c.pull-answer.new.pairs =
    pull_answered c.self-in-Pull.inside.half c.self-in-Pull.invariant c.in-Pull.class c.in-Pull.limits
    c.pull-answer.result c.pull-answer.new.pairs
    c.pull-answer.new.self c.pull-answer.ensures.meets c.pull-answer.ensures.unheard
    c.self-in-Pull.inside.addresses c.args.self.now
    c.self-in-Pull.view_is (λ e. (c.pull-answer.ensures.full e).1)
    (λ few e. (c.pull-answer.ensures.ahead few e).1) c.pull-answer.ensures.idle in
    record {
      meets = λ w bodies h. asked_meets c.args.self.now.half c.pull-answer.new.self c.args.job
          (Pull c.in-Pull.class c.in-Pull.limits) is c.pull-answer.result c.pull-answer.new.pairs
          c.args.answer.now.ids
          w bodies
          (answered.meets w bodies c.args.answer.now.ids h);
      parcel = λ w bodies h. search rules;
      refused = answered.refused c.args.answer.now.ids;
      pending = answered.pending c.args.answer.now.ids;
      unheard = unheard_after c.args.self.now.half c.args.job;
      group_flight = subst (λ (j : Job). FliesAsSaid
          (group_in c.pull-answer.new.self (bss_asked (note_of j)))
          (reply_with c.pull-answer.result c.pull-answer.new.pairs c.args.answer.now.ids))
          (sym is) (answered.flight c.args.answer.now.ids);
      addresses = answered.addresses;
      path = answered.path;
      rises = answered.rises;
    }

pub returns-in-Reap : goal.returns-in-Reap
returns-in-Reap c =
    let is : job_of c.args.job ≡ Call Reap = ap job_of c.in-Reap.is in
    let nothing_left = reaped_refused c.self-in-Reap.inside.half c.self-in-Reap.invariant
    c.reap-reaped.new.self
    c.self-in-Reap.inside.addresses c.args.self.now c.self-in-Reap.view_is (job_of c.args.job) is
    c.reap-reaped.result
    c.reaped_brief-answer.result c.reaped_brief-answer.ensures c.reap-reaped.ensures.meets
    c.args.answer.now.pairs
    c.args.answer.now.ids c.reap-reaped.ensures.refused in
    record {
      meets = reaped_meets c.self-in-Reap.inside.half c.self-in-Reap.invariant
          c.reap-reaped.new.self c.self-in-Reap.inside.addresses
          c.args.self.now c.self-in-Reap.view_is (job_of c.args.job) is c.reap-reaped.result
          c.reaped_brief-answer.result
          c.reaped_brief-answer.ensures c.reap-reaped.ensures.meets c.args.answer.now.pairs
          c.args.answer.now.ids;
      parcel = reaped_back c.self-in-Reap.inside.half c.self-in-Reap.invariant
          c.reap-reaped.new.self
          c.self-in-Reap.inside.addresses c.args.self.now c.self-in-Reap.view_is (job_of c.args.job) is
          c.reap-reaped.result
          c.reaped_brief-answer.result c.reaped_brief-answer.ensures c.reap-reaped.ensures.meets
          c.args.answer.now.pairs
          c.args.answer.now.ids c.reap-reaped.ensures.parcel;
      refused = λ is. nothing_left (refused_so _ is);
      pending = λ on is. nothing_left is;
      unheard = unheard_after c.args.self.now.half c.args.job;
      group_flight = subst (FliesAsSaid
          (group_in c.reap-reaped.new.self (bss_asked (note_of (job_of c.args.job)))))
          (sym (c.reaped_brief-answer.ensures c.args.answer.now.pairs c.args.answer.now.ids))
          (reaped_flies (group_in c.reap-reaped.new.self (bss_asked (note_of (job_of c.args.job))))
          c.reap-reaped.result);
      addresses = addresses_are c.self-in-Reap.view_is;
      path = c.reap-reaped.ensures.unheard;
      rises = reaped_rises c.self-in-Reap.inside.half c.self-in-Reap.invariant
          c.reap-reaped.new.self
          c.self-in-Reap.inside.addresses c.args.self.now c.self-in-Reap.view_is (job_of c.args.job) is
          c.reap-reaped.result
          c.reaped_brief-answer.result c.reaped_brief-answer.ensures c.reap-reaped.ensures.meets
          c.args.answer.now.pairs
          c.args.answer.now.ids;
    }

pub returns-after-enqueue-clause-meets : goal.returns-after-enqueue-clause-meets
returns-after-enqueue-clause-meets c w bodies h may =
    let job : Job = job_of c.args.job in
    let is : job ≡ Give c.in-Give.parcel = ap job_of c.in-Give.is in
    elim c.match-enqueue.branch [
      | in-Ok e ↦ (let said : reply_of c.match-enqueue.answer ≡ Accepted e.in-Ok.field-0.id e.in-Ok.field-0.dropped =
          ap reply_of e.answer-is in
          subst (λ (r : ReplyNote). Meets w (bodies_after c.args.self.now.half w job r bodies) (note_of job)
          c.enqueue.new.self (with_released w job r)) (sym said)
          (accepted_meets c.self.inside.half c.self.invariant c.enqueue.new.self c.self.inside.addresses
          c.args.self.now c.self.view_is job c.in-Give.parcel is e.in-Ok.field-0.id e.in-Ok.field-0.dropped
          e.in-Ok.ensures.meets w bodies h may))
      | in-Err e ↦ (let said : reply_of c.match-enqueue.answer ≡ Refused e.in-Err.reason =
          ap reply_of e.answer-is in
          subst (λ (r : ReplyNote). Meets w (bodies_after c.args.self.now.half w job r bodies) (note_of job)
          c.enqueue.new.self (with_released w job r)) (sym said)
          (refused_meets c.self.inside.half c.self.invariant c.enqueue.new.self c.self.inside.addresses
          c.args.self.now c.self.view_is job c.in-Give.parcel is e.in-Err.reason
          e.in-Err.ensures.refuses w bodies h may))
    ]

pub returns-after-enqueue-clause-unheard : goal.returns-after-enqueue-clause-unheard
returns-after-enqueue-clause-unheard c = unheard_after c.args.self.now.half c.args.job

pub returns-after-enqueue-clause-rises : goal.returns-after-enqueue-clause-rises
returns-after-enqueue-clause-rises c = elim c.match-enqueue.branch [
  | in-Ok w ↦ accepted_rises c.self.inside.half c.self.invariant c.enqueue.new.self
      c.self.inside.addresses c.args.self.now c.self.view_is (job_of c.args.job) c.in-Give.parcel
      (ap job_of c.in-Give.is) _ _ w.in-Ok.ensures.meets
  | in-Err w ↦ subst (RiseLittle c.args.self.now.half)
      (sym (w.in-Err.ensures.refused ∙ half_is c.self.view_is)) (no_rise c.args.self.now.half)
]
