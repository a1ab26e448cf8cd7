-- A bare frame's body is the front of a list of zeros.
use Rattle.std.proofs.Common.{◌≤◌, ◌∙◌, ℕ, length, replicate, take, ap, sym, subst}
use Rattle.std.proofs.lemmas.List.{take-replicate, length-replicate}
use Rattle.wf_def_lists.specs.Lengths.{greatest_body}
use Rattle.wf_frame.specs.declared.frames.Body.{Body}
use Rattle.wf_frame.specs.Frames.{FrameValue, octets_of}
use Rattle.wf_frame.proofs.frames.Frame.body.Goals as goal

pub returns-in-Length : goal.returns-in-Length
returns-in-Length c =
    let short : c.in-Length.len ≤ greatest_body =
    subst (λ (n : ℕ). n ≤ greatest_body) (ap (λ (b : Body). length (octets_of b)) c.in-Length.is
    ∙ length-replicate c.in-Length.len 0) c.self.invariant.1 in
    ap (λ (n : ℕ). take n (replicate greatest_body 0)) c.from.ensures
    ∙ take-replicate c.in-Length.len greatest_body 0 short
    ∙ ap octets_of (sym c.in-Length.is) ∙ ap (λ (f : FrameValue). f.body) c.self.view_is
