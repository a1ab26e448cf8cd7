-- Proves what `Path::frame_id` promises. By cases: the exchange is not open, it has no number at the index,
-- or the number's frame is the world's and has its id.
use Rattle.std.proofs.Common.{◌∙◌, ap, sym}
use Rattle.wf_frame.specs.Frames.{FrameValue}
use Rattle.wf_path.proofs.Flying.{some_flies, id_is, no_exchange, no_number}
use Rattle.wf_path.proofs.Inside.{stands_inside, has_world}
use Rattle.wf_path.proofs.path.Path.frame_id.Goals as goal

pub returns-in_err-open : goal.returns-in_err-open
returns-in_err-open c w bodies h = c.from_residual.ensures
    ∙ no_exchange c.self.inside.half w bodies (stands_inside c.self.view_is w bodies h) c.args.exchange
    c.args.index c.in_err-open.ensures

pub returns-in_err-seq : goal.returns-in_err-seq
returns-in_err-seq c w bodies h =
    c.from_residual-in_err-seq.ensures
    ∙ no_number c.self.inside.half w bodies (stands_inside c.self.view_is w bodies h) c.args.exchange
    c.args.index c.in_ok-open.open.now c.in_ok-open.ensures (sym c.in_err-seq.ensures)

pub frame_of-requires : goal.frame_of-requires
frame_of-requires c = some_flies c.self.inside.half c.args.exchange c.in_ok-open.open.now c.args.index
    c.in_ok-seq.seq c.in_ok-open.ensures (sym c.in_ok-seq.ensures)
    (has_world c.self.inside.half c.self.invariant)

pub returns : goal.returns
returns c w bodies h =
    id_is c.self.inside.half c.args.exchange c.in_ok-open.open.now c.args.index c.in_ok-seq.seq
    c.in_ok-open.ensures (sym c.in_ok-seq.ensures) w bodies (stands_inside c.self.view_is w bodies h)
    c.frame_of.result.now c.behind-self.inside.id (λ x m f. c.frame_of.ensures w bodies x m f)
    (ap (λ (f : FrameValue). f.id) c.behind-self.view_is)
