-- Proves what `Path::frame_is_bare` promises. By cases: the exchange is not open, it has no number at the
-- index, or the number's frame is the world's.
use Rattle.std.proofs.Common.{◌∙◌, sym}
use Rattle.wf_path.proofs.Flying.{some_flies, bare_is, no_bare, no_bared}
use Rattle.wf_path.proofs.Inside.{stands_inside, has_world}
use Rattle.wf_path.proofs.path.Path.frame_is_bare.Goals as goal

pub returns-in_err-open : goal.returns-in_err-open
returns-in_err-open c w bodies h = c.from_residual.ensures
    ∙ no_bare c.self.inside.half w bodies (stands_inside c.self.view_is w bodies h) c.args.exchange
    c.args.index c.in_err-open.ensures

pub returns-in_err-seq : goal.returns-in_err-seq
returns-in_err-seq c w bodies h =
    c.from_residual-in_err-seq.ensures
    ∙ no_bared c.self.inside.half w bodies (stands_inside c.self.view_is w bodies h) c.args.exchange
    c.args.index c.in_ok-open.open.now c.in_ok-open.ensures (sym c.in_err-seq.ensures)

pub frame_of-requires : goal.frame_of-requires
frame_of-requires c = some_flies c.self.inside.half c.args.exchange c.in_ok-open.open.now c.args.index
    c.in_ok-seq.seq c.in_ok-open.ensures (sym c.in_ok-seq.ensures)
    (has_world c.self.inside.half c.self.invariant)

pub returns : goal.returns
returns c w bodies h =
    bare_is c.self.inside.half c.args.exchange c.in_ok-open.open.now c.args.index c.in_ok-seq.seq
    c.in_ok-open.ensures (sym c.in_ok-seq.ensures) w bodies (stands_inside c.self.view_is w bodies h)
    c.frame_of.result.now c.is_bare.result (λ x m f. c.frame_of.ensures w bodies x m f) c.is_bare.ensures
