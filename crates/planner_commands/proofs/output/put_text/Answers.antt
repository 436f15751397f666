use Rattle.std.proofs.Common.{◌≤◌, arith, length, subst}
use Rattle.net_core.proofs.Library.{err_from_is_err_and}
use Rattle.outside_io.specs.Outside.{Takes}
use Rattle.planner_commands.proofs.Taking.{piece_fits, prefix_piece, took_more, took_prefix, whole_piece}
use Rattle.planner_commands.proofs.output.put_text.Goals as goal

pub loop-at-preserved : goal.loop-at-preserved
loop-at-preserved g c =
    let text = c.args.text.now in
    let before : c.loop-at.at ≤ c.min-end.result = omega arith in
    let within : c.min-end.result ≤ length text = omega arith in
    record {
      within = within;
      taken = subst (Takes (g.K.Sink.taken c.args.out.now) (g.K.Sink.taken c.put.new.self)) (whole_piece text c.loop-at.at c.min-end.result before within) (took_more _ _ _ _ _ c.loop-at.invariant.taken c.in_ok-put.ensures.bytes);
      later = omega arith;
    }

pub returns-in_err-put-clause-bytes : goal.returns-in_err-put-clause-bytes
returns-in_err-put-clause-bytes g c =
    let text = c.args.text.now in
    let p = err_from_is_err_and c.from_residual.result c.from_residual.ensures.1 in
    let before : c.loop-at.at ≤ c.min-end.result = omega arith in
    let within : c.min-end.result ≤ length text = omega arith in
    rw p.1 (took_prefix _ _ _ _ _ text (prefix_piece text c.loop-at.at c.min-end.result before within) (piece_fits text c.loop-at.at c.min-end.result before within) c.loop-at.invariant.taken c.in_err-put.ensures.bytes)
