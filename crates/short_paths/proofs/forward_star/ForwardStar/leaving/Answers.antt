use Rattle.std.proofs.Common.{◌+◌, arith}
use Rattle.short_paths.proofs.ForwardStars.{starts_rise, leaves_between}
use Rattle.short_paths.proofs.forward_star.ForwardStar.leaving.Goals as goal

pub slice_bounds-result-count : goal.slice_bounds-result-count
slice_bounds-result-count c =
    let star = c.args.self.now in
    rw c.items-starts.ensures (starts_rise star.arcs c.args.at.0 _ _ (star.sorted c.args.at.0 (omega arith)) (star.sorted (c.args.at.0 + 1) (omega arith)))

pub slice_bounds-result-start : goal.slice_bounds-result-start
slice_bounds-result-start c =
    let star = c.args.self.now in
    rw c.items-starts.ensures (starts_rise star.arcs c.args.at.0 _ _ (star.sorted c.args.at.0 (omega arith)) (star.sorted (c.args.at.0 + 1) (omega arith)))

pub returns-clause-all : goal.returns-clause-all
returns-clause-all c = λ e y has.
    let star = c.args.self.now in
    rw (c.items-starts.ensures, c.items.ensures) (leaves_between star.arcs e c.args.at.0 y _ _ (star.sorted c.args.at.0 (omega arith)) (star.sorted (c.args.at.0 + 1) (omega arith)) has)
