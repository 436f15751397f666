use Rattle.std.proofs.Common.{length, sym, subst}
use Rattle.simplex_core.{specs.inner.Shapes.IsShaped, specs.inner.Outcomes.{HasLowValues, IsBasisOutcome}, specs.declared.solver.Turn.TheVariants.{Again, Best, Unbounded, Wide}, proofs.Ending.{answers, low_values, some_limit, same_program, same_trans, first_turn}, proofs.Evidences.evidence, proofs.Solving.{at_start, at_turn, falls, values_at}}
use Rattle.simplex_core.proofs.solver.solve.Goals as goal

pub loop-basis-init : goal.loop-basis-init
loop-basis-init g c =
    let p = g.C.Columns in
    let first = c.args.cols.now in
    record {
      at = at_start (p.rows first) (p.bound first) (p.slack first) (p.is_listed first) c.in_ok-basis.basis c.requires c.in_ok-basis.ensures;
      same = same_program (p.rows first) (p.bound first) (p.slack first) (p.is_listed first);
    }

pub take_turn-requires-clause-values : goal.take_turn-requires-clause-values
take_turn-requires-clause-values g c =
    let p = g.C.Columns in
    let first = c.args.cols.now in
    values_at (p.rows first) (p.bound first) (p.slack first) (p.is_listed first) c.loop-basis.basis c.loop-basis.invariant.at

pub loop-basis-smaller : goal.loop-basis-smaller
loop-basis-smaller g c =
    let p = g.C.Columns in
    let first = c.args.cols.now in
    let now = c.loop-basis.cols in
    let b = c.loop-basis.basis in
    let new = c.take_turn.new.basis in
    let at = c.loop-basis.invariant.at in
    let h = first_turn (p.rows first) (p.rows now) (p.bound first) (p.bound now) (p.slack first) (p.slack now) (p.is_listed first) (p.is_listed now) c.loop-basis.invariant.same b Again new c.in-Again.ensures.turn in
    let t = h.enters.0.1 in
    falls (p.rows first) (p.bound first) (p.slack first) (p.is_listed first) b new h.column h.enters.0.0 at
    (at_turn (p.rows first) (p.bound first) (p.slack first) (p.is_listed first) b new h.column h.enters.0.0 h.is_column at t h.enters.1) t

pub loop-basis-preserved : goal.loop-basis-preserved
loop-basis-preserved g c =
    let p = g.C.Columns in
    let first = c.args.cols.now in
    let now = c.loop-basis.cols in
    let next = c.take_turn.new.cols in
    let b = c.loop-basis.basis in
    let new = c.take_turn.new.basis in
    let same = c.loop-basis.invariant.same in
    let h = first_turn (p.rows first) (p.rows now) (p.bound first) (p.bound now) (p.slack first) (p.slack now) (p.is_listed first) (p.is_listed now) same b Again new c.in-Again.ensures.turn in
    record {
      at = at_turn (p.rows first) (p.bound first) (p.slack first) (p.is_listed first) b new h.column h.enters.0.0 h.is_column c.loop-basis.invariant.at h.enters.0.1 h.enters.1;
      same = same_trans (p.rows first) (p.rows now) (p.rows next) (p.bound first) (p.bound now) (p.bound next) (p.slack first) (p.slack now) (p.slack next) (p.is_listed first) (p.is_listed now) (p.is_listed next) same c.take_turn.ensures.same;
    }

pub finish-requires-clause-low : goal.finish-requires-clause-low
finish-requires-clause-low g c =
    let p = g.C.Columns in
    let first = c.args.cols.now in
    subst HasLowValues (sym c.in-Best.ensures.turn.0)
    (low_values (p.rows first) (p.bound first) (p.slack first) (p.is_listed first) c.loop-basis.basis c.requires c.loop-basis.invariant.at)

pub returns-in-Best-clause-answer : goal.returns-in-Best-clause-answer
returns-in-Best-clause-answer g c =
    let p = g.C.Columns in
    let first = c.args.cols.now in
    let now = c.loop-basis.cols in
    let b = c.loop-basis.basis in
    let h = first_turn (p.rows first) (p.rows now) (p.bound first) (p.bound now) (p.slack first) (p.slack now) (p.is_listed first) (p.is_listed now) c.loop-basis.invariant.same b Best c.take_turn.new.basis c.in-Best.ensures.turn in
    answers (p.rows first) (p.bound first) (p.slack first) (p.is_listed first) b c.finish.result c.requires c.loop-basis.invariant.at h.1 (subst (λ x. IsBasisOutcome x c.finish.result) h.0 c.finish.ensures)

pub unreachable-requires : goal.unreachable-requires
unreachable-requires g c =
    let p = g.C.Columns in
    let first = c.args.cols.now in
    let now = c.loop-basis.cols in
    let b = c.loop-basis.basis in
    let h = first_turn (p.rows first) (p.rows now) (p.bound first) (p.bound now) (p.slack first) (p.slack now) (p.is_listed first) (p.is_listed now) c.loop-basis.invariant.same b Unbounded c.take_turn.new.basis c.in-Unbounded.ensures.turn in
    some_limit (p.rows first) (p.bound first) (p.slack first) (p.is_listed first) b c.take_turn.new.basis c.requires c.loop-basis.invariant.at h

pub returns-in-Wide-clause-answer : goal.returns-in-Wide-clause-answer
returns-in-Wide-clause-answer g c =
    let p = g.C.Columns in
    let first = c.args.cols.now in
    let now = c.loop-basis.cols in
    let b = c.loop-basis.basis in
    let kind = c.in-Wide.kind in
    let h = first_turn (p.rows first) (p.rows now) (p.bound first) (p.bound now) (p.slack first) (p.slack now) (p.is_listed first) (p.is_listed now) c.loop-basis.invariant.same b (Wide kind) c.take_turn.new.basis c.in-Wide.ensures.turn in
    rw c.stopped.ensures (evidence (p.rows first) (p.bound first) (p.slack first) (p.is_listed first) b h.column kind c.take_turn.new.basis h.is_column c.loop-basis.invariant.at h.enters)

pub returns-in-Best-clause-same : goal.returns-in-Best-clause-same
returns-in-Best-clause-same g c =
    let p = g.C.Columns in
    let first = c.args.cols.now in
    let now = c.loop-basis.cols in
    let next = c.take_turn.new.cols in
    same_trans (p.rows first) (p.rows now) (p.rows next) (p.bound first) (p.bound now) (p.bound next) (p.slack first) (p.slack now) (p.slack next) (p.is_listed first) (p.is_listed now) (p.is_listed next) c.loop-basis.invariant.same c.take_turn.ensures.same

pub returns-in-Wide-clause-same : goal.returns-in-Wide-clause-same
returns-in-Wide-clause-same g c =
    let p = g.C.Columns in
    let first = c.args.cols.now in
    let now = c.loop-basis.cols in
    let next = c.take_turn.new.cols in
    same_trans (p.rows first) (p.rows now) (p.rows next) (p.bound first) (p.bound now) (p.bound next) (p.slack first) (p.slack now) (p.slack next) (p.is_listed first) (p.is_listed now) (p.is_listed next) c.loop-basis.invariant.same c.take_turn.ensures.same

pub returns-in-NoMemory-clause-same : goal.returns-in-NoMemory-clause-same
returns-in-NoMemory-clause-same g c =
    let p = g.C.Columns in
    let first = c.args.cols.now in
    let now = c.loop-basis.cols in
    let next = c.take_turn.new.cols in
    same_trans (p.rows first) (p.rows now) (p.rows next) (p.bound first) (p.bound now) (p.bound next) (p.slack first) (p.slack now) (p.slack next) (p.is_listed first) (p.is_listed now) (p.is_listed next) c.loop-basis.invariant.same c.take_turn.ensures.same

pub returns-in_err-basis-clause-same : goal.returns-in_err-basis-clause-same
returns-in_err-basis-clause-same g c =
    let p = g.C.Columns in
    let first = c.args.cols.now in
    same_program (p.rows first) (p.bound first) (p.slack first) (p.is_listed first)

pub take_turn-requires-clause-shaped : goal.take_turn-requires-clause-shaped
take_turn-requires-clause-shaped g c = subst (λ n. IsShaped n c.loop-basis.basis) (sym c.loop-basis.invariant.same.count) c.loop-basis.invariant.at.shaped

pub finish-requires-clause-shaped : goal.finish-requires-clause-shaped
finish-requires-clause-shaped g c =
    let at = c.loop-basis.invariant.at in
    subst (λ b. IsShaped (length b.rows) b) (sym c.in-Best.ensures.turn.0) (subst (λ n. IsShaped n c.loop-basis.basis) (sym at.shaped.rows) at.shaped)
