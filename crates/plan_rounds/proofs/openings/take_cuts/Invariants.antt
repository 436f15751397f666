use Rattle.std.proofs.Common.{List, All, length, reverse}
use Rattle.plan_terms.specs.Terms.{CutLine, graph_in, case_of}
use Rattle.metric_cut.specs.Cuts.{IsCutOf}
use Rattle.plan_rounds.{specs.inner.Alone.PoolsOpening, specs.inner.Listing.{GoesOn, IsPlanning, TakesCuts}}
use Rattle.plan_rounds.proofs.openings.take_cuts.Given as goal

-- the cuts that are left
abbrev pub decreases-loop-cut : goal.decreases-loop-cut
decreases-loop-cut g l = length l.left.items

-- what is left leads from here to where all lead from the start
abbrev pub invariant-loop-cut : goal.invariant-loop-cut
invariant-loop-cut g l =
    let before = l.fn.separator in
    let now = l.separator in
    All (λ c. IsCutOf (graph_in (case_of l.instance) c.state.0) c) (reverse l.left.items)
    × GoesOn (g.S.Separate.frame before) (g.S.Separate.frame now) (g.S.Separate.seen_of before) (g.S.Separate.seen_of now)
    × IsPlanning l.instance (g.S.Separate.frame now) (g.S.Separate.seen_of now) l.candidates
    × ((end : List CutLine) → TakesCuts l.instance.demands.now (reverse l.left.items) l.candidates.lines end → TakesCuts l.instance.demands.now l.fn.cuts l.fn.candidates.lines end)
    × ∥ PoolsOpening (g.S.Separate.seen_of before) (g.S.Separate.seen_of now) l.fn.candidates.lines l.candidates.lines ∥₁
