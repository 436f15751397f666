-- the cuts of a board's pool
use Rattle.std.specs.Prelude.{List, All}
use Rattle.plan_terms.specs.Terms.{CutLine, Case, graph_in}
use Rattle.metric_cut.specs.Cuts.{IsCutOf}
use Rattle.cut_pool.specs.declared.pooled_cut.PooledCut.{PooledCut}

-- the line of a pooled cut
abbrev pub line_of_pooled : PooledCut → CutLine
line_of_pooled c = record { state = c.cut.state; lengths = c.cut.lengths; right = c.right }

-- each cut of a pool is a cut of the case's network in one of its states
abbrev pub ArePooledCuts : Case → List PooledCut → Type 0
ArePooledCuts p pool = All (λ c. IsCutOf (graph_in p c.cut.state.0) c.cut) pool
