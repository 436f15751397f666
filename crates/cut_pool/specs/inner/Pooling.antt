-- pooled cuts one by one
use Rattle.std.{specs.Prelude.{◌≡◌, ◌==◌, ℕ, ◌+◌, ◌-◌, ◌≤◌, ◌<◌, ◌^◌, ◌&&◌, Bool, List, sum_by}, specs.Cmp.Lexicographic.pointwise}
use Rattle.plan_terms.specs.Terms.{Demand, AreDemands, Graph}
use Rattle.metric_cut.{specs.Cuts.IsCutOf, specs.declared.cut.Cut.Cut, specs.inner.Rights.part_of}
use Rattle.cut_pool.{specs.declared.pooled_cut.PooledCut.PooledCut, specs.declared.shares.NeedChange.NeedChange, specs.inner.Shares.{IsShareOfDemand, asked_by}}

-- the pooled cut is this one
abbrev pub is_pooled_cut : Cut → PooledCut → Bool
is_pooled_cut cut c = (c.cut.state.0 == cut.state.0) && pointwise ◌==◌ c.cut.lengths cut.lengths

-- the cut is one of some network and state
abbrev pub IsSomeCut : Cut → Type 0
IsSomeCut cut = ∥ ((g : Graph) × IsCutOf g cut) ∥₁

-- the cut has its right side at demands of n nodes, by the distances that it keeps
pub record StandsAt (n : ℕ) (demands : List Demand) (c : PooledCut) : Type 0 where
  pub cut : IsSomeCut c.cut
  pub nodes : c.cut.table.nodes ≡ n
  pub right : c.right ≡ sum_by (part_of c.cut.table) demands
  pub low : c.right < 2 ^ 84

-- the cut has its right side at these demands of its nodes
abbrev pub StandsAmong : List Demand → PooledCut → Type 0
StandsAmong demands c = AreDemands c.cut.table.nodes demands × StandsAt c.cut.table.nodes demands c

-- a right side of which the old share is a part can follow
pub record CanFollow (change : NeedChange) (c : PooledCut) : Type 0 where
  pub cut : IsSomeCut c.cut
  pub before : IsShareOfDemand c.cut.table.nodes change.before
  pub after : IsShareOfDemand c.cut.table.nodes change.after
  pub low : c.right < 2 ^ 84
  pub part : asked_by c.cut.table change.before ≤ c.right

-- the cut with a right side that has followed
abbrev pub followed : NeedChange → PooledCut → PooledCut
followed change c = record { cut = c.cut; right = c.right - asked_by c.cut.table change.before + asked_by c.cut.table change.after }
