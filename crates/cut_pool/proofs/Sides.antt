-- pooled cuts with their right sides at demands
use Rattle.std.specs.Prelude.{◌<◌, ◌^◌, List}
use Rattle.plan_terms.specs.Terms.{Demand, Graph, Joins, IsRight}
use Rattle.metric_cut.specs.Cuts.{IsCutOf}
use Rattle.cut_pool.specs.declared.pooled_cut.PooledCut.{PooledCut}

-- the cut has its right side at the demands
pub record IsAtDemands (demands : List Demand) (c : PooledCut) : Type 0 where
  pub right_is : (g : Graph) → IsCutOf g c.cut → IsRight (Joins g) c.cut.lengths demands c.right
  pub low : c.right < 2 ^ 84
