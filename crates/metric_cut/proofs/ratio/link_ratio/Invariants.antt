use Rattle.std.proofs.Common.{◌≡◌, ◌⊎◌, Any}
use Rattle.metric_cut.{specs.inner.Ratios.{IsNoGreater, IsRatioOf, IsSmall}, proofs.Leasts.IsLeastBefore}
use Rattle.metric_cut.proofs.ratio.link_ratio.Given as goal

-- the least so far
abbrev pub invariant-loop-m : goal.invariant-loop-m
invariant-loop-m l = record {
  before : IsLeastBefore l.modules l.length l.m-index l.least;
  kept : IsNoGreater l.least l.fn.best;
  is : (l.least ≡ l.fn.best) ⊎ Any (IsRatioOf l.length l.least) l.modules;
  small : IsSmall l.least;
}
