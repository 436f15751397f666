-- least shares whose units may be too wide for a share
use Rattle.std.specs.Prelude.{◌≡◌, ℕ, ◌<◌, List}
use Rattle.module_prices.specs.declared.cheapest.UnitPair.{UnitPair}
use Rattle.plan_terms.specs.Terms.{Caps, CutLine, Link}
use Rattle.plan_types.specs.declared.quality.Share.{Share}
use Rattle.route_law.specs.Terms.{caps_times}
use Rattle.master_law.specs.Terms.{AreUnitPairs, IsLeastShare, share_caps}

-- capacities that are those of a least share of the cuts, up to factors of scale and numbers
pub record AreLeastCaps (links : List Link) (cuts : List CutLine) (caps : Caps) : Type 0 where
  pub pairs : List UnitPair
  pub units : AreUnitPairs links pairs
  pub share : Share
  pub least : IsLeastShare links pairs cuts share
  pub factor : ℕ
  pub of_share : ℕ
  pub positive : (0 < factor) × (0 < of_share)
  pub same : caps_times factor caps ≡ caps_times of_share (share_caps links pairs share)
