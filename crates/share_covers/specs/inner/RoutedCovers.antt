-- the covers of a share, and what the states answer within them
use Rattle.std.specs.Prelude.{ℕ, ◌≤◌, ◌<◌}
use Rattle.plan_terms.specs.Terms.{Case}
use Rattle.plan_types.specs.declared.quality.Share.{Share}
use Rattle.share_covers.{specs.InstalledRoutes.{IsRoutesAnswer, installed_caps}, specs.ShareCovers.AreShareCovers, specs.declared.choice.RoutedCovers.RoutedCovers, specs.declared.covers.Installed.Installed}

-- covers of the share cost more
abbrev pub HasDearerCovers : Case → Share → ℕ → Type 0
HasDearerCovers p share cost = (installed : Installed) × AreShareCovers p.links share installed × (cost < installed.cost)

-- they cost no more, and this is what the states answer within them
pub record AreRoutedCovers (p : Case) (share : Share) (cost : ℕ) (found : RoutedCovers) : Type 0 where
  pub covers : AreShareCovers p.links share found.installed
  pub at_most : found.installed.cost ≤ cost
  pub answered : IsRoutesAnswer p (installed_caps p.links found.installed.counts) found.answer
