-- the choice between the covers of a share and the fallback plan
use Rattle.std.specs.Prelude.{◌≡◌, ℕ, ◌≤◌, ◌<◌, ◌⊎◌, List}
use Rattle.module_choice.specs.declared.fallback.Fallback.{Fallback}
use Rattle.module_prices.specs.declared.cheapest.UnitPair.{UnitPair}
use Rattle.plan_terms.specs.Terms.{Evidence, Case, AreCounts, AreWithinLimits, total_cost}
use Rattle.plan_types.{specs.declared.quality.Cause.TheVariants.Wide, specs.declared.quality.Fractional.Fractional, specs.declared.quality.Quality.Quality, specs.declared.quality.Quality.TheVariants.{Tight, Loose}, specs.declared.quality.Share.Share}
use Rattle.master_law.specs.Terms.{AreUnitPairs}
use Rattle.plan_law.specs.TightPlans.{AreCarriedByShare, CostsAtMostCover, CoversShare, IsProperShare}
use Rattle.share_covers.{specs.InstalledRoutes.{AreRoutedWithin, IsShortWithin, IsWideWithin, installed_caps}, specs.ShareCovers.AreShareCovers, specs.declared.choice.Chosen.Chosen, specs.declared.covers.Installed.Installed}

-- a proper share, whose routings carry the demands in each state
pub record CarriesShare (p : Case) (share : Share) (fractional : Fractional) : Type 0 where
  pub same : fractional.share ≡ share
  pub proper : IsProperShare p.links share
  pub pairs : List UnitPair
  pub units : AreUnitPairs p.links pairs
  pub carried : AreCarriedByShare p pairs fractional

-- where the quality is tight, it is so by this share
abbrev pub IsQualityOfShare : Case → Share → Quality → Type 0
IsQualityOfShare p share (Tight fractional) = CarriesShare p share fractional
IsQualityOfShare p share (Loose cause) = Unit {0}

-- why covers aren't taken: the fallback plan costs less, or some state is too wide within them, or it is short
abbrev pub RulesOutCovers : Case → ℕ → List (List ℕ) → ℕ → Type 0
RulesOutCovers p fallback_cost counts cost =
    (fallback_cost < cost)
    ⊎ (((evidence : Evidence) × IsWideWithin p (installed_caps p.links counts) evidence)
    ⊎ ((s : ℕ) × IsShortWithin p (installed_caps p.links counts) s))

-- what is chosen is the fallback plan, since the covers of the share can't be taken
pub record KeepsFallback (p : Case) (share : Share) (fallback : Fallback) (chosen : Chosen) : Type 0 where
  pub same : (chosen.counts ≡ fallback.counts) × (chosen.routings ≡ fallback.routings)
  pub installed : Installed
  pub covers : AreShareCovers p.links share installed
  pub cause : RulesOutCovers p fallback.cost installed.counts installed.cost

-- evidence of a state at covers of the share that cost less than the plan
pub record IsWideAtCovers (p : Case) (share : Share) (cost : ℕ) (evidence : Evidence) : Type 0 where
  pub installed : Installed
  pub covers : AreShareCovers p.links share installed
  pub cheaper : installed.cost < cost
  pub wide : IsWideWithin p (installed_caps p.links installed.counts) evidence

-- What becomes of a quality: it stays as it is, and where it is tight the plan costs no more than what covers the share; or it was tight, and covers that
-- cost less are too wide.
abbrev pub IsQualityAfter : Case → Share → ℕ → Quality → Quality → Type 0
IsQualityAfter p share cost (Tight fractional) after =
    ((after ≡ Tight fractional) × ((pairs : List UnitPair) → AreUnitPairs p.links pairs → CostsAtMostCover p.links pairs share cost))
    ⊎ ((evidence : Evidence) × (after ≡ Loose (Wide evidence)) × IsWideAtCovers p share cost evidence)
IsQualityAfter p share cost (Loose cause) after = after ≡ Loose cause

-- Counts that cover the share, or for a cause the fallback plan: with a routing for each state, at no more than the fallback plan's cost.
pub record IsChosen (p : Case) (share : Share) (fallback : Fallback) (before : Quality) (chosen : Chosen) : Type 0 where
  pub shape : AreCounts p.links chosen.counts
  pub limits : AreWithinLimits p.links chosen.counts
  pub routed : AreRoutedWithin p (installed_caps p.links chosen.counts) chosen.routings
  pub paid : chosen.cost ≡ total_cost p.links chosen.counts
  pub at_most : chosen.cost ≤ fallback.cost
  pub origin : ((pairs : List UnitPair) → AreUnitPairs p.links pairs → CoversShare p.links pairs share chosen.counts) ⊎ KeepsFallback p share fallback chosen
  pub quality : IsQualityAfter p share chosen.cost before chosen.quality
