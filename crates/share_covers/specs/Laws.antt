-- what the covers of a share are for a planning
use Rattle.std.specs.Prelude.{List}
use Rattle.module_prices.specs.declared.cheapest.UnitPair.{UnitPair}
use Rattle.plan_terms.specs.Terms.{Evidence, CutLine, Case}
use Rattle.plan_types.{specs.declared.plan.Plan.Plan, specs.declared.quality.Share.Share}
use Rattle.master_law.specs.Terms.{IsLeastShare, AreUnitPairs}
use Rattle.plan_law.specs.Terms.{IsLooseByWidth, CostsRawValue, Round}
use Rattle.share_covers.specs.Choices.{IsWideAtCovers}

-- evidence at the covers of a share makes a plan loose by width, where the share is a least one of the cuts and costs the raw value
abbrev pub WideCoversAreLoose : Type 0
WideCoversAreLoose = (p : Case) (pairs : List UnitPair) (share : Share) (plan : Plan) (rounds : List Round) (cuts : List CutLine) (evidence : Evidence)
    → AreUnitPairs p.links pairs
    → IsLeastShare p.links pairs cuts share
    → CostsRawValue pairs share plan
    → IsWideAtCovers p share plan.cost evidence
    → IsLooseByWidth p pairs plan rounds cuts evidence
