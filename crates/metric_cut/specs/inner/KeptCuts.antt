-- the opening cuts of a state, from what it keeps of two lists of lengths
use Rattle.std.{specs.Prelude.{◌==◌, ℕ, List, [], ◌∷◌, Option, None, Some, cond}, specs.Cmp.Lexicographic.pointwise}
use Rattle.plan_terms.specs.Terms.{Graph, ArePriceLengths}
use Rattle.metric_cut.{specs.Cuts.MayKeepCut, specs.declared.cut.Cut.Cut}

-- a cut of what the state keeps of the price lengths
abbrev pub MayKeepPrices : Graph → Option Cut → Type 0
MayKeepPrices g cut = (prices : List ℕ) × ArePriceLengths g.links prices × MayKeepCut g prices cut

-- the cuts that are there, each once
abbrev pub each_cut_once : Option Cut → Option Cut → List Cut
each_cut_once None None = []
each_cut_once None (Some price) = price ∷ []
each_cut_once (Some unit) None = unit ∷ []
each_cut_once (Some unit) (Some price) = cond (pointwise ◌==◌ unit.lengths price.lengths) (unit ∷ []) (unit ∷ price ∷ [])
