-- the opening cuts of a state
use Rattle.std.{specs.Prelude.{◌≡◌, ◌==◌, ℕ, List, [], ◌∷◌, Option, None, Some, cond, length, replicate}, specs.Cmp.Lexicographic.pointwise}
use Rattle.net_core.specs.Terms.{Graph}
use Rattle.plan_terms.{specs.Keeping.{AreZero, Keeps}, specs.Prices.ArePriceLengths}

-- what the state keeps of lengths, and nothing where they are 0 on all surviving links
abbrev pub MayKeep : Graph → List ℕ → Option (List ℕ) → Type 0
MayKeep g lengths None = AreZero g lengths
MayKeep g lengths (Some kept) = Keeps g lengths kept

-- the lengths that are there, each once
abbrev pub each_once : Option (List ℕ) → Option (List ℕ) → List (List ℕ)
each_once None None = []
each_once None (Some price) = price ∷ []
each_once (Some unit) None = unit ∷ []
each_once (Some unit) (Some price) = cond (pointwise ◌==◌ unit price) (unit ∷ []) (unit ∷ price ∷ [])

-- The lengths of the opening cuts of a state: what it keeps of lengths of 1, then what it keeps of the price lengths.
-- Lengths that are 0 on all surviving links, or equal the other ones, are left out.
pub record AreOpening (g : Graph) (cuts : List (List ℕ)) : Type 0 where
  pub prices : List ℕ
  pub priced : ArePriceLengths g.links prices
  pub unit : Option (List ℕ)
  pub price : Option (List ℕ)
  pub unit_kept : MayKeep g (replicate (length g.links) 1) unit
  pub price_kept : MayKeep g prices price
  pub are : cuts ≡ each_once unit price
