-- where an open box may be split
use Rattle.std.specs.Prelude.{◌≡◌, ℕ, ◌*◌, ◌^◌, ◌≤◌, ◌<◌, ◌⊎◌, List, Some, slice_get}
use Rattle.plan_terms.specs.Terms.{Link}
use Rattle.tree_check.specs.Terms.{IsFixedBox, IsFixedSpan, IsSplitOf, span_at, module_costs, TreeBox}
use Rattle.line_check.specs.Inequalities.{entry}
use Rattle.tree_boxes.specs.Terms.{Span, HasFreeValue, IsSearchBox, Place}
use Rattle.tree_search.specs.declared.choice.Choice.{Choice}

-- a box that can be split: it has several choices of counts, and the certificate of no lines doesn't close it
pub record IsSplittable (links : List Link) (cost : ℕ) (box : TreeBox) : Type 0 where
  pub search_box : IsSearchBox links (2 ^ 14) box
  pub unfixed : IsFixedBox box → ⊥
  pub below : (value : ℕ) → HasFreeValue links box value → value < cost

-- a box can be split at the choice, and its number of modules costs less than the plan
pub record IsCheapChoice (links : List Link) (cost : ℕ) (box : TreeBox) (c : Choice) : Type 0 where
  pub split : IsSplitOf box c.place.link c.place.module c.at
  pub cheap : entry (module_costs links) c.place.link c.place.module * c.at < cost

-- a box can be split at the choice, whose number of modules costs less than the plan, and is at most 2^44 or the module's least count
pub record IsTriable (links : List Link) (cost : ℕ) (box : TreeBox) (c : Choice) : Type 0 where
  pub choice : IsCheapChoice links cost box c
  pub low : (c.at ≤ 2 ^ 44) ⊎ (c.at ≡ (span_at box c.place.link c.place.module).least)

-- the span at this place has several counts
abbrev pub IsFreeSpan : List Span → ℕ → Type 0
IsFreeSpan spans m = (s : Span) × (slice_get spans m ≡ Some s) × (IsFixedSpan s → ⊥)

-- the module at this place has several counts
pub record HasFreePlace (box : TreeBox) (place : Place) : Type 0 where
  pub spans : List Span
  pub link : slice_get box place.link ≡ Some spans
  pub free : IsFreeSpan spans place.module
