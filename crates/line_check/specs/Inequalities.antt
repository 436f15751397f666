-- inequalities over counts of modules: of cuts, and sums of them
use Rattle.std.{specs.Prelude.{◌≡◌, ℕ, ◌+◌, ◌-◌, ◌*◌, ◌≤◌, List, [], length, map, sum_by, zip, slice_index, slice_index_or}, specs.List.{AllZip, range_with_len}}
use Rattle.plan_terms.specs.Terms.{CutLine, Link, fixed_along, sum_below}
use Rattle.master_bound.specs.declared.answer.Multiplier.{Multiplier}
use Rattle.line_check.specs.declared.inequality.Inequality.{Inequality}

-- ---- numbers of modules

-- how many modules link e has
abbrev pub module_number : List Link → ℕ → ℕ
module_number links e = slice_index (map (λ l. length l.modules) links) e

-- the sum over all modules, by link e and place m
abbrev pub over_modules : List Link → (ℕ → ℕ → ℕ) → ℕ
over_modules links f = sum_below (length links) (λ e. sum_below (module_number links e) (f e))

-- the number of module m of link e in a table
abbrev pub entry : List (List ℕ) → ℕ → ℕ → ℕ
entry table e m = slice_index (slice_index_or table e []) m

-- the table of a number for each module, by link e and place m
abbrev pub table_of : List Link → (ℕ → ℕ → ℕ) → List (List ℕ)
table_of links f = map (λ e. map (f e) (range_with_len 0 (module_number links e))) (range_with_len 0 (length links))

-- ---- inequalities

-- counts meet an inequality: what they give, with what is given without modules, is at least its right side
abbrev pub MeetsLine : List Link → Inequality → List (List ℕ) → Type 0
MeetsLine links line counts = line.right ≤ line.given + over_modules links (λ e m. entry line.coefs e m * entry counts e m)

-- what modules have to give: the right side without what is given without them
abbrev pub need_of : Inequality → ℕ
need_of line = line.right - line.given

-- the coefficients of a cut: the capacity of each module times the length of its link
abbrev pub coefficients_of : List ℕ → List Link → List (List ℕ)
coefficients_of lengths links = map (λ p. map (λ m. p.0 * m.capacity) p.1.modules) (zip lengths links)

-- the inequality of a cut; what is given without modules is what the pre-installed capacities give
abbrev pub line_of_cut : List Link → CutLine → Inequality
line_of_cut links cut = record {
  coefs = coefficients_of cut.lengths links;
  given = fixed_along cut.lengths links;
  right = cut.right;
}

-- ---- sums

-- an inequality with its numerator
pub record WeightedLine : Type 0 where
  pub line : Inequality
  pub num : ℕ

-- the price of module m of link e along the lines, over the denominator
abbrev pub module_price : List WeightedLine → ℕ → ℕ → ℕ
module_price terms e m = sum_by (λ t. t.num * entry t.line.coefs e m) terms

-- what modules have to give for the sum of the lines
abbrev pub summed_need : List WeightedLine → ℕ
summed_need terms = sum_by (λ t. t.num * need_of t.line) terms

-- the lines that indices name, with their numerators
abbrev pub AreNamedBy : (ℕ → Inequality → Type 0) → List Multiplier → List WeightedLine → Type 0
AreNamedBy names multipliers terms = AllZip (λ m t. names m.cut t.line × (m.num ≡ t.num)) multipliers terms
