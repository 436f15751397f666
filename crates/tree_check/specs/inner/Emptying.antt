-- greatest counts along a line, module by module
use Rattle.std.specs.Prelude.{◌≡◌, ◌≢◌, ℕ, ◌*◌, ◌-◌, ◌^◌, List, Option, None, Some, IsSome, min, unwrap_or}
use Rattle.line_check.{specs.Terms.entry, specs.declared.inequality.Inequality.Inequality}
use Rattle.tree_check.{specs.Boxes.span_at, specs.declared.boxes.Span.Span}

-- module m of link e has a greatest count where its coefficient is positive
abbrev pub HasMost : Inequality → List (List Span) → ℕ → ℕ → Type 0
HasMost line box e m = entry line.coefs e m ≢ 0 → IsSome (span_at box e m).most

-- the greatest count of module m of link e, times its coefficient
abbrev pub most_at : Inequality → List (List Span) → ℕ → ℕ → ℕ
most_at line box e m = entry line.coefs e m * unwrap_or (span_at box e m).most 0

-- such a sum, or the greatest number where 128 bits don't hold it; none where a greatest count is missing
abbrev pub IsMostOf : Type 0 → ℕ → Option ℕ → Type 0
IsMostOf have sum None = have → ⊥
IsMostOf have sum (Some n) = have × (n ≡ min sum (2 ^ 128 - 1))
