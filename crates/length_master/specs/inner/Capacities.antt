-- capacities at prices of the links' capacity
use Rattle.std.{specs.Prelude.{ℕ, zero, suc, ◌+◌, ◌*◌, List, length, map, slice_index, unsigned_abs}, specs.List.range_with_len}
use Rattle.checked_fraction.{specs.Terms.num, specs.declared.row.Row.Row}
use Rattle.module_prices.specs.declared.cheapest.UnitPair.{UnitPair}
use Rattle.plan_terms.specs.Terms.{Caps, Link}
use Rattle.master_law.specs.Terms.{unit_capacities}

-- a pre-installed capacity over den, and a price where the unit has a capacity
abbrev pub given_by : (fixed capacity price den : ℕ) → ℕ
given_by fixed zero price den = fixed * den
given_by fixed (suc c) price den = fixed * den + price

-- what link e has over the prices' denominator
abbrev pub given_at : List Link → List UnitPair → Row → ℕ → ℕ
given_at links pairs prices e =
    given_by (slice_index (map (λ l. l.fixed) links) e) (slice_index (unit_capacities pairs) e) (unsigned_abs (num prices.nums e)) (unsigned_abs prices.den)

-- what each link has over the prices' denominator
abbrev pub capacities_over : List Link → List UnitPair → Row → Caps
capacities_over links pairs prices = record { scale = unsigned_abs prices.den; nums = map (given_at links pairs prices) (range_with_len 0 (length links)) }
