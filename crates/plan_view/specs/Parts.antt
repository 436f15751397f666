-- which part of a bound the cuts of each state pay for, and how far a cost is from its bound
use Rattle.std.specs.Prelude.{◌≡◌, ℕ, ◌-◌, ◌*◌, ◌==◌, if◌then◌else◌, List, max, min, sum_by}
use Rattle.plan_terms.specs.Terms.{Link, fixed_along, raw_value}
use Rattle.plan_types.specs.Terms.{lines_of_certificate}
use Rattle.plan_report.specs.Terms.{CertLine, Certificate}
use Rattle.plan_view.specs.Rounding.{IsNearest}

-- what the cuts of state s ask for
abbrev pub asked_in_state : List CertLine → ℕ → ℕ
asked_in_state lines s = sum_by (λ l. (if l.cut.state.0 == s then l.num * l.cut.right else 0)) lines

-- what the pre-installed capacities give along the cuts of state s
abbrev pub given_in_state : List Link → List CertLine → ℕ → ℕ
given_in_state links lines s = sum_by (λ l. (if l.cut.state.0 == s then l.num * fixed_along l.cut.lengths links else 0)) lines

-- what the cuts of state s ask for beyond what is in place, at most the raw value
abbrev pub paid_by : List Link → Certificate → ℕ → ℕ
paid_by links c s = min (asked_in_state c.lines s - given_in_state links c.lines s) (raw_value links (lines_of_certificate c))

-- the gap in thousandths of the cost: what the cost is above the bound, to the nearest, and never 0 where the cost is above the bound
pub record IsGap (cost bound gap : ℕ) : Type 0 where
  pub thousandths : ℕ
  pub near : IsNearest (1000 * (cost - bound)) cost thousandths
  pub some : gap ≡ max thousandths (min 1 (cost - bound))
