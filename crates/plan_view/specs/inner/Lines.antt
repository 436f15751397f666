-- sums over the lines of a certificate: those of one state, or all
use Rattle.std.specs.Prelude.{ℕ, ◌*◌, ◌==◌, if◌then◌else◌, Bool, true, List, Option, None, Some, sum_by}
use Rattle.plan_terms.specs.Terms.{Link, fixed_along}
use Rattle.plan_types.specs.declared.certificate.CertLine.{CertLine}

-- the line is one of these
abbrev pub is_among : Option ℕ → CertLine → Bool
is_among None l = true
is_among (Some s) l = l.cut.state.0 == s

-- what these lines ask for
abbrev pub asked_among : Option ℕ → List CertLine → ℕ
asked_among which lines = sum_by (λ l. (if is_among which l then l.num * l.cut.right else 0)) lines

-- what the pre-installed capacities give along these lines
abbrev pub given_among : List Link → Option ℕ → List CertLine → ℕ
given_among links which lines = sum_by (λ l. (if is_among which l then l.num * fixed_along l.cut.lengths links else 0)) lines
