-- the rows of a basis of key paths as they are kept, and what is told of one of them
use Rattle.std.specs.Prelude.{ℕ, ℤ, List, [], get_or, pos}
use Rattle.checked_fraction.specs.Terms.{num}
use Rattle.plan_terms.specs.Terms.{DemandSlack, LinkId}
use Rattle.route_law.specs.Terms.{AreLinkPrices, ArePricedSomewhere}
use Rattle.row_cuts.specs.declared.path_row.PathRow.{PathRow}

-- a row of the list; past its end, one without numbers
abbrev pub path_row : List PathRow → ℕ → PathRow
path_row rows i = get_or rows i (record { column = DemandSlack 0; nums = []; den = pos 0 })

-- a key of the list; past its end, the empty path
abbrev pub key_path : List (List LinkId) → ℕ → List LinkId
key_path keys k = get_or keys k []

-- the numbers of a row as the lengths of n links, without a common divisor, and priced with nothing named
pub record ArePricedNumbers (n : ℕ) (nums : List ℤ) (lengths : List ℕ) : Type 0 where
  pub of_row : AreLinkPrices n (num nums) lengths
  pub somewhere : ArePricedSomewhere lengths
