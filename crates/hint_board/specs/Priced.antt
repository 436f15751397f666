-- the vectors that a board may have
use Rattle.std.specs.Prelude.{◌≡◌, ℕ, List, length}
use Rattle.route_law.specs.Terms.{ArePricedSomewhere}

-- there is a length for each of the links, and the lengths are priced for some network
pub record AreHintLengths (links : ℕ) (lengths : List ℕ) : Type 0 where
  pub count : length lengths ≡ links
  pub priced : ArePricedSomewhere lengths
