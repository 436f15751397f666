-- lengths that have a bound of their own
use Rattle.std.specs.Prelude.{◌≡◌, ◌≢◌, ℕ, ◌<◌, List, [], Any, Some, length, slice_get, slice_index}
use Rattle.plan_terms.specs.Terms.{Link}

-- lengths of links that have a bound of their own: one per link, one of them positive, and none where a link has no module
pub record HaveBound (links : List Link) (lengths : List ℕ) : Type 0 where
  pub count : length lengths ≡ length links
  pub positive : Any (λ x. 0 < x) lengths
  pub served : (e : ℕ) (l : Link) → slice_get links e ≡ Some l → slice_index lengths e ≢ 0 → l.modules ≢ []
