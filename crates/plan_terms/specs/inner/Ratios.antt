-- the least ratio of a cost and a size, from which the greatest valid multiplier comes
use Rattle.std.specs.Prelude.{◌≡◌, ℕ, ◌*◌, ◌≤◌, ◌<◌, List, Some, All, Any, slice_get, slice_index}
use Rattle.net_core.specs.declared.network.Link.{Link}

-- cost / size is the least cost / (capacity · length) over all modules of the links of positive length
pub record IsLeastRatio (links : List Link) (lengths : List ℕ) (cost size : ℕ) : Type 0 where
  pub positive : 0 < size
  pub number : ℕ
  pub link : Link
  pub at : slice_get links number ≡ Some link
  pub reached : Any (λ m. (m.cost ≡ cost) × (m.capacity * slice_index lengths number ≡ size)) link.modules
  pub least : (e : ℕ) (l : Link) → slice_get links e ≡ Some l → All (λ m. cost * (m.capacity * slice_index lengths e) ≤ m.cost * size) l.modules
