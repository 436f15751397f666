-- one node after another gets its new label
use Rattle.std.proofs.Common.{◌≡◌, ◌≢◌, ℕ, ◌<◌, ◌≤◌, List, length, get_or}

-- of the first k nodes, those that had the label that is given up have the one that is kept
pub record IsRelabelled (given_up kept : ℕ) (old : List ℕ) (k : ℕ) (new : List ℕ) : Type 0 where
  pub size : length new ≡ length old
  pub moved : (j : ℕ) → j < k → get_or old j 0 ≡ given_up → get_or new j 0 ≡ kept
  pub stayed : (j : ℕ) → j < k → get_or old j 0 ≢ given_up → get_or new j 0 ≡ get_or old j 0
  pub rest : (j : ℕ) → k ≤ j → get_or new j 0 ≡ get_or old j 0
