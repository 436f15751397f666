-- the words that name the files of a planning
use Rattle.std.specs.Prelude.{ℕ, List, codes}

-- the files of a planning: the network's, the model's and the failure list's, in the order in which they are read
pub record PlanWords : Type 0 where
  pub network : List ℕ
  pub model : List ℕ
  pub failures : List ℕ

-- the word for a model or a failure list that is in no file
abbrev pub default : List ℕ
default = codes "default"
