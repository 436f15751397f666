-- the lines that say why a file is refused
use Rattle.std.specs.Prelude.{◌≡◌, ℕ, List, [], ◌∷◌, ◌++◌, Result, Err, codes, decimal}

-- the line of a refused file: which file it is, the fault, and its place
abbrev pub refusal_line : List ℕ → List ℕ → ℕ → List ℕ
refusal_line file word at = codes "refused " ++ file ++ 32 ∷ word ++ codes " at " ++ decimal at ++ 10 ∷ []

-- the line of a failure file beside a model without survivability
abbrev pub unused_line : List ℕ
unused_line = refusal_line (codes "failures") (codes "unused") 0

-- the bytes spell nothing in their format, and the text names the first fault that reading them gives
pub record Refuses {X Y K : Type 0} (Spells : List ℕ → X → Type 0) (reading : List ℕ → Result Y (ℕ × K)) (file : List ℕ)
    (word : K → List ℕ) (bytes text : List ℕ) : Type 0 where
  pub nothing : (x : X) → Spells bytes x → ⊥
  pub at : ℕ
  pub kind : K
  pub first : reading bytes ≡ Err (at, kind)
  pub printed : text ≡ refusal_line file (word kind) at
