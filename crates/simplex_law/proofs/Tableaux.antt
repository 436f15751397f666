-- tableaux, as the proofs of other crates name them
pub use Rattle.simplex_law.specs.inner.Tableaux.{IsFilling, IsTableau}
