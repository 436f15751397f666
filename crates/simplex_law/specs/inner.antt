pub mod Lexicographic
pub mod Measures
pub mod Pivots
pub mod Tableaux
