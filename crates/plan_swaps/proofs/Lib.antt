pub mod Lemmas
pub mod Shapes
pub mod Swapped
