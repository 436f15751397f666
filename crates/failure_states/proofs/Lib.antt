pub mod Labelling
pub mod Relabelling
pub mod Splits
pub mod Taking
