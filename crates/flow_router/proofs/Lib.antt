pub mod Answering
pub mod CutPrices
pub mod Dividing
pub mod Flowing
