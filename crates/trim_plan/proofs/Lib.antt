pub mod AtMost
pub mod Lemmas
pub mod Placing
pub mod Least
pub mod Lowering
pub mod Plans
mod Pricing
pub mod Routed
