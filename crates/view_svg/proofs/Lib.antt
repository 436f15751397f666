pub mod ChangedLoads
pub mod FirstPlans
pub mod NodeTexts
pub mod Pieces
