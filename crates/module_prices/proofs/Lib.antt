pub mod Divisors
pub mod LowestTerms
pub mod UnitCosts
pub mod UnitPairs
