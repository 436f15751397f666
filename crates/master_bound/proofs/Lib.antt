mod Amounts
mod Asked
mod Certifying
mod Costs
mod Entering
pub mod Greatest
mod Lowest
mod Multipliers
mod Networks
mod Optima
mod UnitPairs
