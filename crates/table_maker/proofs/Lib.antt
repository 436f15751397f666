pub mod CommonDivisors
pub mod GivenSums
pub mod HeldLines
pub mod Parting
pub mod WideLines
