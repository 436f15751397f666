pub mod Divisors
pub mod Solutions
pub mod inner
