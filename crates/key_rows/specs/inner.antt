pub mod Candidates
pub mod Entrants
pub mod Orders
pub mod Tried
pub mod Written
