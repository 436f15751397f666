pub mod Making
pub mod SummedLines
mod Moves
pub mod NamesKept
pub mod Placed
