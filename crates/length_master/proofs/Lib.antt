mod Scaling
mod Optimal
mod Slots
mod WideShares
