pub mod ForwardStars
pub mod Pairs
pub mod Scales
pub mod Tables
pub mod TightLinks
pub mod Walks
