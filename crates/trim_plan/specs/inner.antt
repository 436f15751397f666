pub mod Sparing
