pub mod Dearest
