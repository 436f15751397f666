pub mod Certain
pub mod Handing
pub mod Known
pub mod Lemmas
pub mod Proved
pub mod Roots
pub mod Told
