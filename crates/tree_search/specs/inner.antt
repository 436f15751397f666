pub mod Choosing
pub mod Growing
pub mod Making
pub mod Places
pub mod Preorder
pub mod Showing
