pub mod Drafts
pub mod FullLinks
pub mod Orders
