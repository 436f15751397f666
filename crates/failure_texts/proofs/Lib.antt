pub mod Alone
pub mod FateLists
pub mod Lines
pub mod Listing
pub mod Spelling
pub mod Survived
pub mod Growing
pub mod Reaching
