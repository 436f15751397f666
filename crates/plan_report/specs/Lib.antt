pub mod Names
pub mod Items
pub mod KnownNames
pub mod Forms
pub mod Texts
pub mod inner
pub mod Terms
