pub mod Beginnings
pub mod Decimals
pub mod EditBounds
pub mod NearNames
pub mod NotesByKind
pub mod Questions
