pub mod Endings
pub mod NoNames
pub mod Spelling
pub mod Lines
pub mod OneLine
pub mod Passing
pub mod Spacing
