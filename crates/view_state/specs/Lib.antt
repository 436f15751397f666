pub mod NamedStates
pub mod StateHeadings
pub mod StateTables
pub mod StateViews
pub mod Terms
