pub mod Appended
pub mod Apart
pub mod Lemmas
pub mod ModuleWords
pub mod Few
