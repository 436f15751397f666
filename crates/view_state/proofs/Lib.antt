pub mod Few
pub mod StateRows
pub mod StateTexts
