pub mod HelpTexts
pub mod Endings
pub mod inner
