pub mod Controls
pub mod FaultTexts
pub mod Quotes
