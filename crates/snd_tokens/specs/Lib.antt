pub mod Amounts
pub mod Digits
pub mod Header
pub mod Tokens
pub mod Lexemes
pub mod Wholes
pub mod Terms
