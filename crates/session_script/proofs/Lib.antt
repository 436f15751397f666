pub mod ScriptWords
pub mod ScriptLaws
