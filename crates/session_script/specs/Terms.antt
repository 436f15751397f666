-- The words of this crate, passed on from one place to other crates. Declares nothing.
pub use Rattle.session_script.specs.ScriptKinds.{script_kind_word}
pub use Rattle.session_script.specs.ScriptReading.{script_of}
pub use Rattle.session_script.specs.Scripts.{IsActInForm, IsCommandInForm, IsScript, SpellsScript, asks_plan, is_plan}
