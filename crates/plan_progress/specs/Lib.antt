pub mod ProgressLines
