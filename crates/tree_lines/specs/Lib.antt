pub mod TreeLines
