pub mod BoxPrograms
pub mod BoxRows
