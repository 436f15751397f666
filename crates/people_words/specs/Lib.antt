pub mod GivenWords
pub mod PeopleCommands
pub mod AskedCommands
pub mod inner
