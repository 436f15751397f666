pub mod Admitting
pub mod Answering
pub mod Pooling
pub mod Rooms
pub mod Seeing
pub mod SomeAnswers
pub mod Lemmas
mod SomeBoards
mod Somewhere
