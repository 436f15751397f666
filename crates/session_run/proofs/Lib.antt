pub mod Callers
mod Closing
pub mod Counts
mod Dealt
mod FormProps
mod Journals
mod Meeting
mod Merging
pub mod Lemmas
pub mod OutcomeForms
mod Planning
mod Replies
mod ReportForms
pub mod Runs
mod Sent
mod Sofar
mod Steps
mod Turns
