-- What an event leaves and answers.
pub mod After
pub mod Waiting
pub mod Calls
