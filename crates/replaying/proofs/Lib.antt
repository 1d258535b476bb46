-- Laws of the definitions.
pub mod Turns
pub mod Starts
pub mod Replies
pub mod Going
pub mod Whole
pub mod Texts
pub mod Beginnings
pub mod Examples
