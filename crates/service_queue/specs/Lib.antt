-- What the functions of the crate ask of the row, and what they leave.
pub mod Seated
pub mod Ended
