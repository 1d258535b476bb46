-- Laws that belong to no one function. The public ones are for those who call judge and check_array.
mod Signed
mod Values
mod Pieces
mod Operations
mod Steps
mod Walking
pub mod WalkLaws
pub mod NamedLaws
pub mod StopLaws
mod Refusals
mod Masks
pub mod Identifiers
pub mod Settings
