pub mod Limits
pub mod Handed
