-- Definitions of this crate's own functions.
pub mod Value
pub mod Walk
pub mod Named
pub mod Stop
