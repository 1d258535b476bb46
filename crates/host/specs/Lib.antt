-- The host's row of bytes: its parts, elements of them from a place on, a wait as a number, the state that they hold, and a queue
-- that fits them.
pub mod Parts
pub mod Rows
pub mod Waits
pub mod Holding
pub mod Queue
